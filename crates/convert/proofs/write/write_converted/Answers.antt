-- The words before the node records and these are one run of words.
use Rattle.std.proofs.Common.{◌≡◌, ◌*◌, ◌++◌, sym, ap, ◌∙◌, arith, length, drop}
use borrow.Rule.Slice.PartMut.{mid_len}
use lib.ListN.{length-append, length-drop}
use lib.Seq.{length-take-le}
use Rattle.worker.specs.Node.{with_length}
use Rattle.words.specs.Layout.{workers_of, nodes_of, worker_from}
use Rattle.words.specs.Flat.{flat_words}
use Rattle.arena.specs.Lists.{numbers_from}
use Rattle.convert.specs.Layouts.{first_words, width}
use Rattle.convert.specs.Convert.{source_node, converted, new_node}
use Rattle.convert.proofs.Accepted.{ordered, records_long}
use Rattle.convert.proofs.Fronts.{parts_run, front_long, front_rewritten, new_total_fits}
use Rattle.convert.proofs.NodeRecords.{width_bounds, same_records}
use Rattle.convert.proofs.write.write_converted.Goals as goal

pub slice_bounds-write_front-end-3 : goal.slice_bounds-write_front-end-3
slice_bounds-write_front-end-3 c =
    let source = c.args.source in
    let from = c.worker_from-from.ensures ∙ ap worker_from c.worker_count.ensures in
    rw from (sym (front_long source.has_lengths source.words.now (ordered source.has_lengths source.words.now source.tested)))

pub overflow_cast-end : goal.overflow_cast-end
overflow_cast-end c =
    let source = c.args.source in
    let fits = new_total_fits source.has_lengths source.words.now (ordered source.has_lengths source.words.now source.tested) c.args.members.now.lengthening in
    rw (c.total-end.ensures, c.worker_count-2.ensures, source.part.1) (omega arith)

pub write_front-requires : goal.write_front-requires
write_front-requires c =
    let source = c.args.source in
    let long = front_long source.has_lengths source.words.now (ordered source.has_lengths source.words.now source.tested) in
    let from = c.worker_from-from.ensures ∙ ap worker_from c.worker_count.ensures in (
      rw (from, long) (omega arith),
      rw (from, long) (sym (length-take-le (worker_from (workers_of source.words.now)) c.args.target.now (omega (arith, c.requires.room)))),
    )

pub write_nodes-requires : goal.write_nodes-requires
write_nodes-requires c =
    let target = c.args.target.now in
    let lengthening = c.args.members.now.lengthening in
    let from = c.worker_from-from.ensures ∙ ap worker_from c.worker_count.ensures in
    let part = c.args.source.part in
    let end = rw (c.worker_count-2.ensures, part.1) at c.total-end.ensures in
    let front : length c.write_front.new.front ≡ c.worker_from-from.result
    = c.write_front.auto.front ∙ length-take-le c.worker_from-from.result target (omega (arith, from, c.requires.room)) in
    let long : length (c.write_front.new.front ++ drop c.worker_from-from.result target) ≡ length target
    = rw (length-append, length-drop, front) (omega (arith, from, c.requires.room)) in (
      rw c.width.ensures (width_bounds lengthening).0,
      rw c.width.ensures (width_bounds lengthening).1,
      mid_len c.worker_from-from.result c.total-end.result _ (rw long (omega (arith, end, c.requires.room)))
          ∙ rw (end, from, c.width.ensures, part.1) (omega arith),
    )

pub returns : goal.returns
unfolding converted
returns c =
    let args = c.args in
    let source = args.source.words.now in
    let target = args.target.now in
    let lengthening = args.members.now.lengthening in
    let lengths = args.members.now.lengths.now in
    let header = ordered args.source.has_lengths source args.source.tested in
    let part = args.source.part in
    let from = c.worker_from-from.ensures ∙ ap worker_from c.worker_count.ensures in
    let end = rw (c.worker_count-2.ensures, part.1) at c.total-end.ensures in
    let long : length c.write_front.new.front ≡ c.worker_from-from.result
    = c.write_front.auto.front ∙ length-take-le c.worker_from-from.result target (omega (arith, from, c.requires.room)) in
    let front = rw (from, end, c.new_count.ensures, c.number.ensures) at c.write_front.ensures in
    let record_of = new_node lengthening source lengths in
    let records : c.write_nodes.new.target ≡ flat_words record_of (numbers_from 0 (nodes_of source))
    = (rw (part.1, c.width.ensures, c.requires.other) at c.write_nodes.ensures)
    ∙ same_records _ record_of 0 (nodes_of source)
    (λ node there. ap (λ cells. first_words (width lengthening) (with_length (source_node lengthening source node) cells)) (c.requires.members.lengths_are node (omega arith))) in
    let many : length c.write_nodes.new.target ≡ width lengthening * nodes_of source = rw records (records_long lengthening source lengths) in
    parts_run c.write_front.new.front c.write_nodes.new.target target c.worker_from-from.result c.total-end.result long
    (omega (arith, from, end)) (omega (arith, end, c.requires.room)) (rw (many, from, end) (omega arith))
    ∙ rw (front, records, front_rewritten args.source.has_lengths source header lengthening, c.requires.members.counted)
