-- Header, workers and nodes are one run of words.
use Rattle.std.proofs.Common.{◌≡◌, sym, ◌∙◌, arith, length}
use borrow.Rule.Slice.PartMut.{mid_len}
use Rattle.words.proofs.Bounds.{counts}
use Rattle.words.proofs.Runs.{part_sets}
use Rattle.arena.proofs.FreshLaws.{fresh_nodes_length, fresh_runs}
use Rattle.arena.proofs.fresh.write_fresh.Goals as goal

pub write_nodes-requires : goal.write_nodes-requires
write_nodes-requires c =
    let args = c.args in
    let it = args.counts in
    let known = counts it.workers it.nodes it.good in
    let long : length args.arena.now ≡ length c.write_workers.new.arena = sym (c.write_workers.auto.arena ∙ c.write_record.auto.arena) in
    let whole = c.total-end.ensures in
    let from = c.worker_from-from.ensures in (
      omega (arith, known),
      mid_len c.worker_from-from.result c.total-end.result c.write_workers.new.arena (omega (arith, whole, long, c.requires))
          ∙ rw (whole, from) (omega arith),
    )

pub returns : goal.returns
returns c =
    let args = c.args in
    let it = args.counts in
    let known = counts it.workers it.nodes it.good in
    let long : length args.arena.now ≡ length c.write_workers.new.arena = sym (c.write_workers.auto.arena ∙ c.write_record.auto.arena) in
    let nodes = c.write_nodes in
    let whole = c.total-end.ensures in
    let from = c.worker_from-from.ensures in
    part_sets nodes.new.nodes c.write_workers.new.arena c.worker_from-from.result c.total-end.result
    (rw (whole, from) (omega arith)) (omega (arith, whole, long, c.requires))
    (rw (nodes.ensures, whole, from) (fresh_nodes_length it.nodes (omega (arith, known)) ∙ omega arith))
    ∙ rw (nodes.ensures, from, c.write_workers.ensures, c.write_record.ensures, c.header.ensures)
    (fresh_runs args.arena.now it.workers it.nodes)
