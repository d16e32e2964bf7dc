-- The header places the node records.
use Rattle.std.proofs.Common.{sym, ◌∙◌, arith}
use Rattle.words.specs.Layout.{node_part}
use Rattle.words.proofs.HeaderLaws.{part_long}
use Rattle.convert.specs.Layouts.{layout_refusals}
use Rattle.convert.proofs.Accepted.{ordered_by}
use Rattle.convert.proofs.source.Source.new.Goals as goal

pub slice_bounds-result-count : goal.slice_bounds-result-count
slice_bounds-result-count c =
    let header = ordered_by c.args.has_lengths c.args.words.now (sym c.is_short.ensures ∙ c.if-is_short.false) (sym c.has_header.ensures ∙ c.if-not-has_header.false) in
    omega (arith, header, c.word-from.ensures, c.word-total.ensures)

pub slice_bounds-result-start : goal.slice_bounds-result-start
slice_bounds-result-start c =
    let header = ordered_by c.args.has_lengths c.args.words.now (sym c.is_short.ensures ∙ c.if-is_short.false) (sym c.has_header.ensures ∙ c.if-not-has_header.false) in
    omega (arith, header, c.word-from.ensures, c.word-total.ensures)

pub invariant_of-result : goal.invariant_of-result
unfolding node_part layout_refusals
invariant_of-result c =
    let words = c.args.words.now in
    let long = sym c.is_short.ensures ∙ c.if-is_short.false in
    let right = sym c.has_header.ensures ∙ c.if-not-has_header.false in
    let part = part_long words (ordered_by c.args.has_lengths words long right) in
    record {
      tested = rw (long, right);
      part = (rw (c.word-from.ensures, c.word-total.ensures), c.word.ensures);
      spans = rw (c.word.ensures, c.word-from.ensures, c.word-total.ensures) part;
    }
