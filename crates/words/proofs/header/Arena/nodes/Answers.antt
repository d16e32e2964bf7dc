-- The header places the node records.
use native.Mathlib.Omega.{arith}
use Rattle.words.specs.Layout.{node_part}
use Rattle.words.proofs.HeaderLaws.{header_holds, all_spanned}
use Rattle.words.proofs.header.Arena.nodes.Goals as goal

pub slice_bounds-result-count : goal.slice_bounds-result-count
slice_bounds-result-count c = omega (arith, header_holds c.args.self.words.now c.args.self.tested, c.word-from.ensures, c.word-total.ensures)

pub slice_bounds-result-start : goal.slice_bounds-result-start
slice_bounds-result-start c = omega (arith, header_holds c.args.self.words.now c.args.self.tested, c.word-from.ensures, c.word-total.ensures)

pub slice_bounds-result-end : goal.slice_bounds-result-end
slice_bounds-result-end c = omega (arith, header_holds c.args.self.words.now c.args.self.tested, c.word-total.ensures)

pub invariant_of-result : goal.invariant_of-result
unfolding node_part
invariant_of-result c =
    let words = c.args.self.words.now in
    let header = header_holds words c.args.self.tested in
    record { spans = rw (c.word.ensures, c.word-from.ensures, c.word-total.ensures) (unfold node_part in (all_spanned words header)) }

pub returns-clause-words : goal.returns-clause-words
unfolding node_part
returns-clause-words c = rw (c.word-total.ensures, c.word-from.ensures)
