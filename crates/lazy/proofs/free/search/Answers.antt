-- The row is cut from a longer one.
use Rattle.std.proofs.Common.{false, arith, ◌∙◌, ap}
use Rattle.std.proofs.lemmas.List.{take-replicate}
use Rattle.lazy.specs.Row.{empty_row}
use Rattle.lazy.proofs.free.search.Goals as goal

pub search_with-requires : goal.search_with-requires
search_with-requires c = take-replicate c.nodes.result.count 64 false (omega (arith, c.if-count-le64.true)) ∙ ap empty_row c.nodes.ensures.count

pub search_with-requires-2 : goal.search_with-requires-2
search_with-requires-2 c = take-replicate c.nodes.result.count 1024 false (omega (arith, c.nodes.result.spans)) ∙ ap empty_row c.nodes.ensures.count
