-- Good counts keep the offsets within a word.
use Rattle.std.proofs.Common.{arith}
use native.Mathlib.Nat.{mul-le-mul_left}
use Rattle.words.proofs.Bounds.{counts}
use Rattle.words.proofs.layout.Counts.header_with.Goals as goal

pub overflow_cast-result-3 : goal.overflow_cast-result-3
overflow_cast-result-3 c =
    let self = c.args.self in
    let known = counts self.workers self.nodes self.good in
    omega (arith, known, mul-le-mul_left c.args.width known.few_nodes)
