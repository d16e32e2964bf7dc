-- The invariant: the first i words agree, so the rest decides.
use mathlib.Core.Path.{◌≡◌}
use lib.ListN.{drop}
use Rattle.words.specs.Header.{agrees}
use Rattle.words.proofs.header.agree.Given as goal

abbrev pub invariant-loop-i : goal.invariant-loop-i
invariant-loop-i l = agrees l.words 0 l.values ≡ agrees l.words l.i (drop l.i l.values)
