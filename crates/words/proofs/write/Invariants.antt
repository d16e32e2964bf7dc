-- The invariant: to write the values that are left makes the whole.
use Prim.Native.Nat.{◌+◌}
use mathlib.Core.Path.{◌≡◌}
use lib.ListN.{drop}
use lib.Seq.{sets}
use Rattle.words.proofs.write.Given as goal

abbrev pub invariant-loop-i : goal.invariant-loop-i
invariant-loop-i l = sets l.words (l.at + l.i) (drop l.i l.values) ≡ sets l.initial.words l.at l.values
