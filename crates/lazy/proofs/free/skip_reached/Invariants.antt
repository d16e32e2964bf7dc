-- The invariant: the nodes passed were all reached.
use Prim.Native.Nat.{◌*◌}
use Rattle.lazy.specs.Row.{AllHeld}
use Rattle.lazy.proofs.free.skip_reached.Given as goal

abbrev pub invariant-loop-eight : goal.invariant-loop-eight
invariant-loop-eight l = AllHeld l.reached 0 (l.eight * 8)
