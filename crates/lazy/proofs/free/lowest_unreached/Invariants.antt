-- The invariant: the lowest node that was not reached is the lowest of those from here on.
use Prim.Native.Nat.{◌-◌}
use mathlib.Core.Path.{◌≡◌}
use lib.ListN.{length}
use Rattle.lazy.specs.Free.{lowest_from}
use Rattle.lazy.specs.Row.{holds}
use Rattle.lazy.proofs.free.lowest_unreached.Given as goal

abbrev pub invariant-loop-node : goal.invariant-loop-node
invariant-loop-node l = lowest_from (holds l.reached) (length l.reached) 0 ≡ lowest_from (holds l.reached) (length l.reached - l.node) l.node
