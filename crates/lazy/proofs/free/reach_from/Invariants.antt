-- Each turn of the loop puts one more node into the row and reads one more link, and no more fit in than there are nodes.
use Prim.Native.Nat.{◌-◌}
use mathlib.Core.Path.{◌≡◌}
use lib.ListN.{length}
use Rattle.lazy.specs.Row.{next_at, held}
use Rattle.lazy.proofs.Walk.{Walking}
use Rattle.lazy.proofs.free.reach_from.Given as goal

abbrev pub invariant-loop-node : goal.invariant-loop-node
invariant-loop-node l =
    Walking (next_at l.nodes) (length l.initial.reached) l.root l.initial.reached l.reached l.node
    × (l.so_far ≡ held (length l.initial.reached) l.reached)

abbrev pub decreases-loop-node : goal.decreases-loop-node
decreases-loop-node l = length l.initial.reached - held (length l.initial.reached) l.reached
