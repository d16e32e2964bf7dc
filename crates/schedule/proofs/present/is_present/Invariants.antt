-- The invariant: the walk has passed nodes with lower keys, and those that are left decide.
use Prim.Native.Nat.{◌-◌}
use Rattle.schedule.proofs.Presence.{Ahead}
use Rattle.schedule.proofs.present.is_present.Given as goal

abbrev pub invariant-loop-node : goal.invariant-loop-node
invariant-loop-node l = Ahead l.arena l.key l.node.key l.node.next

abbrev pub decreases-loop-node : goal.decreases-loop-node
decreases-loop-node l = 65536 - l.node.key
