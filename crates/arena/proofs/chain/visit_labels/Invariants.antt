-- The invariant: the walk from here shows the visitor, as it is now, what the whole walk shows the visitor that was lent. Keys rise, so the last key
-- bounds the steps, and those that are left are enough.
use Prim.Native.Nat.{ℕ, ◌+◌, ◌≤◌, ◌<◌, ◌-◌}
use mathlib.Core.Path.{◌≡◌}
use Rattle.arena.specs.Sets.{walk}
use Rattle.arena.proofs.Walks.{told}
use Rattle.arena.proofs.chain.visit_labels.Given as goal

abbrev pub invariant-loop-at : goal.invariant-loop-at
invariant-loop-at g l =
    (l.last < 65536)
    × (steps : ℕ)
    × (65536 ≤ l.last + steps)
    × (told (g.R.NodeRecords.nodes l.records) (g.R.NodeRecords.count l.records) g.V.Visitor.visited l.initial.visitor (walk (g.R.NodeRecords.nodes l.records) (g.R.NodeRecords.count l.records) 65536 l.initial.last l.initial.at)
    ≡ told (g.R.NodeRecords.nodes l.records) (g.R.NodeRecords.count l.records) g.V.Visitor.visited l.visitor (walk (g.R.NodeRecords.nodes l.records) (g.R.NodeRecords.count l.records) steps l.last l.at))

abbrev pub decreases-loop-at : goal.decreases-loop-at
decreases-loop-at g l = 65536 - l.last
