-- What is claimed of the search and of a turn on an arena, in document 01's words. `FreeLaws`, `TurnLaws` and `InsideLaws` have the proofs.
use Rattle.std.specs.Prelude.{ℕ, ◌-◌, ◌<◌, ◌≤◌, ◌≡◌, ◌≢◌, ◌⊎◌, ◌↔◌, length}
use mathlib.Core.List.{List, Memᴰ}
use Rattle.worker.specs.Report.{answer_number}
use Rattle.worker.specs.declared.Worker.{Worker}
use Rattle.worker.specs.declared.report.Answer.TheVariants.{Full}
use Rattle.worker.specs.declared.report.Step.{Step}
use Rattle.worker.specs.declared.report.Effect.{Effect}
use Rattle.worker.specs.declared.report.Effect.TheVariants.{Nothing, SetOwner, SetNext, SetMark, Fill}
use Rattle.worker.specs.declared.report.Growth.{Growth}
use Rattle.worker.specs.declared.report.Growth.TheVariants.{Stays, OneMore, OneLess}
use Rattle.words.specs.Layout.{workers_of, nodes_of, stored_at, node_width, nodes_from, total_of, node_from, node_next, node_mark, node_owner}
use Rattle.words.specs.Records.{Outside}
use Rattle.arena.specs.Lists.{Pairs}
use Rattle.lazy.specs.Free.{IsFree}
use Rattle.lazy.specs.FindFree.{next_in, roots_in}

-- no run of next links leads to the node from node 0, node 1, or the pred, curr or spare of any worker
abbrev pub FreeIn : List ℕ → ℕ → Type 0
FreeIn arena = IsFree (next_in arena) (nodes_of arena) (roots_in arena)

-- so many nodes are not free: a list of that length has each of them once, and nothing else (`FreeLaws.reads_not_free`)
pub record NotFree (arena : List ℕ) (many : ℕ) : Type 0 where
  pub nodes : List ℕ
  pub once : Pairs (λ a b. b < a) nodes
  pub exact : (node : ℕ) → Memᴰ node nodes ↔ ((node < nodes_of arena) × (FreeIn arena node → ⊥))
  pub counted : length nodes ≡ many

-- a turn at 14 (`TurnLaws.takes_free`)
module _ (arena : List ℕ) (w : Worker) (step : Step) where
  -- takes the lowest-numbered free node
  pub record Takes : Type 0 where
    pub node : ℕ
    pub effect : step.effect ≡ Fill node w.key w.curr w.length
    pub free : FreeIn arena node
    pub lowest : (lower : ℕ) → lower < node → FreeIn arena lower → ⊥

  -- or answers full, and there is none
  pub record IsFull : Type 0 where
    pub effect : step.effect ≡ Nothing
    pub answer : step.worker.answer ≡ answer_number Full
    pub none : (node : ℕ) → FreeIn arena node → ⊥

-- a place that an effect writes: a field of its node, or all of them (`TurnLaws.turn_leaves`)
abbrev pub Touches : List ℕ → Effect → ℕ → Type 0
Touches arena Nothing at = ⊥
Touches arena (SetOwner node owner) at = at ≡ node_from arena node node_owner
Touches arena (SetNext node next) at = at ≡ node_from arena node node_next
Touches arena (SetMark node) at = at ≡ node_from arena node node_mark
Touches arena (Fill node key next length) at = (field : ℕ) × (field < node_width) × (at ≡ node_from arena node field)

-- and the place of the count, where a step changes it
abbrev pub Recounts : Growth → ℕ → Type 0
Recounts Stays at = ⊥
Recounts OneMore at = at ≡ stored_at
Recounts OneLess at = at ≡ stored_at

-- document 02's words on a broken count: stage 16 on a count of 0, and stage 15 on a count of N less 2 (`TurnLaws.count_refused`)
abbrev pub BadCount : ℕ → ℕ → ℕ → Type 0
BadCount nodes stored stage = ((stage ≡ 16) × (stored ≡ 0)) ⊎ ((stage ≡ 15) × (stored ≡ nodes - 2))

-- a place that no turn of a worker writes: in the header, but for its count; in another worker's record; or past the total
-- (`InsideLaws.turn_inside`)
abbrev pub Elsewhere : List ℕ → ℕ → ℕ → Type 0
Elsewhere arena worker at =
    ((at < nodes_from (workers_of arena)) × (at ≢ stored_at) × Outside worker at) ⊎ (total_of arena ≤ at)
