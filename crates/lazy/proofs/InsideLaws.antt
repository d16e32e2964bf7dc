-- What no turn writes to: the header, but for its count, the other workers' records, and the words past the total.
use Prim.Native.Nat.{ℕ, suc, ◌<◌, ◌≤◌}
use mathlib.Core.Path.{◌≡◌, refl}
use mathlib.Core.Logic.{inl, inr}
use mathlib.Core.List.{List}
use native.Mathlib.Omega.{arith}
use Rattle.std.specs.Prelude.{Option, Some, None}
use Rattle.worker.specs.declared.refusal.Refusal.{Refusal}
use Rattle.worker.specs.declared.report.Step.{Step}
use Rattle.worker.specs.declared.report.Effect.{Effect}
use Rattle.worker.specs.declared.report.Effect.TheVariants as effect
use Rattle.worker.specs.declared.report.Growth.{Growth}
use Rattle.std.specs.Prelude.{Result, Ok, Err}
use Rattle.worker.proofs.EffectLaws.{EffectBelow, FreeBelow, done_below}
use Rattle.words.specs.Layout.{word, workers_of, nodes_of, nodes_from_of, total_of, node_width, node_from, node_next, node_mark, node_owner}
use Rattle.words.specs.Records.{worker_at, Outside}
use Rattle.words.proofs.HeaderLaws.{Header}
use Rattle.words.proofs.Slots.{slot_within}
use Rattle.lazy.specs.Turn.{seen_of, seen_by, turn_on, turn_arena}
use Rattle.lazy.specs.FindFree.{next_in, roots_in, found_in}
use Rattle.lazy.specs.Claims.{Touches, Recounts, Elsewhere}
use Rattle.lazy.proofs.FreeLaws.{lowest_found}
use Rattle.lazy.proofs.ChangeLaws.{recounted}
use Rattle.lazy.proofs.TurnLaws.{turn_leaves, turn_accepted}

-- the node of a turn's effect is below N
pub effect_below : (arena : List ℕ) (worker : ℕ) {step : Step} → turn_on arena worker ≡ Ok step → EffectBelow (nodes_of arena) step.effect
unfolding seen_by seen_of
effect_below arena worker e =
    done_below (worker_at arena worker) (suc worker) (seen_by arena (worker_at arena worker)) (turn_accepted arena worker e).done
    (go (found_in arena).free refl)
  where
    go : (found : Option ℕ) → (found_in arena).free ≡ found → FreeBelow (nodes_of arena) found
    go None same = tt
    go (Some node) same = (lowest_found (next_in arena) (nodes_of arena) (roots_in arena) same).0.below

-- a field of a node below N stands among the node records
pub field_inside : (arena : List ℕ) (node field : ℕ) → Header arena → node < nodes_of arena → field < node_width →
    (nodes_from_of arena ≤ node_from arena node field) × (node_from arena node field < total_of arena)
unfolding node_from
field_inside arena node field header below fits =
    let inside = slot_within node_width node (nodes_of arena) field below fits in
    (omega arith, omega (arith, header.from, header.end))

module _ (arena : List ℕ) (worker at : ℕ) where
  outside : worker < workers_of arena → Header arena → Elsewhere arena worker at → Outside worker at
  outside known header (inl before) = before.2
  outside known header (inr behind) = inr (omega (arith, header.end))

  away : (node field : ℕ) → Header arena → Elsewhere arena worker at → node < nodes_of arena → field < node_width →
      at ≡ node_from arena node field → ⊥
  away node field header (inl before) below fits e =
      let inside = field_inside arena node field header below fits in omega (arith, before.0, inside.0, header.from)
  away node field header (inr behind) below fits e =
      let inside = field_inside arena node field header below fits in omega (arith, behind, inside.1)

  not_touched : (e : Effect) → Header arena → Elsewhere arena worker at → EffectBelow (nodes_of arena) e → Touches arena e at → ⊥
  not_touched effect.Nothing header else below touched = touched
  not_touched (effect.SetOwner node owner) header else below touched = away node node_owner header else below (omega arith) touched
  not_touched (effect.SetNext node next) header else below touched = away node node_next header else below (omega arith) touched
  not_touched (effect.SetMark node) header else below touched = away node node_mark header else below (omega arith) touched
  not_touched (effect.Fill node key next length) header else below touched =
      away node touched.0 header else below touched.1 touched.2

  not_counted : (g : Growth) → Header arena → Elsewhere arena worker at → Recounts g at → ⊥
  not_counted g header (inl before) counts = before.1 (recounted g at counts)
  not_counted g header (inr behind) counts =
      let same = recounted g at counts in omega (arith, behind, header.end)

  -- a turn leaves the header, but for its count, the other workers' records and the words past the total
  pub turn_inside : Elsewhere arena worker at → word (turn_arena arena worker) at ≡ word arena at
  unfolding turn_arena
  turn_inside else = go (turn_on arena worker) refl
    where
      go : (t : Result Step Refusal) → turn_on arena worker ≡ t → word (turn_arena arena worker) at ≡ word arena at
      go (Err number) e = rw e
      go (Ok step) e =
          let it = turn_accepted arena worker e in
          turn_leaves arena worker at e (outside it.known it.header else)
          (not_touched step.effect it.header else (effect_below arena worker e)) (not_counted step.growth it.header else)
