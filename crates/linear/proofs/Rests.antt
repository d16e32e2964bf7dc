-- An idle worker has the idle record: only the turn at 21 makes a worker idle, and it writes that.
use Prim.Native.Nat.{ℕ, zero, suc, ◌<◌}
use mathlib.Core.Path.{◌≡◌, sym, ap, subst, ◌∙◌}
use mathlib.Core.Logic.{⊎_elim, ◌≢◌}
use mathlib.Core.Bool.{Bool, true, false, cond}
use native.Mathlib.Omega.{arith}
use lib.Dec.{eqb}
use Rattle.worker.specs.Worker.{contains, idle_worker}
use Rattle.worker.specs.declared.Worker.{Worker}
use Rattle.worker.specs.Seen.{Seen}
use Rattle.worker.specs.declared.report.Step.{Step}
use Rattle.worker.proofs.TurnLaws.{step_row}
use Rattle.linear.specs.History.{arena_at}
use Rattle.linear.specs.Linearizable.{Resting}
use Rattle.linear.proofs.Reach.{same?}
use Rattle.linear.proofs.State.{seen_in}
use Rattle.linear.proofs.Course.{Course, rests, goes_on, settles, ends, Row}
use Rattle.linear.proofs.RestInvariant.{rest_idle}
use Rattle.linear.proofs.Timeline.{Schedule, For, not_its, its_start, its_turn, entry_for, step_at, row_of, state, entry, always, sound, own_worker}

-- a call begins at 1 or 22
begins_busy : (asks : Bool) → cond {A = ℕ} asks 22 1 ≢ 0
begins_busy true e = omega arith
begins_busy false e = omega arith

-- an idle worker has the idle record
abbrev Rested : Worker → Type 0
Rested w = w.stage ≡ 0 → w ≡ idle_worker

module _ (r : Schedule) where
  -- a turn that leaves its worker idle found it so and changed nothing, or was the one at 21
  turn_rests : (time v : ℕ) → Rested ((state r time).worker v) → Rested (step_at r time v).worker
  turn_rests time v earlier idle =
      ⊎_elim (λ at. ap (λ (t : Step). t.worker) (step_row w (suc v) seen at) ∙ earlier at)
      (λ busy.
      ⊎_elim (λ at. ap (λ (t : Step). t.worker) (step_row w (suc v) seen at)) (λ other. absurd (go busy other row.course))
      (same? w.stage 21))
      (same? w.stage 0)
    where
      w : Worker
      w = (state r time).worker v

      seen : Seen
      seen = seen_in r.workers r.nodes (state r time) v

      row : Row r.nodes (state r time) v (step_at r time v)
      row = row_of r time v (always r time)

      go : w.stage ≢ 0 → w.stage ≢ 21 → Course row.act (step_at r time v).worker (step_at r time v).report → ⊥
      go busy other (rests keeps at) = busy at
      go busy other (goes_on keeps continues same silent unfinished onward) = continues.busy idle
      go busy other (settles verdict continues none decided settled moves) = continues.busy idle
      go busy other (ends keeps at none done) = other at

  rests_next : (time v : ℕ) → Rested ((state r time).worker v) → Rested ((state r (suc time)).worker v)
  rests_next time v earlier idle = go (entry_for r time v)
    where
      is : {new : Worker} → (state r (suc time)).worker v ≡ new → Rested new → (state r (suc time)).worker v ≡ idle_worker
      is same rested = same ∙ rested (ap (λ (w : Worker). w.stage) (sym same) ∙ idle)

      go : For r time v → (state r (suc time)).worker v ≡ idle_worker
      go (not_its apart same) = is same earlier
      go (its_start before started) = is started (λ none. absurd (begins_busy (eqb (entry r time).act contains) none))
      go (its_turn own event after) = is after (turn_rests time v earlier)

  rested : (time v : ℕ) → Rested ((state r time).worker v)
  unfolding arena_at
  rested zero v = λ idle. rest_idle r.rest v
  rested (suc time) v = rests_next time v (rested time v)

  pub all_rest : Resting r.initial r.entries
  all_rest time v known idle =
      let own = own_worker r time v (subst (λ count. v < count) (sound r time).workers_are known) in
      sym own ∙ rested time v (ap (λ (w : Worker). w.stage) own ∙ idle)
