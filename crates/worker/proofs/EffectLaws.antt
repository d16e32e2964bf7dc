-- A turn that is done writes only to nodes that there are.
use Prim.Native.Nat.{ℕ, ◌-◌, ◌<◌}
use mathlib.Core.Path.{◌≡◌, subst, sym, ◌∙◌}
use mathlib.Core.List.{[]}
use mathlib.Core.Bool.{Bool, true, false, cond, ◌&&◌}
use mathlib.Mathlib.Data.Bool.Basic.{and_elim_left}
use native.Mathlib.Decide.{ℕ_discrete}
use lib.ListN.{get_or}
use lib.Dec.{ltb, eqb}
use borrow.Author.Tests.{ltb-true, not-false, ne_eqb}
use Rattle.worker.specs.Worker.{add}
use Rattle.worker.specs.Stages.{with_stage, reports, goes, to, denies, takes, stage_table, step_of}
use Rattle.worker.specs.Turn.{placed, busy_refusals, turn_refusals, turn_of}
use Rattle.worker.specs.declared.Worker.{Worker}
use Rattle.std.specs.Prelude.{Option, Some, None}
use Rattle.worker.specs.Seen.{Seen}
use Rattle.worker.specs.declared.report.Report.TheVariants.{Idle, Waits}
use Rattle.worker.specs.declared.report.Step.{Step}
use Rattle.worker.specs.declared.report.Effect.{Effect}
use Rattle.worker.specs.declared.report.Effect.TheVariants.{Nothing, SetOwner, SetNext, SetMark, Fill}
use Rattle.std.specs.Prelude.{Ok}
use Rattle.worker.proofs.Tables.{AllFrom, end, ◌then◌, row_at}
use Rattle.worker.proofs.RefusalLaws.{NoneHolds}
use Rattle.worker.proofs.TurnLaws.{judged_done, done_step, step_row}

-- the node of an effect is below N
abbrev pub EffectBelow : ℕ → Effect → Type 0
EffectBelow count Nothing = Unit {0}
EffectBelow count (SetOwner node owner) = node < count
EffectBelow count (SetNext node next) = node < count
EffectBelow count (SetMark node) = node < count
EffectBelow count (Fill node key next length) = node < count

-- and so is a free node that was found
abbrev pub FreeBelow : ℕ → Option ℕ → Type 0
FreeBelow count None = Unit {0}
FreeBelow count (Some node) = node < count

module _ (w : Worker) (owner : ℕ) (seen : Seen) where
  -- a row's effect is on a node below N, where the numbers that its stage reads are
  abbrev Below : ℕ → Step → Type 0
  Below stage step = placed (with_stage w stage) seen.count ≡ true → EffectBelow seen.count step.effect

  takes_below : (found : Option ℕ) → FreeBelow seen.count found → EffectBelow seen.count (takes w found).effect
  takes_below None below = tt
  takes_below (Some node) below = below

  -- a stage that reads pred, and one that reads curr and not pred
  pred_below : (a b : Bool) → (ltb w.pred seen.count && a) && b ≡ true → w.pred < seen.count
  pred_below a b e = ltb-true w.pred seen.count (and_elim_left _ a (and_elim_left _ b e))

  curr_below : (a : Bool) → ltb w.curr seen.count && a ≡ true → w.curr < seen.count
  curr_below a e = ltb-true w.curr seen.count (and_elim_left _ a e)

  rows_below : FreeBelow seen.count seen.free → AllFrom Below 0 (stage_table w owner seen)
  unfolding placed
  rows_below found =
      (λ e. tt)
      then (λ e. tt)
      then (λ e. tt)
      then (λ e. tt)
      then (λ e. tt)
      then (λ e. tt)
      then (λ e. locks_below (eqb seen.pred.owner 0) w.pred seen.pred.owner 7 (pred_below _ _ e))
      then (λ e. locks_below (eqb seen.curr.owner 0) w.curr seen.curr.owner 8 (curr_below _ e))
      then (λ e. tt)
      then (λ e. tt)
      then (λ e. tt)
      then (λ e. pred_below _ _ e)
      then (λ e. curr_below _ e)
      then (λ e. decides_below (eqb w.operation add) (eqb seen.curr.key w.key))
      then (λ e. takes_below seen.free found)
      then (λ e. pred_below _ _ e)
      then (λ e. curr_below _ e)
      then (λ e. tt)
      then (λ e. pred_below _ _ e)
      then (λ e. pred_below _ _ e)
      then (λ e. curr_below _ e)
      then (λ e. tt)
      then (λ e. tt)
      then (λ e. compares_below (ltb seen.curr.key w.key) (eqb seen.curr.key w.key))
      then (λ e. tt)
      then (λ e. tt)
      then end
    where
      locks_below : (unowned : Bool) (node holder stage : ℕ) → node < seen.count →
          EffectBelow seen.count
          (cond unowned (goes w stage (SetOwner node owner)) (reports w (Waits node (holder - 1)))).effect
      locks_below true node holder stage below = below
      locks_below false node holder stage below = tt

      decides_below : (adds found : Bool) →
          EffectBelow seen.count (cond adds (cond found (denies w 19) (to w 14)) (cond found (to w 16) (denies w 19))).effect
      decides_below true true = tt
      decides_below true false = tt
      decides_below false true = tt
      decides_below false false = tt

      compares_below : (below equal : Bool) → EffectBelow seen.count (cond below (to w 24) (cond equal (to w 25) (denies w 21))).effect
      compares_below true equal = tt
      compares_below false true = tt
      compares_below false false = tt

  step_below : (stage : ℕ) → placed (with_stage w stage) seen.count ≡ true → FreeBelow seen.count seen.free →
      EffectBelow seen.count (get_or (stage_table w owner seen) stage (reports w Idle)).effect
  step_below stage e found = row_at Below stage (stage_table w owner seen) (reports w Idle) (rows_below found) (λ m out passed. tt) e

  -- the effect of a turn that is done is on a node below N
  pub done_below : {step : Step} → turn_of w owner seen ≡ Ok step → FreeBelow seen.count seen.free →
      EffectBelow seen.count step.effect
  unfolding turn_of turn_refusals busy_refusals step_of
  done_below {step} e found =
      let same = done_step w owner seen e in
      let Has : Step → Type 0 = λ t. EffectBelow seen.count t.effect in
      elim (ℕ_discrete w.stage 0) [
        | yes q ↦ subst Has (sym (same ∙ step_row w owner seen q)) tt
        | no q ↦
            let passed = (judged_done (turn_refusals w seen) (Ok (step_of w owner seen)) e).0 in
            let none = subst (λ (t : Bool). NoneHolds (cond t [] (busy_refusals w seen))) (ne_eqb w.stage 0 q) passed in
            subst Has (sym same) (step_below w.stage (not-false _ none.1.1.1.0) found)
      ]
