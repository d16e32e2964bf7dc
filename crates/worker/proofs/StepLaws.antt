-- What a step writes, by what it reports, and which steps change the count of stored labels.
use Prim.Native.Nat.{ℕ}
use mathlib.Core.Path.{◌≡◌, refl, sym}
use mathlib.Core.Bool.{Bool, true, false, cond, true≢false}
use native.Mathlib.Omega.{arith}
use lib.Dec.{ltb, eqb}
use borrow.Author.Tests.{ne_eqb}
use Rattle.std.specs.Prelude.{Option, Some, None}
use Rattle.worker.specs.Worker.{add}
use Rattle.worker.specs.Report.{is_still}
use Rattle.worker.specs.Seen.{Seen}
use Rattle.worker.specs.Stages.{changed, reports, takes, stage_table, step_of, growth_at}
use Rattle.worker.specs.declared.Worker.{Worker}
use Rattle.worker.specs.declared.report.Report.{Report}
use Rattle.worker.specs.declared.report.Report.TheVariants.{Idle, Moved, Waits, Finished}
use Rattle.worker.specs.declared.report.Step.{Step}
use Rattle.worker.proofs.Tables.{AllFrom, end, ◌then◌, row_at}

module _ (w : Worker) (owner : ℕ) (seen : Seen) where
  -- nothing where it is idle or waits; where it moves, of the record no operation, key or length; where it finishes, the record alone
  abbrev pub Writes : Step → Report → Type 0
  Writes step Idle = step ≡ reports w Idle
  Writes step (Waits node worker) = step ≡ reports w (Waits node worker)
  Writes step (Moved stage) = step.worker ≡ changed w step.worker.stage step.worker.pred step.worker.curr step.worker.spare step.worker.answer
  Writes step (Finished answer) = step ≡ reports step.worker (Finished answer)

  -- both are read off the table, row by row
  abbrev Holds : ℕ → Step → Type 0
  Holds stage step = Writes step step.report × (step.growth ≡ growth_at stage)

  takes_hold : (found : Option ℕ) → Holds 14 (takes w found)
  takes_hold None = (refl, refl)
  takes_hold (Some node) = (refl, refl)

  -- of a step that is chosen by a test
  either : (stage : ℕ) (test : Bool) (this other : Step) → Holds stage this → Holds stage other → Holds stage (cond test this other)
  either stage true this other p q = p
  either stage false this other p q = q

  abbrev found : Bool
  found = eqb seen.curr.key w.key

  rows_hold : AllFrom Holds 0 (stage_table w owner seen)
  rows_hold =
      (refl, refl)
      then (refl, refl)
      then (refl, refl)
      then (refl, refl)
      then (refl, refl)
      then (refl, refl)
      then either 6 (eqb seen.pred.owner 0) _ _ (refl, refl) (refl, refl)
      then either 7 (eqb seen.curr.owner 0) _ _ (refl, refl) (refl, refl)
      then (refl, refl)
      then (refl, refl)
      then (refl, refl)
      then (refl, refl)
      then (refl, refl)
      then either 13 (eqb w.operation add) _ _
      (either 13 found _ _ (refl, refl) (refl, refl))
      (either 13 found _ _ (refl, refl) (refl, refl))
      then takes_hold seen.free
      then (refl, refl)
      then (refl, refl)
      then (refl, refl)
      then (refl, refl)
      then (refl, refl)
      then (refl, refl)
      then (refl, refl)
      then (refl, refl)
      then either 23 (ltb seen.curr.key w.key) _ _ (refl, refl) (either 23 found _ _ (refl, refl) (refl, refl))
      then (refl, refl)
      then (refl, refl)
      then end

  step_holds : Holds w.stage (step_of w owner seen)
  unfolding step_of
  step_holds =
      row_at Holds w.stage (stage_table w owner seen) (reports w Idle) rows_hold
      (λ stage past. (refl, rw (ne_eqb stage 15 (omega arith), ne_eqb stage 16 (omega arith))))

  pub step_written : Writes (step_of w owner seen) (step_of w owner seen).report
  step_written = step_holds.0

  pub step_grows : (step_of w owner seen).growth ≡ growth_at w.stage
  step_grows = step_holds.1

  -- so a step that is idle or waits keeps the record and has no effect
  pub still_step : is_still (step_of w owner seen).report ≡ true → step_of w owner seen ≡ reports w (step_of w owner seen).report
  still_step still = go (step_of w owner seen).report still step_written
    where
      go : (report : Report) → is_still report ≡ true → Writes (step_of w owner seen) report → step_of w owner seen ≡ reports w report
      go Idle still written = written
      go (Waits node worker) still written = written
      go (Moved stage) still written = absurd (true≢false (sym still))
      go (Finished answer) still written = absurd (true≢false (sym still))
