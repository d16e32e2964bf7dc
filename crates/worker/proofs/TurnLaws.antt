-- What a turn that is done comes to: no test refused it, and it is the step of its stage, a row of the table.
use Prim.Native.Nat.{ℕ}
use mathlib.Core.Path.{◌≡◌, ap}
use mathlib.Core.List.{List}
use native.Mathlib.Omega.{arith}
use lib.ListN.{get_or}
use Rattle.std.specs.Prelude.{Result, Ok, Err}
use Rattle.worker.specs.Refusals.{Test, judged}
use Rattle.worker.specs.declared.refusal.Refusal.{Refusal}
use Rattle.worker.specs.Stages.{reports, stage_table, step_of}
use Rattle.worker.specs.Turn.{turn_refusals, turn_of}
use Rattle.worker.specs.declared.Worker.{Worker}
use Rattle.worker.specs.Seen.{Seen}
use Rattle.worker.specs.declared.report.Report.TheVariants.{Idle}
use Rattle.worker.specs.declared.report.Step.{Step}
use Rattle.worker.proofs.RefusalLaws.{NoneHolds, judged_passed}

-- a judgement that is done passed every test
pub judged_done : (rs : List Test) (accept : Result Step Refusal) {step : Step} → judged rs Err accept ≡ Ok step →
    NoneHolds rs × (accept ≡ Ok step)
judged_done rs accept {step} =
    judged_passed rs Err accept (Ok step) (λ refusal same. let z : ◌≡◌ {A = ℕ} 0 1 = cc in omega arith)

pub done_step : (w : Worker) (owner : ℕ) (seen : Seen) {step : Step} → turn_of w owner seen ≡ Ok step → step ≡ step_of w owner seen
unfolding turn_of
done_step w owner seen {step} e =
    let done : Ok (step_of w owner seen) ≡ Ok step = (judged_done (turn_refusals w seen) (Ok (step_of w owner seen)) e).1 in
    cc

pub step_row : (w : Worker) (owner : ℕ) (seen : Seen) {stage : ℕ} → w.stage ≡ stage →
    step_of w owner seen ≡ get_or (stage_table w owner seen) stage (reports w Idle)
unfolding step_of
step_row w owner seen s = ap (λ (n : ℕ). get_or (stage_table w owner seen) n (reports w Idle)) s
