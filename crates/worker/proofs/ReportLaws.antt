-- The values of a report tell it from every other, and the number of an answer tells the answer.
use Prim.Native.Nat.{ℕ}
use mathlib.Core.Path.{◌≡◌, refl, sym, ap, ◌∙◌}
use mathlib.Core.List.{List}
use mathlib.Core.Bool.{Bool, true, false, cond}
use native.Mathlib.Omega.{arith}
use lib.ListN.{get_or}
use lib.Dec.{eqb}
use borrow.Author.Tests.{eqb-true, eqb-false}
use Rattle.worker.specs.Worker.{within}
use Rattle.worker.specs.Report.{answer_number, numbered_answer, report_values}
use Rattle.worker.specs.declared.report.Answer.TheVariants.{Yes, No, Full}
use Rattle.worker.specs.declared.report.Report.{Report}
use Rattle.worker.specs.declared.report.Report.TheVariants.{Idle, Moved, Waits, Finished}
use Rattle.worker.proofs.Laws.{range_bounds}

report_of : List ℕ → Report
report_of values =
    let kind = get_or values 0 0 in
    let value = get_or values 1 0 in
    cond (eqb kind 0) Idle (cond (eqb kind 1) (Moved value) (cond (eqb kind 2) (Waits value (get_or values 2 0)) (Finished (numbered_answer value))))

read_back : (report : Report) → report_of (report_values report) ≡ report
unfolding report_of
read_back Idle = refl
read_back (Moved stage) = refl
read_back (Waits node worker) = refl
read_back (Finished Yes) = refl
read_back (Finished No) = refl
read_back (Finished Full) = refl

pub report_told : (a b : Report) → report_values a ≡ report_values b → a ≡ b
report_told a b same = sym (read_back a) ∙ ap report_of same ∙ read_back b

-- a number of 1 to 3 is that of its answer
pub numbered_back : (number : ℕ) → within 1 3 number ≡ true → answer_number (numbered_answer number) ≡ number
numbered_back number inside = go (eqb number 1) (eqb number 2) refl refl
  where
    go : (first second : Bool) → eqb number 1 ≡ first → eqb number 2 ≡ second →
        answer_number (cond first Yes (cond second No Full)) ≡ number
    go true second e f = sym (eqb-true number 1 e)
    go false true e f = sym (eqb-true number 2 f)
    go false false e f =
        let bounds = range_bounds 1 3 number inside in omega (arith, eqb-false number 1 e, eqb-false number 2 f)
