-- What a turn reports, in document 01's numbers and values.
use Rattle.std.specs.Prelude.{ℕ, List, [], ◌∷◌, Bool, true, false, cond, eqb}
use Rattle.worker.specs.declared.report.Answer.{Answer}
use Rattle.worker.specs.declared.report.Answer.TheVariants as answer
use Rattle.worker.specs.declared.report.Report.{Report}
use Rattle.worker.specs.declared.report.Report.TheVariants as report

-- answers: 1 yes, 2 no, 3 full
abbrev pub answer_number : Answer → ℕ
answer_number answer.Yes = 1
answer_number answer.No = 2
answer_number answer.Full = 3

-- the answer with a number of 1 to 3 (a finish with another is refused)
abbrev pub numbered_answer : ℕ → Answer
numbered_answer number = cond (eqb number 1) answer.Yes (cond (eqb number 2) answer.No answer.Full)

-- a report: idle, moved (with the new stage), waits (with the node wanted and the worker that owns it), or finished (with its answer), in
-- document 01's order
abbrev pub report_values : Report → List ℕ
report_values report.Idle = 0 ∷ []
report_values (report.Moved stage) = 1 ∷ stage ∷ []
report_values (report.Waits node worker) = 2 ∷ node ∷ worker ∷ []
report_values (report.Finished answer) = 3 ∷ answer_number answer ∷ []

-- the reports of a turn that changes nothing
abbrev pub is_still : Report → Bool
is_still report.Idle = true
is_still (report.Moved stage) = false
is_still (report.Waits node worker) = true
is_still (report.Finished answer) = false
