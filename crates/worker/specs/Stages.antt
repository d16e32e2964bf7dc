-- The stage table (document 01: Stages): what a turn does at each stage.
use Rattle.std.specs.Prelude.{ℕ, suc, ◌-◌, List, [], ◌∷◌, Bool, cond, get_or, ltb, eqb, Option, Some, None}
use Rattle.worker.specs.Node.{head}
use Rattle.worker.specs.Worker.{add, idle_worker}
use Rattle.worker.specs.Report.{answer_number, numbered_answer}
use Rattle.worker.specs.declared.Worker.{Worker}
use Rattle.worker.specs.Seen.{Seen}
use Rattle.worker.specs.declared.report.Step.{Step}
use Rattle.worker.specs.declared.report.Answer.TheVariants.{Yes, No, Full}
use Rattle.worker.specs.declared.report.Report.{Report}
use Rattle.worker.specs.declared.report.Report.TheVariants.{Idle, Moved, Waits, Finished}
use Rattle.worker.specs.declared.report.Effect.{Effect}
use Rattle.worker.specs.declared.report.Effect.TheVariants.{Nothing, SetOwner, SetNext, SetMark, Fill}
use Rattle.worker.specs.declared.report.Growth.{Growth}
use Rattle.worker.specs.declared.report.Growth.TheVariants.{Stays, OneMore, OneLess}

-- a record with other stage, pred, curr, spare and answer: no turn but the last changes the other words
abbrev pub changed : Worker → ℕ → ℕ → ℕ → ℕ → ℕ → Worker
changed w stage pred curr spare answer =
    record {
      stage = stage;
      operation = w.operation;
      key = w.key;
      pred = pred;
      curr = curr;
      spare = spare;
      answer = answer;
      length = w.length;
    }

abbrev pub with_stage : Worker → ℕ → Worker
with_stage w stage = changed w stage w.pred w.curr w.spare w.answer

abbrev pub with_pred : Worker → ℕ → Worker
with_pred w pred = changed w w.stage pred w.curr w.spare w.answer

abbrev pub with_curr : Worker → ℕ → Worker
with_curr w curr = changed w w.stage w.pred curr w.spare w.answer

abbrev pub with_spare : Worker → ℕ → Worker
with_spare w spare = changed w w.stage w.pred w.curr spare w.answer

abbrev pub with_answer : Worker → ℕ → Worker
with_answer w answer = changed w w.stage w.pred w.curr w.spare answer

-- nothing is written but the record, which may stay
abbrev pub reports : Worker → Report → Step
reports w report = record { worker = w; report = report; effect = Nothing; growth = Stays }

-- to a stage, with an effect on the nodes
abbrev pub goes : Worker → ℕ → Effect → Step
goes w stage effect = record { worker = with_stage w stage; report = Moved stage; effect = effect; growth = Stays }

-- a count as a step changes it: one more label is stored, or one less (document 02, A6)
abbrev pub grown : Growth → ℕ → ℕ
grown Stays stored = stored
grown OneMore stored = suc stored
grown OneLess stored = stored - 1

-- a step that does so
abbrev pub growing : Step → Growth → Step
growing step growth = record { worker = step.worker; report = step.report; effect = step.effect; growth = growth }

-- to a stage
abbrev pub to : Worker → ℕ → Step
to w stage = goes w stage Nothing

-- owner of a node 0: take it, to a stage; else waits for the node and the worker that owns it (owner word less 1)
abbrev pub locks : Worker → ℕ → ℕ → ℕ → ℕ → Step
locks w node holder owner stage =
    cond (eqb holder 0) (goes w stage (SetOwner node owner)) (reports w (Waits node (holder - 1)))

-- owner of a node := 0, to a stage
abbrev pub unlocks : Worker → ℕ → ℕ → Step
unlocks w node stage = goes w stage (SetOwner node 0)

-- answer no, to a stage
abbrev pub denies : Worker → ℕ → Step
denies w stage = to (with_answer w (answer_number No)) stage

-- 13: add: key of curr is e: answer no, to 19; else to 14. remove: key of curr is e: to 16; else answer no, to 19
abbrev pub decides : Worker → Bool → Step
decides w found = cond (eqb w.operation add) (cond found (denies w 19) (to w 14)) (cond found (to w 16) (denies w 19))

-- 14: no free node: answer full, to 19; else spare := that node, written as e, curr, 0, 0 and the length of the add; to 15
abbrev pub takes : Worker → Option ℕ → Step
takes w None = to (with_answer w (answer_number Full)) 19
takes w (Some node) = goes (with_spare w node) 15 (Fill node w.key w.curr w.length)

-- 23: key of curr below e: to 24; equal: to 25; above: answer no, to 21
abbrev pub compares : Worker → ℕ → Step
compares w key = cond (ltb key w.key) (to w 24) (cond (eqb key w.key) (to w 25) (denies w 21))

module _ (w : Worker) (owner : ℕ) (seen : Seen) where
  -- row n is the turn at stage n
  abbrev pub stage_table : List Step
  stage_table =
      -- 0: idle, nothing changes
      reports w Idle
      -- 1: pred := Head; to 2
      ∷ to (with_pred w head) 2
      -- 2: curr := next of pred; to 3
      ∷ to (with_curr w seen.pred.next) 3
      -- 3: key of curr below e: to 4, else 6
      ∷ to w (cond (ltb seen.curr.key w.key) 4 6)
      -- 4: pred := curr; to 5
      ∷ to (with_pred w w.curr) 5
      -- 5: curr := next of curr; to 3
      ∷ to (with_curr w seen.curr.next) 3
      -- 6: owner of pred 0: take it, to 7; else waits for pred and its owner
      ∷ locks w w.pred seen.pred.owner owner 7
      -- 7: owner of curr 0: take it, to 8; else waits for curr and its owner
      ∷ locks w w.curr seen.curr.owner owner 8
      -- 8: pred unmarked: to 9, else 11
      ∷ to w (cond (eqb seen.pred.mark 0) 9 11)
      -- 9: curr unmarked: to 10, else 11
      ∷ to w (cond (eqb seen.curr.mark 0) 10 11)
      -- 10: next of pred is curr: to 13, else 11
      ∷ to w (cond (eqb seen.pred.next w.curr) 13 11)
      -- 11: owner of pred := 0; to 12
      ∷ unlocks w w.pred 12
      -- 12: owner of curr := 0; to 1
      ∷ unlocks w w.curr 1
      -- 13: by operation, and whether key of curr is e
      ∷ decides w (eqb seen.curr.key w.key)
      -- 14: by the lowest-numbered free node
      ∷ takes w seen.free
      -- 15: next of pred := spare; answer yes; one more is stored; to 19
      ∷ growing (goes (with_answer w (answer_number Yes)) 19 (SetNext w.pred w.spare)) OneMore
      -- 16: mark of curr := 1; answer yes; one less is stored; to 17
      ∷ growing (goes (with_answer w (answer_number Yes)) 17 (SetMark w.curr)) OneLess
      -- 17: spare := next of curr; to 18
      ∷ to (with_spare w seen.curr.next) 18
      -- 18: next of pred := spare; to 19
      ∷ goes w 19 (SetNext w.pred w.spare)
      -- 19: owner of pred := 0; to 20
      ∷ unlocks w w.pred 20
      -- 20: owner of curr := 0; to 21
      ∷ unlocks w w.curr 21
      -- 21: report finished with the answer; record becomes idle
      ∷ reports idle_worker (Finished (numbered_answer w.answer))
      -- 22: curr := Head; to 23
      ∷ to (with_curr w head) 23
      -- 23: by key of curr
      ∷ compares w seen.curr.key
      -- 24: curr := next of curr; to 23
      ∷ to (with_curr w seen.curr.next) 23
      -- 25: answer yes if curr is unmarked, else no; to 21
      ∷ to (with_answer w (cond (eqb seen.curr.mark 0) (answer_number Yes) (answer_number No))) 21
      ∷ []

  -- the turn at the record's stage (one above 25 is refused)
  unfoldable pub step_of : Step
  step_of = get_or stage_table w.stage (reports w Idle)

-- document 02's words on the count: stage 15 adds one, stage 16 takes one away, no other stage changes it (`StepLaws.step_grows`)
abbrev pub growth_at : ℕ → Growth
growth_at stage = cond (eqb stage 15) OneMore (cond (eqb stage 16) OneLess Stays)
