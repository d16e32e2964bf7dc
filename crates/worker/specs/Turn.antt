-- A worker's turn (document 01: a worker's record and one turn): refusals 6 and 7, else the step of its stage.
use Rattle.std.specs.Prelude.{ℕ, List, [], ◌∷◌, Bool, false, cond, not, ◌&&◌, ◌||◌, leb, ltb, eqb, Result, Ok, Err}
use Rattle.worker.specs.Worker.{within, is_key, add, remove, contains, idle_stage, last_stage}
use Rattle.worker.specs.Refusals.{Test, judged}
use Rattle.worker.specs.Stages.{step_of}
use Rattle.worker.specs.declared.Worker.{Worker}
use Rattle.worker.specs.Seen.{Seen}
use Rattle.worker.specs.declared.report.Step.{Step}
use Rattle.worker.specs.declared.refusal.Refusal.{Refusal}
use Rattle.worker.specs.declared.refusal.Refusal.TheVariants.{BrokenRecord, BrokenChain}

-- the operations that belong to a stage: 1 to 13, 19, 20: 1 or 2; 14, 15: 1; 16 to 18: 2; 21: 1 to 3; 22 to 25: 3
unfoldable pub belongs : ℕ → ℕ → Bool
belongs stage operation =
    cond (within 1 13 stage) (within add remove operation)
    (cond (within 14 15 stage) (eqb operation add)
    (cond (within 16 18 stage) (eqb operation remove)
    (cond (within 19 20 stage) (within add remove operation)
    (cond (within 21 21 stage) (within add contains operation)
    (cond (within 22 25 stage) (eqb operation contains)
    false)))))

-- the key is a key of calls, and at 19 to 21 the answer is 1 to 3
unfoldable pub kept : Worker → Bool
kept w = is_key w.key && (not (within 19 21 w.stage) || within 1 3 w.answer)

-- the stages that read pred, those that read curr, and those that read spare
abbrev pub reads_pred : ℕ → Bool
reads_pred s = eqb s 2 || eqb s 6 || eqb s 8 || within 10 11 s || eqb s 15 || within 18 19 s

abbrev pub reads_curr : ℕ → Bool
reads_curr s = within 3 5 s || eqb s 7 || within 9 10 s || within 12 14 s || within 16 17 s || eqb s 20 || within 23 25 s

abbrev pub reads_spare : ℕ → Bool
reads_spare s = eqb s 15 || eqb s 18

-- what the stage reads of pred, curr and spare is below N
unfoldable pub placed : Worker → ℕ → Bool
placed w nodes =
    (not (reads_pred w.stage) || ltb w.pred nodes)
    && (not (reads_curr w.stage) || ltb w.curr nodes)
    && (not (reads_spare w.stage) || ltb w.spare nodes)

-- a next read at 2, 5, 17 or 24 is N or more
unfoldable pub astray : Worker → Seen → Bool
astray w seen =
    (eqb w.stage 2 && leb seen.count seen.pred.next)
    || ((eqb w.stage 5 || eqb w.stage 17 || eqb w.stage 24) && leb seen.count seen.curr.next)

-- broken record: a node number. Then broken chain
abbrev pub node_refusals : Worker → Seen → List Test
node_refusals w seen = (not (placed w seen.count), BrokenRecord) ∷ (astray w seen, BrokenChain) ∷ []

-- broken record: the stage; the operation; the key or the answer. Then those of its nodes
unfoldable pub busy_refusals : Worker → Seen → List Test
busy_refusals w seen =
    (ltb last_stage w.stage, BrokenRecord)
    ∷ (not (belongs w.stage w.operation), BrokenRecord)
    ∷ (not (kept w), BrokenRecord)
    ∷ node_refusals w seen

-- stage 0 is idle, whatever else stands in the record
unfoldable pub turn_refusals : Worker → Seen → List Test
turn_refusals w seen = cond (eqb w.stage idle_stage) [] (busy_refusals w seen)

unfoldable pub turn_of : Worker → ℕ → Seen → Result Step Refusal
turn_of w owner seen = judged (turn_refusals w seen) Err (Ok (step_of w owner seen))
