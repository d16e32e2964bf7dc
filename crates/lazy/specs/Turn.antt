-- A worker's turn on an arena (document 01: give a worker a turn).
use Rattle.std.specs.Prelude.{ℕ, suc, List, [], ◌∷◌, ◌++◌, Bool, false, cond, set, leb, eqb, Result, Ok, Err}
use Rattle.worker.specs.Node.{new_node}
use Rattle.worker.specs.Refusals.{Test, judged}
use Rattle.worker.specs.declared.refusal.Refusal.TheVariants.{NoSuchWorker, BrokenCount}
use Rattle.worker.specs.Report.{report_values}
use Rattle.worker.specs.Stages.{grown}
use Rattle.worker.specs.Turn.{turn_of}
use Rattle.worker.specs.declared.Node.{Node}
use Rattle.worker.specs.declared.Worker.{Worker}
use Rattle.worker.specs.declared.refusal.Refusal.{Refusal}
use Rattle.worker.specs.declared.report.Report.{Report}
use Rattle.worker.specs.declared.report.Step.{Step}
use Rattle.worker.specs.Seen.{Seen}
use Rattle.worker.specs.declared.report.Effect.{Effect}
use Rattle.worker.specs.declared.report.Effect.TheVariants as effect
use Rattle.worker.specs.declared.report.Growth.{Growth}
use Rattle.worker.specs.declared.report.Growth.TheVariants as growth
use Rattle.words.specs.Layout.{workers_of, nodes_of, stored_of, stored_at, most_stored, node_next, node_mark, node_owner, node_from}
use Rattle.words.specs.Records.{worker_at, with_worker, with_node}
use Rattle.words.specs.Replies.{Reply, reply}
use Rattle.words.specs.Header.{header_refusals}
use Rattle.arena.specs.Sets.{node_in}
use Rattle.lazy.specs.Free.{roots_of, lowest_free}

-- of a turn that is done the report is told
abbrev pub outcome_of : Result Step Refusal → Result Report Refusal
outcome_of (Ok step) = Ok step.report
outcome_of (Err refusal) = Err refusal

-- what a turn may see besides the worker's record: N, the nodes pred and curr, and the lowest-numbered free node
unfoldable pub seen_of : (ℕ → Worker) → ℕ → (ℕ → Node) → ℕ → Worker → Seen
seen_of workers worker_count node count w =
    record {
      count = count;
      pred = node w.pred;
      curr = node w.curr;
      free = lowest_free (λ n. (node n).next) count (roots_of workers worker_count);
    }

-- of an arena
unfoldable pub seen_by : List ℕ → Worker → Seen
seen_by arena w = seen_of (worker_at arena) (workers_of arena) (node_in arena) (nodes_of arena) w

-- short board: 1, odd header: 2, old layout: 12, no such worker: 3
unfoldable pub worker_refusals : List ℕ → ℕ → List Test
worker_refusals arena worker = header_refusals arena ++ (leb (workers_of arena) worker, NoSuchWorker) ∷ []

-- a count that cannot change so: one less than 0, and one more than N less 2 (document 02, A6: stages 16 and 15)
abbrev pub miscounts : ℕ → ℕ → Growth → Bool
miscounts nodes stored growth.Stays = false
miscounts nodes stored growth.OneMore = eqb stored (most_stored nodes)
miscounts nodes stored growth.OneLess = eqb stored 0

-- a turn whose change of the count cannot be is refused: 14
unfoldable pub counted : List ℕ → Result Step Refusal → Result Step Refusal
counted arena (Ok step) = cond (miscounts (nodes_of arena) (stored_of arena) step.growth) (Err BrokenCount) (Ok step)
counted arena (Err refusal) = Err refusal

-- the turn of a worker, whose owner word is its number + 1; order: 1, 2, 12, 3, then the turn's own 6, 7, and 14
unfoldable pub turn_on : List ℕ → ℕ → Result Step Refusal
turn_on arena worker =
    let w = worker_at arena worker in
    judged (worker_refusals arena worker) Err (counted arena (turn_of w (suc worker) (seen_by arena w)))

-- the arena with an effect: owner of a node := o; next of a node := s; mark of a node := 1; a node written as e, c, 0, 0 and the
-- length
unfoldable pub with_effect : List ℕ → Effect → List ℕ
with_effect arena effect.Nothing = arena
with_effect arena (effect.SetOwner node owner) = set arena (node_from arena node node_owner) owner
with_effect arena (effect.SetNext node next) = set arena (node_from arena node node_next) next
with_effect arena (effect.SetMark node) = set arena (node_from arena node node_mark) 1
with_effect arena (effect.Fill node key next length) = with_node arena node (new_node key next length)

-- the arena with a change of the count (document 02, A6)
unfoldable pub with_growth : List ℕ → Growth → List ℕ
with_growth arena growth = set arena stored_at (grown growth (stored_of arena))

-- what a step does to the nodes and to the count
abbrev pub with_changes : List ℕ → Step → List ℕ
with_changes arena step = with_growth (with_effect arena step.effect) step.growth

-- these changes and the worker's next record; a refused turn changes nothing
abbrev pub turned_arena : List ℕ → ℕ → Result Step Refusal → List ℕ
turned_arena arena worker (Ok step) = with_worker (with_changes arena step) worker step.worker
turned_arena arena worker (Err refusal) = arena

unfoldable pub turn_answer : List ℕ → ℕ → Reply
turn_answer arena worker = reply report_values (outcome_of (turn_on arena worker))

unfoldable pub turn_arena : List ℕ → ℕ → List ℕ
turn_arena arena worker = turned_arena arena worker (turn_on arena worker)
