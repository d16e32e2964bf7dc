-- Worker and node records as words of an arena.
use Rattle.std.specs.Prelude.{ℕ, ◌+◌, ◌*◌, ◌≤◌, ◌<◌, ◌≡◌, ◌⊎◌, List, [], ◌∷◌, Option, Some, None, cond, length, set, ltb}
use Rattle.std.proofs.lemmas.List.Edits.{sets}
use Rattle.worker.specs.declared.Node.{Node}
use Rattle.worker.specs.declared.Worker.{Worker}
use Rattle.words.specs.Layout.{word, worker_stage, worker_operation, worker_key, worker_pred, worker_curr, worker_spare, worker_answer, worker_length, node_key, node_next, node_mark, node_owner, node_length, worker_width, worker_from, node_width, node_from}

-- worker record, 8 words: stage, operation, key, pred, curr, spare, answer, length
abbrev pub worker_words : Worker → List ℕ
worker_words w =
    w.stage ∷ w.operation ∷ w.key ∷ w.pred ∷ w.curr ∷ w.spare ∷ w.answer ∷ w.length ∷ []

-- the record of a worker, read
unfoldable pub worker_at : List ℕ → ℕ → Worker
worker_at arena worker =
    record {
      stage = word arena (worker_from worker + worker_stage);
      operation = word arena (worker_from worker + worker_operation);
      key = word arena (worker_from worker + worker_key);
      pred = word arena (worker_from worker + worker_pred);
      curr = word arena (worker_from worker + worker_curr);
      spare = word arena (worker_from worker + worker_spare);
      answer = word arena (worker_from worker + worker_answer);
      length = word arena (worker_from worker + worker_length);
    }

-- the arena with the record of a worker written
unfoldable pub with_worker : List ℕ → ℕ → Worker → List ℕ
with_worker arena worker w = sets arena (worker_from worker) (worker_words w)

-- and of a record only what a move may change: stage, pred, curr, spare, answer
unfoldable pub with_moved : List ℕ → ℕ → Worker → List ℕ
with_moved arena worker w =
    let at = worker_from worker in
    sets (set arena (at + worker_stage) w.stage) (at + worker_pred) (w.pred ∷ w.curr ∷ w.spare ∷ w.answer ∷ [])

-- a place outside the record of a worker: a start writes no such word (`StartLaws.start_writes` of `arena`)
abbrev pub Outside : ℕ → ℕ → Type 0
Outside worker at = (at < worker_from worker) ⊎ (worker_from worker + worker_width ≤ at)

-- node record, 5 words: key, next, mark, owner, length
abbrev pub node_words : Node → List ℕ
node_words n = n.key ∷ n.next ∷ n.mark ∷ n.owner ∷ n.length ∷ []

-- the arena with a node written
unfoldable pub with_node : List ℕ → ℕ → Node → List ℕ
with_node arena node n = sets arena (node_from arena node node_key) (node_words n)

-- the node whose record begins at a place
abbrev pub node_read : List ℕ → ℕ → Node
node_read words at =
    record {
      key = word words (at + node_key);
      next = word words (at + node_next);
      mark = word words (at + node_mark);
      owner = word words (at + node_owner);
      length = word words (at + node_length);
    }

-- a node, read from the part of an arena that holds the node records
unfoldable pub node_at : List ℕ → ℕ → Node
node_at nodes node = node_read nodes (node_width * node)

-- the part has just the words of so many nodes, and the nodes can be counted
abbrev pub Spans : ℕ → List ℕ → Type 0
Spans count nodes = (length nodes ≡ node_width * count) × (count ≤ 1024)

-- of nodes or workers by their number, the first so many of which there are: the one of a number, if there is one
abbrev pub found : {A : Type 0} → (ℕ → A) → ℕ → ℕ → Option A
found all count number = cond (ltb number count) (Some (all number)) None
