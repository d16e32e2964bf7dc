-- start: a call on a worker.
use Rattle.std.specs.Prelude.{ℕ, List, [], ◌∷◌, ◌++◌, not, leb, ltb, eqb}
use Rattle.worker.specs.Worker.{is_call, idle_stage, last_stage, started_worker}
use Rattle.worker.specs.Refusals.{Test}
use Rattle.worker.specs.declared.refusal.Refusal.TheVariants.{NoSuchWorker, BrokenRecord, Busy, BadCall}
use Rattle.words.specs.Layout.{workers_of}
use Rattle.words.specs.Records.{worker_at, with_worker}
use Rattle.words.specs.Replies.{Reply, replied, written}
use Rattle.words.specs.Header.{header_refusals}

-- no such worker: 3; a stage above 25: 6; a stage not 0: 4; no call, or a bad length: 5
unfoldable pub call_refusals : List ℕ → ℕ → ℕ → ℕ → ℕ → List Test
call_refusals arena worker operation key length =
    (leb (workers_of arena) worker, NoSuchWorker)
    ∷ (ltb last_stage (worker_at arena worker).stage, BrokenRecord)
    ∷ (not (eqb (worker_at arena worker).stage idle_stage), Busy)
    ∷ (not (is_call operation key length), BadCall)
    ∷ []

-- order: 1, 2, 12, 3, 6, 4, 5
unfoldable pub start_refusals : List ℕ → ℕ → ℕ → ℕ → ℕ → List Test
start_refusals arena worker operation key length = header_refusals arena ++ call_refusals arena worker operation key length

unfoldable pub start_answer : List ℕ → ℕ → ℕ → ℕ → ℕ → Reply
start_answer arena worker operation key length = replied (start_refusals arena worker operation key length) []

-- a start writes the worker's record
unfoldable pub start_arena : List ℕ → ℕ → ℕ → ℕ → ℕ → List ℕ
start_arena arena worker operation key length =
    written (start_refusals arena worker operation key length) arena (with_worker arena worker (started_worker operation key length))
