-- Rows of records, filled from flat words.
use Rattle.std.specs.Prelude.{ℕ, zero, suc, ◌≤◌, ◌≡◌, List, [], ◌∷◌, ◌++◌, length, drop, Result, Ok, Err}
use Rattle.worker.specs.declared.refusal.Refusal.{Refusal}
use Rattle.words.specs.Replies.{reply}
use Rattle.words.specs.Flat.{record_in}
use Rattle.schedule.specs.Run.{call_width, first_call, wait_width, first_wait, totals_values, run_answer, run_arena, run_records, run_waits, DoneLinearizable}
use Rattle.schedule.specs.declared.Call.{Call}
use Rattle.schedule.specs.declared.Wait.{Wait}
use Rattle.schedule.specs.declared.Totals.{Totals}

-- so many records, from record i on
unfoldable pub records_from : {A : Type 0} → (ℕ → A) → ℕ → ℕ → List A
records_from record_at i zero = []
records_from record_at i (suc left) = record_at i ∷ records_from record_at (suc i) left

-- a row whose first records are these, so many, and whose rest stays
unfoldable pub filled_row : {A : Type 0} → (ℕ → A) → ℕ → List A → List A
filled_row record_at count row = records_from record_at 0 count ++ drop count row

-- the calls and the waits of a run: a refusal has none
abbrev pub told_in : (Totals → ℕ) → Result Totals Refusal → ℕ
told_in count (Ok totals) = count totals
told_in count (Err refusal) = 0

abbrev pub calls_in : Result Totals Refusal → ℕ
calls_in = told_in (λ totals. totals.calls)

abbrev pub waits_in : Result Totals Refusal → ℕ
waits_in = told_in (λ totals. totals.waits)

-- a run on flat words, with the answer r, says of the run with rows of so many calls and waits: its answer, the arena at its end, and that
-- the rows are filled from the words, where they have room
pub record RanWithin (arena : List ℕ) (workers nodes : ℕ) (schedule : List ℕ) (call_room wait_room : ℕ) (r : Result Totals Refusal)
    (after call_words wait_words : List ℕ) : Type 0 where
  pub answer : reply totals_values r ≡ run_answer arena workers nodes schedule call_room wait_room
  pub arena_after : after ≡ run_arena arena workers nodes schedule call_room wait_room
  pub calls_fit : calls_in r ≤ call_room
  pub waits_fit : waits_in r ≤ wait_room
  pub calls : (row : List Call) → length row ≡ call_room →
      filled_row (record_in call_width first_call call_words) (calls_in r) row ≡ run_records arena workers nodes schedule row wait_room
  pub waits : (row : List Wait) → length row ≡ wait_room →
      filled_row (record_in wait_width first_wait wait_words) (waits_in r) row ≡ run_waits arena workers nodes schedule call_room row
  pub linearizable : DoneLinearizable r workers nodes schedule

-- a record of a row before anything is written to it has zeros alone
abbrev pub no_call : Call
no_call = first_call []

abbrev pub no_wait : Wait
no_wait = first_wait []
