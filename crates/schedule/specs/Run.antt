-- run (document 01: run a schedule on a board that it lays itself; document 02, A1: and write its waits).
use Rattle.std.specs.Prelude.{ℕ, ◌*◌, ◌/◌, ◌%◌, Bool, not, ◌||◌, length, get_or, drop, ltb, eqb, Result, OnOk}
use Rattle.std.specs.List.{filter}
use Rattle.std.proofs.Common.{refl, lit<}
use mathlib.Core.List.{List, [], ◌∷◌, ◌++◌, map}
use Rattle.worker.specs.Worker.{add, contains, within}
use Rattle.worker.specs.Refusals.{Test, judged}
use Rattle.worker.specs.declared.refusal.Refusal.{Refusal}
use Rattle.worker.specs.declared.refusal.Refusal.TheVariants.{BadCounts, BadSchedule, ShortArena, NoRoom}
use Rattle.words.specs.Layout.{good_counts, total}
use Rattle.words.specs.Entries.{entry_width, most_entries, entries_of}
use Rattle.words.specs.Replies.{Reply, replied, written}
use Rattle.words.specs.Flat.{flat_words, IsRecord}
use Rattle.words.specs.declared.entry.Entry.{Entry}
use Rattle.arena.specs.Init.{fresh_words}
use Rattle.linear.specs.Entries.{is_turn}
use Rattle.linear.specs.History as history
use Rattle.linear.specs.Linearizable.{Linearizable}
use Rattle.schedule.specs.declared.Call.{Call}
use Rattle.schedule.specs.declared.Wait.{Wait}
use Rattle.schedule.specs.declared.Totals.{Totals}

-- the entries with act 1 to 3, and those with act 0: as many calls may be started, and as many turns may wait
abbrev pub is_operation : Entry → Bool
is_operation entry = within add contains entry.act

unfoldable pub count_in : (Entry → Bool) → List Entry → ℕ
count_in test entries = length (filter test entries)

-- bad schedule: a length that is not a multiple of 4, or above 16,000 words, 4,000 entries
unfoldable pub is_bad_schedule : List ℕ → Bool
is_bad_schedule schedule = not (eqb (length schedule % entry_width) 0) || ltb (entry_width * most_entries) (length schedule)

-- order: 10, 9, 1, 8; `call_room` and `wait_room` are the numbers of records that are lent for calls and for waits
unfoldable pub run_refusals : List ℕ → ℕ → ℕ → List ℕ → ℕ → ℕ → List Test
run_refusals arena workers nodes schedule call_room wait_room =
    (not (good_counts workers nodes), BadCounts)
    ∷ (is_bad_schedule schedule, BadSchedule)
    ∷ (ltb (length arena) (total workers nodes), ShortArena)
    ∷ (ltb call_room (count_in is_operation (entries_of schedule)), NoRoom)
    ∷ (ltb wait_room (count_in is_turn (entries_of schedule)), NoRoom)
    ∷ []

-- the run returns entries, refused, waits, calls: the totals of the list of its entries on the arena it lays
unfoldable pub run_answer : List ℕ → ℕ → ℕ → List ℕ → ℕ → ℕ → Reply
run_answer arena workers nodes schedule call_room wait_room =
    let totals = history.totals (fresh_words workers nodes) (entries_of schedule) in
    replied (run_refusals arena workers nodes schedule call_room wait_room)
    (totals.entries ∷ totals.refused ∷ totals.waits ∷ totals.calls ∷ [])

-- the arena at its end; words past the total stay
unfoldable pub run_arena : List ℕ → ℕ → ℕ → List ℕ → ℕ → ℕ → List ℕ
run_arena arena workers nodes schedule call_room wait_room =
    let entries = entries_of schedule in
    written (run_refusals arena workers nodes schedule call_room wait_room) arena
    (history.arena_at (fresh_words workers nodes) entries (length entries) ++ drop (total workers nodes) arena)

-- the history: a record for each call, in order of start
abbrev pub record_of : history.Call → Call
record_of call =
    record {
      worker = call.worker;
      operation = call.operation;
      key = call.key;
      start = call.start;
      point = call.point;
      finish = call.finish;
      answer = call.answer;
    }

unfoldable pub records_of : ℕ → ℕ → List ℕ → List Call
records_of workers nodes schedule = map record_of (history.calls (fresh_words workers nodes) (entries_of schedule))

-- the waits: a record for each turn that waits, by time
abbrev pub wait_of : history.Wait → Wait
wait_of wait = record { call = wait.call; time = wait.time; node = wait.node; worker = wait.worker }

unfoldable pub waits_of : ℕ → ℕ → List ℕ → List Wait
waits_of workers nodes schedule = map wait_of (history.waits (fresh_words workers nodes) (entries_of schedule))

-- a row that the caller lends: what is told stands first, and the rest stays; a refusal leaves all of it
abbrev pub told : {A : Type 0} → List A → List A → List A
told records row = records ++ drop (length records) row

unfoldable pub row_after : {A : Type 0} → List Test → List A → List A → List A
row_after refusals records row = judged refusals (λ refusal. row) (told records row)

-- the two rows of records
abbrev pub run_records : List ℕ → ℕ → ℕ → List ℕ → List Call → ℕ → List Call
run_records arena workers nodes schedule row wait_room =
    row_after (run_refusals arena workers nodes schedule (length row) wait_room) (records_of workers nodes schedule) row

abbrev pub run_waits : List ℕ → ℕ → ℕ → List ℕ → ℕ → List Wait → List Wait
run_waits arena workers nodes schedule call_room row =
    row_after (run_refusals arena workers nodes schedule call_room (length row)) (waits_of workers nodes schedule) row

-- the same in flat words: a call has seven, a wait four; the record that stands first has zeros where words are missing
abbrev pub call_width : ℕ
call_width = 7

abbrev pub call_words : Call → List ℕ
call_words call =
    call.worker ∷ call.operation ∷ call.key ∷ call.start ∷ call.point ∷ call.finish ∷ call.answer ∷ []

abbrev pub first_call : List ℕ → Call
first_call words =
    record {
      worker = get_or words 0 0;
      operation = get_or words 1 0;
      key = get_or words 2 0;
      start = get_or words 3 0;
      point = get_or words 4 0;
      finish = get_or words 5 0;
      answer = get_or words 6 0;
    }

abbrev pub wait_width : ℕ
wait_width = 4

abbrev pub wait_words : Wait → List ℕ
wait_words wait = wait.call ∷ wait.time ∷ wait.node ∷ wait.worker ∷ []

abbrev pub first_wait : List ℕ → Wait
first_wait words =
    record { call = get_or words 0 0; time = get_or words 1 0; node = get_or words 2 0; worker = get_or words 3 0 }

pub call_laws : IsRecord call_width call_words first_call
call_laws = record { narrow = lit< tt; wide = λ call. refl; read_back = λ call rest. refl }

pub wait_laws : IsRecord wait_width wait_words first_wait
wait_laws = record { narrow = lit< tt; wide = λ wait. refl; read_back = λ wait rest. refl }

abbrev pub run_call_words : List ℕ → ℕ → ℕ → List ℕ → List ℕ → List ℕ → List ℕ
run_call_words arena workers nodes schedule calls waits =
    row_after (run_refusals arena workers nodes schedule (length calls / call_width) (length waits / wait_width))
    (flat_words call_words (records_of workers nodes schedule)) calls

abbrev pub run_wait_words : List ℕ → ℕ → ℕ → List ℕ → List ℕ → List ℕ → List ℕ
run_wait_words arena workers nodes schedule calls waits =
    row_after (run_refusals arena workers nodes schedule (length calls / call_width) (length waits / wait_width))
    (flat_words wait_words (waits_of workers nodes schedule)) waits

-- the totals, as the run gives them
abbrev pub totals_of : history.Totals → Totals
totals_of totals =
    record { entries = totals.entries; refused = totals.refused; waits = totals.waits; calls = totals.calls }

-- what a run gives: entries, refused, waits, calls
abbrev pub totals_values : Totals → List ℕ
totals_values totals = totals.entries ∷ totals.refused ∷ totals.waits ∷ totals.calls ∷ []

-- demand 3, of a run that is done: it begins with an empty set
abbrev pub DoneLinearizable : Result Totals Refusal → ℕ → ℕ → List ℕ → Type 0
DoneLinearizable answer workers nodes schedule = OnOk answer (Linearizable [] (fresh_words workers nodes) (entries_of schedule))
