-- The output of the bench program (document 01: Dagmar's bench program), whole, for an input.
use Rattle.std.specs.Prelude.{ℕ, suc, Bool, length, replicate, eqb}
use Rattle.std.specs.List.{filter, flat_map}
use mathlib.Core.List.{List, [], ◌∷◌, ◌++◌}
use Rattle.worker.specs.Refusals.{refusal_number, judged}
use Rattle.words.specs.Flat.{flat_words}
use Rattle.words.specs.Entries.{entry_words, entries_of}
use Rattle.arena.specs.Init.{fresh_words}
use Rattle.arena.specs.Snapshot.{keys_of}
use Rattle.linear.specs.History.{arena_at, totals}
use Rattle.schedule.specs.declared.Call.{Call}
use Rattle.schedule.specs.declared.Wait.{Wait}
use Rattle.schedule.specs.Run.{run_refusals, records_of, waits_of, totals_of}
use Rattle.bench_input.specs.Input.{Reading, planned, bad_line, reading_of}
use Rattle.bench_print.specs.Print.{bad_line_text, refused_text, totals_text, call_text, wait_text, roll_text}

-- its rows hold 1,000 call records and 4,000 waits
abbrev pub record_count : ℕ
record_count = 1000

abbrev pub wait_count : ℕ
wait_count = 4000

-- the words it lends for an arena: enough for 8 workers and 1,024 nodes
abbrev pub arena_words : ℕ
arena_words = 5192

-- a call's line, and behind it its waits, by moment
abbrev pub is_wait_of : ℕ → Wait → Bool
is_wait_of number wait = eqb wait.call number

abbrev pub lines_text : List Wait → ℕ → Call → List ℕ
lines_text waits number call = call_text call ++ flat_map wait_text (filter (is_wait_of number) waits)

-- calls, the first of them with a number
unfoldable pub calls_text : List Wait → ℕ → List Call → List ℕ
calls_text waits number [] = []
calls_text waits number (call ∷ calls) = lines_text waits number call ++ calls_text waits (suc number) calls

-- of a run: totals, then the calls with their waits, then the roll
unfoldable pub run_text : ℕ → ℕ → List ℕ → List ℕ
run_text workers nodes schedule =
    let entries = entries_of schedule in
    totals_text (totals_of (totals (fresh_words workers nodes) entries))
    ++ calls_text (waits_of workers nodes schedule) 0 (records_of workers nodes schedule)
    ++ roll_text (keys_of (arena_at (fresh_words workers nodes) entries (length entries)))

-- a refused run prints its number alone, and that is 8 (`OutputLaws.only_no_room`)
unfoldable pub schedule_text : ℕ → ℕ → List ℕ → List ℕ
schedule_text workers nodes schedule =
    judged (run_refusals (replicate arena_words 0) workers nodes schedule record_count wait_count)
    (λ refusal. refused_text (refusal_number refusal))
    (run_text workers nodes schedule)

-- `bad line L` and nothing else for a bad line
abbrev pub reading_text : Reading → List ℕ
reading_text (planned workers nodes entries) = schedule_text workers nodes (flat_words entry_words entries)
reading_text (bad_line line entries) = bad_line_text line

unfoldable pub output_of : List ℕ → List ℕ
output_of input = reading_text (reading_of input)
