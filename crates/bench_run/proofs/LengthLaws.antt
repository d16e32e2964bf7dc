-- No output is longer than the words that the bench program has for it.
use Prim.Native.Nat.{ℕ, suc, ◌+◌, ◌*◌, ◌≤◌}
use mathlib.Core.Path.{◌≡◌, refl}
use mathlib.Core.List.{List, [], ◌∷◌}
use Rattle.std.specs.List.{filter, flat_map}
use Rattle.std.proofs.lemmas.List.Filters.{length-filter_both}
use mathlib.Core.Bool.{Bool, not}
use native.Mathlib.Nat.{mul-suc}
use native.Mathlib.Omega.{arith}
use lib.ListN.{length, take, drop, replicate, length-append}
use lib.Seq.{sets-eq, take-append_seam}
use lib.Dec.{leb}
use Rattle.std.proofs.lemmas.Bool.Decides.{nat_tests}
use Rattle.worker.specs.Refusals.{Test, refusal_number, judged}
use Rattle.words.specs.Replies.{Reply, refused, accepted, replied}
use Rattle.words.proofs.Bounds.{counts}
use Rattle.words.proofs.Judged.{numbered, judged_numbered, judged_accepted}
use Rattle.arena.specs.Init.{fresh_words}
use Rattle.arena.specs.Snapshot.{keys_of}
use Rattle.arena.proofs.ShortChains.{keys_few}
use Rattle.linear.specs.Entries.{is_turn}
use Rattle.linear.specs.History.{totals}
use Rattle.linear.proofs.Timeline.{fresh_schedule, Schedule, last, arena, sound}
use Rattle.schedule.specs.declared.Call.{Call}
use Rattle.schedule.specs.declared.Wait.{Wait}
use Rattle.schedule.specs.declared.Totals.{Totals}
use Rattle.schedule.specs.Run.{is_operation, count_in, run_refusals, records_of, waits_of, totals_of}
use Rattle.words.proofs.EntryLaws.{entries_quotient}
use Rattle.words.specs.Flat.{flat_words}
use Rattle.words.specs.Entries.{entry_words, entries_of}
use Rattle.words.specs.declared.entry.Entry.{Entry}
use Rattle.schedule.proofs.HistoryLaws.{Accepted, run_passed}
use Rattle.schedule.proofs.Running.{calls_few, waits_few}
use Rattle.bench_input.specs.Input.{Reading, planned, bad_line, reading_of}
use Rattle.bench_print.specs.Print.{Printed, digit_at, decimal, labelled, bad_line_text, refused_text, totals_text, operation_text, answer_text, call_text, wait_text, roll_text}
use Rattle.bench_run.specs.Output.{arena_words, record_count, wait_count, is_wait_of, calls_text, run_text, schedule_text, reading_text, output_of}
use Rattle.bench_run.proofs.OutputLaws.{text_of}

digit_short : (place n : ℕ) → length (digit_at place n) ≤ 1
unfolding digit_at
digit_short place n = grind (arith, nat_tests)

decimal_short : (n : ℕ) → length (decimal n) ≤ 5
unfolding decimal
decimal_short n =
    simp length-append (omega (arith, digit_short 10000 n, digit_short 1000 n, digit_short 100 n, digit_short 10 n))

totals_short : (t : Totals) → length (totals_text t) ≤ 52
unfolding totals_text
totals_short t =
    simp length-append
    (omega (arith, decimal_short t.entries, decimal_short t.refused, decimal_short t.waits, decimal_short t.calls))

operation_short : (operation : ℕ) → length (operation_text operation) ≤ 9
unfolding operation_text
operation_short operation = grind (arith, nat_tests)

answer_short : (answer : ℕ) → length (answer_text answer) ≤ 5
unfolding answer_text
answer_short answer = grind (arith, nat_tests)

call_short : (c : Call) → length (call_text c) ≤ 44
unfolding call_text
call_short c =
    simp length-append
    (omega (
      arith,
      decimal_short c.worker,
      operation_short c.operation,
      decimal_short c.key,
      decimal_short c.start,
      decimal_short c.point,
      decimal_short c.finish,
      answer_short c.answer,
    ))

wait_short : (w : Wait) → length (wait_text w) ≤ 23
unfolding wait_text
wait_short w = simp length-append (omega (arith, decimal_short w.time, decimal_short w.node, decimal_short w.worker))

-- texts of a list, none of them longer than some
texts_short : {A : Type 0} (text : A → List ℕ) (most : ℕ) → ((a : A) → length (text a) ≤ most) → (xs : List A) →
    length (flat_map text xs) ≤ most * length xs
texts_short text most short [] = omega arith
texts_short text most short (x ∷ xs) = rw (length-append, mul-suc) (omega (arith, short x, texts_short text most short xs))

-- the waits of calls with a number or a later one: each is a wait of one call at most
abbrev is_from : ℕ → Wait → Bool
is_from number wait = leb number wait.call

split_waits : (number : ℕ) (waits : List Wait) →
    length (filter (is_wait_of number) waits) + length (filter (is_from (suc number)) waits) ≤ length (filter (is_from number) waits)
split_waits number [] = omega arith
split_waits number (wait ∷ waits) = grind (arith, nat_tests, split_waits number waits)

calls_from : (waits : List Wait) (number : ℕ) (calls : List Call) →
    length (calls_text waits number calls) ≤ 44 * length calls + 23 * length (filter (is_from number) waits)
unfolding calls_text
calls_from waits number [] = omega arith
calls_from waits number (call ∷ calls) =
    rw (length-append, length-append, mul-suc)
    (omega (
      arith,
      call_short call,
      texts_short wait_text 23 wait_short (filter (is_wait_of number) waits),
      split_waits number waits,
      calls_from waits (suc number) calls,
    ))

calls_short : (waits : List Wait) (calls : List Call) → length (calls_text waits 0 calls) ≤ 44 * length calls + 23 * length waits
calls_short waits calls =
    omega (arith, calls_from waits 0 calls, length-filter_both (is_from 0) (λ wait. not (is_from 0 wait)) (λ wait. refl) waits)

-- an entry is a start or a turn, and not both
parted : (entries : List Entry) → count_in is_operation entries + count_in is_turn entries ≤ length entries
unfolding count_in
parted [] = omega arith
parted (entry ∷ entries) = grind (arith, nat_tests, parted entries)

roll_short : (keys : List ℕ) → length (roll_text keys) ≤ 5 + 6 * length keys
unfolding roll_text
roll_short keys =
    simp length-append
    (omega (arith, texts_short (labelled " ") 6 (λ n. simp length-append (omega (arith, decimal_short n))) keys))

refused_short : (number : ℕ) → length (refused_text number) ≤ 14
unfolding refused_text
refused_short number = simp length-append (omega (arith, decimal_short number))

bad_line_short : (line : ℕ) → length (bad_line_text line) ≤ 15
unfolding bad_line_text
bad_line_short line = simp length-append (omega (arith, decimal_short line))

-- a run that is not refused has at most 1,000 calls, 4,000 calls and waits, and 1,024 keys on its chain
run_short : (workers nodes : ℕ) (schedule : List ℕ) → Accepted (replicate arena_words 0) workers nodes schedule record_count wait_count →
    length (run_text workers nodes schedule) ≤ 131072
unfolding run_text
run_short workers nodes schedule passed =
    let r : Schedule = fresh_schedule workers nodes (entries_of schedule) passed.counts in
    simp length-append
    (omega (
      arith,
      totals_short (totals_of (totals (fresh_words workers nodes) (entries_of schedule))),
      calls_short (waits_of workers nodes schedule) (records_of workers nodes schedule),
      calls_few workers nodes schedule passed.counts,
      waits_few workers nodes schedule passed.counts,
      parted (entries_of schedule),
      entries_quotient schedule,
      passed.short,
      passed.calls_fit,
      roll_short (keys_of (arena r (last r))),
      keys_few (arena r (last r)),
      (sound r (last r)).nodes_are,
      counts workers nodes passed.counts,
    ))

schedule_short : (workers nodes : ℕ) (schedule : List ℕ) → length (schedule_text workers nodes schedule) ≤ 131072
unfolding schedule_text
schedule_short workers nodes schedule = go (replied refusals []) refl
  where
    refusals : List Test
    refusals = run_refusals (replicate arena_words 0) workers nodes schedule record_count wait_count

    go : (reply : Reply) → reply ≡ replied refusals [] →
        length (judged refusals text_of (run_text workers nodes schedule)) ≤ 131072
    go (refused number) told =
        rw (judged_numbered refusals [] text_of (run_text workers nodes schedule) told)
        (omega (arith, refused_short (refusal_number (numbered number))))
    go (accepted values) told =
        rw (judged_accepted refusals [] text_of (run_text workers nodes schedule) told)
        (run_short workers nodes schedule (run_passed (replicate arena_words 0) workers nodes schedule record_count wait_count [] told))

pub output_fits : (input : List ℕ) → length (output_of input) ≤ 131072
unfolding output_of
output_fits input = go (reading_of input)
  where
    go : (o : Reading) → length (reading_text o) ≤ 131072
    go (planned workers nodes entries) = schedule_short workers nodes (flat_words entry_words entries)
    go (bad_line line entries) = omega (arith, bad_line_short line)

-- so with that much room the bytes that are printed are the whole output
pub output_whole : (input before after : List ℕ) (end : ℕ) → Printed (output_of input) before 0 after end → 131072 ≤ length before →
    take end after ≡ output_of input
output_whole input before after end printed room =
    let fits = output_fits input in
    let all : end ≡ length (output_of input) = omega (arith, printed.place) in
    rw (printed.bytes, all, sets-eq (output_of input) before 0 (omega arith))
    (take-append_seam (output_of input) (drop (0 + length (output_of input)) before))
