-- The run from entry to entry: the arena, the books and the flat words are those of the time, and at the end those of the history.
use Prim.Native.Nat.{ℕ, zero, suc, ◌+◌, ◌*◌, ◌≤◌, ◌<◌}
use mathlib.Core.Path.{◌≡◌, refl, sym, ap, subst, ◌∙◌}
use mathlib.Core.Logic.{⊎_elim}
use mathlib.Core.List.{List, [], ◌∷◌, ◌++◌, map, map-map, append-nil, flatten}
use mathlib.Core.Bool.{Bool, true, false, cond, true≢false}
use mathlib.Mathlib.Data.Bool.Basic.{dichotomy}
use native.Mathlib.Omega.{arith}
use native.Mathlib.Numerals.{add-one, sub-one}
use lib.ListN.{length, get_or, take, drop, length-map, get_or-map, length-append, take-append-drop, drop_of_length-le}
use lib.Seq.{take-suc}
use borrow.Author.Tests.{le-ltb}
use Rattle.std.specs.List.{filter}
use Rattle.std.proofs.lemmas.List.Elements.{filter-append}
use Rattle.worker.proofs.Laws.{call_parts}
use Rattle.worker.proofs.RefusalLaws.{none_accepts}
use Rattle.words.specs.Layout.{good_counts, total}
use Rattle.words.specs.Replies.{accepted, refusing}
use Rattle.words.specs.Header.{header_refusals}
use Rattle.arena.specs.Init.{fresh_words, init_refusals, init_arena}
use Rattle.arena.specs.Lists.{numbers_from}
use Rattle.linear.specs.Entries.{is_turn, is_started, is_refused, is_waits, after}
use Rattle.linear.specs.History.{entry_at, arena_at, event_at, call_at, calls, wait_at, waits as all_waits, totals}
use Rattle.linear.proofs.MoreTimes.{passing, passing_count, map_same}
use Rattle.linear.proofs.Members.{whole}
use Rattle.linear.proofs.Timeline.{fresh_schedule, Schedule, Happens, nothing, start, turn, happens, arena, entry, outcome_is, run_starts_at, sound, always, last}
use Rattle.linear.proofs.Waiting.{starts}
use Rattle.schedule.specs.declared.book.Book.{Book}
use Rattle.schedule.specs.Run.{is_operation, count_in, record_of, records_of, wait_of, waits_of, told, totals_of}
use Rattle.schedule.specs.Run.{call_width, call_words, call_laws, wait_width, wait_words, wait_laws}
use Rattle.words.specs.Flat.{flat_words}
use Rattle.schedule.specs.Book.{new_book, InOrder, Roomy, book_after, calls_after, waits_after}
use Rattle.words.proofs.EntryLaws.{entries_quotient}
use Rattle.words.specs.Entries.{entries_of, first_entry}
use Rattle.words.specs.declared.entry.Entry.{Entry}
use Rattle.schedule.proofs.EntryLaws.{start_silent}
use Rattle.words.proofs.FlatLaws.{flat_length}
use Rattle.schedule.proofs.CallsBy.{call_last}
use Rattle.schedule.proofs.Booked.{Booked, booked_first, booked_next}
use Rattle.schedule.proofs.Written.{record_by, held}
use Rattle.schedule.proofs.Kept.{calls_next}
use Rattle.schedule.proofs.KeptWaits.{waiting_at, run_wait_at, held_waits, waits_next}

abbrev nobody : Entry
nobody = record { worker = 0; act = 0; key = 0; length = 0 }

-- an entry as the code reads it
abbrev read : List (List ℕ) → ℕ → Entry
read chunks k = first_entry (get_or chunks k [])

-- no more times pass than there are
passing_few : (test : ℕ → Bool) (now : ℕ) → length (passing test now) ≤ now
unfolding numbers_from
passing_few test zero = omega arith
passing_few test (suc now) = rw (passing_count test now) (go (test (suc now)) (passing_few test now))
  where
    go : (holds : Bool) → length (passing test now) ≤ now →
        cond holds (suc (length (passing test now))) (length (passing test now)) ≤ suc now
    go true few = omega arith
    go false few = omega arith

-- no more times pass a test than there are entries that pass another, where each such time's entry does
module _ (r : Schedule) (test : ℕ → Bool) (kind : Entry → Bool) (has : (now : ℕ) → test (suc now) ≡ true → kind (entry r now) ≡ true) where
  abbrev upto : ℕ → ℕ
  upto now = count_in kind (take now r.entries)

  -- the entry after so many
  abbrev nth : ℕ → Entry
  nth now = get_or r.entries now nobody

  nth_is : (now : ℕ) → entry r now ≡ nth now
  unfolding entry_at
  nth_is now = rw sub-one

  upto_more : (now : ℕ) → now < last r → upto (suc now) ≡ cond (kind (nth now)) (suc (upto now)) (upto now)
  unfolding count_in
  upto_more now inside =
      ap (λ xs. length (filter kind xs)) (take-suc r.entries now nobody inside)
      ∙ ap length (filter-append kind (take now r.entries) (nth now ∷ []))
      ∙ length-append (filter kind (take now r.entries)) (filter kind (nth now ∷ []))
      ∙ go (kind (nth now))
    where
      go : (holds : Bool) → upto now + length {A = Entry} (cond holds (nth now ∷ []) []) ≡ cond holds (suc (upto now)) (upto now)
      go true = omega arith
      go false = omega arith

  few_pass : (now : ℕ) → now ≤ last r → length (passing test now) ≤ upto now
  unfolding count_in numbers_from
  few_pass zero past = omega arith
  few_pass (suc now) past =
      rw (passing_count test now, upto_more now past)
      (go (test (suc now)) (kind (nth now)) (λ holds. subst (λ x. kind x ≡ true) (nth_is now) (has now holds)) (few_pass now (omega arith)))
    where
      go : (passes is : Bool) → (passes ≡ true → is ≡ true) → length (passing test now) ≤ upto now →
          cond passes (suc (length (passing test now))) (length (passing test now)) ≤ cond is (suc (upto now)) (upto now)
      go true true implied few = omega arith
      go true false implied few = absurd (true≢false (sym (implied refl)))
      go false true implied few = omega arith
      go false false implied few = omega arith

  pub passing_fit : (now : ℕ) → now ≤ last r → length (passing test now) ≤ count_in kind r.entries
  unfolding count_in
  passing_fit now past =
      let all : length (filter kind r.entries) ≡ upto now + length (filter kind (drop now r.entries))
      = ap (λ xs. length (filter kind xs)) (sym (take-append-drop now r.entries))
      ∙ ap length (filter-append kind (take now r.entries) (drop now r.entries))
      ∙ length-append (filter kind (take now r.entries)) (filter kind (drop now r.entries)) in
      omega (arith, few_pass now past)

-- an accepted start has an operation, and a turn that waits is a turn: so there is room for the calls and the waits
module _ (r : Schedule) where
  operates : (now : ℕ) → run_starts_at r (suc now) ≡ true → is_operation (entry r now) ≡ true
  operates now starting = go (happens r now)
    where
      go : Happens r now → is_operation (entry r now) ≡ true
      go (nothing unstarted unreported unfinished same) = absurd (true≢false (sym starting ∙ unstarted))
      go (start event idle call known next) = (call_parts (entry r now).act (entry r now).key (entry r now).length call).0
      go (turn step event row idle next) = absurd (true≢false (sym starting ∙ ap is_started event))

  turns_then : (now : ℕ) → waiting_at r (suc now) ≡ true → is_turn (entry r now) ≡ true
  turns_then now waits = ⊎_elim (λ starts. absurd (true≢false (sym waits ∙ starts_silent starts))) (λ turns. turns) (dichotomy (is_turn (entry r now)))
    where
      starts_silent : is_turn (entry r now) ≡ false → waiting_at r (suc now) ≡ false
      starts_silent starts = ap is_waits (outcome_is r now) ∙ start_silent (arena r now) (entry r now) starts

module _ (workers nodes : ℕ) (schedule lent lent_waits : List ℕ) where
  abbrev run : good_counts workers nodes ≡ true → Schedule
  run good = fresh_schedule workers nodes (entries_of schedule) good

  -- what holds between two entries
  pub record Running (done : ℕ) (book : Book) (words history waits : List ℕ) : Type 0 where
    pub good : good_counts workers nodes ≡ true
    pub past : done ≤ length (entries_of schedule)
    pub arena_is : words ≡ arena_at (fresh_words workers nodes) (entries_of schedule) done
    pub booked : Booked (run good) done book
    pub history_is : history ≡ held (run good) lent done
    pub waits_are : waits ≡ held_waits (run good) lent_waits done

  -- a fresh arena in just its words, and no entry made
  laid : (words : List ℕ) → good_counts workers nodes ≡ true → length words ≡ total workers nodes →
      init_arena words workers nodes ≡ fresh_words workers nodes
  unfolding init_arena init_refusals
  laid words good just =
      rw (
        good,
        le-ltb (length words) (total workers nodes) (omega arith),
        drop_of_length-le words {i = total workers nodes} (omega arith),
      )
      (append-nil (fresh_words workers nodes))

  pub begins : (words : List ℕ) → good_counts workers nodes ≡ true → length words ≡ total workers nodes →
      Running 0 new_book (init_arena words workers nodes) lent lent_waits
  unfolding arena_at numbers_from flatten
  begins words good just =
      record {
        good = good;
        past = omega arith;
        arena_is = laid words good just;
        booked = booked_first (run good);
        history_is = refl;
        waits_are = refl;
      }

  module _ {done : ℕ} {book : Book} {words history waits : List ℕ} (now : Running done book words history waits) where
    abbrev r : Schedule
    r = run now.good

    -- the next entry
    module _ (more : done < length (entries_of schedule)) where
      abbrev next : Entry
      next = entry r done

      -- the counts have room, and the arena after it is in order
      roomy : length schedule ≤ 16000 → Roomy book
      roomy few =
          let entries_few : length (entries_of schedule) ≤ 4000 = omega (arith, entries_quotient schedule) in
          let calls = passing_few (run_starts_at r) done in
          let refusals = passing_few (λ time. is_refused (event_at (fresh_words workers nodes) (entries_of schedule) time)) done in
          let waits_few = passing_few (λ time. is_waits (event_at (fresh_words workers nodes) (entries_of schedule) time)) done in (
            omega (arith, now.booked.calls_are),
            omega (arith, now.booked.refused_are),
            omega (arith, now.booked.waits_are),
          )

      after_is : after words next ≡ arena r (suc done)
      unfolding arena_at
      after_is = ap (λ a. after a next) now.arena_is

      in_order : InOrder (after words next)
      in_order =
          rw after_is
          record {
            header = sym (none_accepts (header_refusals (arena r (suc done))) refusing (accepted []) (sound r (suc done)).none);
            whole = whole (sound r (suc done)) (always r (suc done));
          }

      goes_on : call_width * count_in is_operation (entries_of schedule) ≤ length lent →
          wait_width * count_in is_turn (entries_of schedule) ≤ length lent_waits →
          Running (suc done) (book_after words (suc done) next book) (after words next) (calls_after words (suc done) next book history)
          (waits_after words (suc done) next book waits)
      goes_on room wait_room =
          record {
            good = now.good;
            past = more;
            arena_is = after_is;
            booked = rw now.arena_is (booked_next r done book now.booked);
            history_is =
                rw (now.arena_is, now.history_is)
                (calls_next r done lent book now.booked
                (λ starting. omega (arith, passing_fit r (run_starts_at r) is_operation (operates r) (suc done) more)));
            waits_are =
                rw (now.arena_is, now.waits_are)
                (waits_next r done lent_waits book now.booked
                (λ waits. omega (arith, passing_fit r (waiting_at r) is_turn (turns_then r) (suc done) more)));
          }

      -- in the words of the code, which goes through the chunks
      next_is : (chunks : List (List ℕ)) → map first_entry chunks ≡ entries_of schedule → next ≡ read chunks done
      unfolding entry_at
      next_is chunks each = rw (sub-one, ← each) (get_or-map first_entry chunks done [])

      pub may_enter : (chunks : List (List ℕ)) → map first_entry chunks ≡ entries_of schedule → length schedule ≤ 16000 →
          Roomy book × InOrder (after words (read chunks done))
      may_enter chunks each few = (roomy few, subst (λ x. InOrder (after words x)) (next_is chunks each) in_order)

      pub entered : (chunks : List (List ℕ)) → map first_entry chunks ≡ entries_of schedule → call_width * count_in is_operation (entries_of schedule) ≤ length lent →
          wait_width * count_in is_turn (entries_of schedule) ≤ length lent_waits → {words' history' waits' : List ℕ} {book' : Book} →
          words' ≡ after words (read chunks done) → history' ≡ calls_after words (done + 1) (read chunks done) book history →
          waits' ≡ waits_after words (done + 1) (read chunks done) book waits →
          book' ≡ book_after words (done + 1) (read chunks done) book → Running (done + 1) book' words' history' waits'
      entered chunks each room wait_room w h v b =
          rw (w, h, v, b, add-one)
          (subst
          (λ x. Running (suc done) (book_after words (suc done) x book) (after words x) (calls_after words (suc done) x book history)
          (waits_after words (suc done) x book waits))
          (next_is chunks each) (goes_on room wait_room))

  -- at the end
  module _ {book : Book} {words history waits : List ℕ} (end : Running (length (entries_of schedule)) book words history waits) where
    abbrev whole_run : Schedule
    whole_run = run end.good

    pub history_end : history ≡ told (flat_words call_words (records_of workers nodes schedule)) lent
    unfolding records_of calls
    history_end =
        end.history_is
        ∙ ap (λ records. flat_words call_words records ++ drop (call_width * length (starts whole_run (last whole_run))) lent) same
        ∙ ap (λ n. flat_words call_words (records_of workers nodes schedule) ++ drop n lent)
        (sym (flat_length call_laws (records_of workers nodes schedule) ∙ ap (λ n. call_width * n) counts))
      where
        same : map (record_by whole_run (last whole_run)) (starts whole_run (last whole_run)) ≡ records_of workers nodes schedule
        same =
            map_same (record_by whole_run (last whole_run)) (λ x. record_of (call_at (fresh_words workers nodes) (entries_of schedule) x))
            (starts whole_run (last whole_run)) (λ x m. ap record_of (call_last whole_run x))
            ∙ sym (map-map record_of (call_at (fresh_words workers nodes) (entries_of schedule)) (starts whole_run (last whole_run)))

        counts : length (records_of workers nodes schedule) ≡ length (starts whole_run (last whole_run))
        counts = ap length (sym same) ∙ length-map (starts whole_run (last whole_run)) (record_by whole_run (last whole_run))

    pub waits_end : waits ≡ told (flat_words wait_words (waits_of workers nodes schedule)) lent_waits
    unfolding waits_of all_waits
    waits_end =
        let times = passing (waiting_at whole_run) (last whole_run) in
        let same : map (run_wait_at whole_run) times ≡ waits_of workers nodes schedule
        = sym (map-map wait_of (wait_at (fresh_words workers nodes) (entries_of schedule)) times) in
        end.waits_are
        ∙ ap (λ n. flat_words wait_words (map (run_wait_at whole_run) times) ++ drop n lent_waits)
        (ap (λ n. wait_width * n) (sym (length-map times (run_wait_at whole_run))) ∙ sym (flat_length wait_laws (map (run_wait_at whole_run) times)))
        ∙ ap (λ records. told (flat_words wait_words records) lent_waits) same

    pub totals_end : record { entries = length (entries_of schedule); refused = book.refused; waits = book.waits; calls = book.calls }
        ≡ totals_of (totals (fresh_words workers nodes) (entries_of schedule))
    unfolding totals calls
    totals_end =
        let booked = end.booked in
        let calls_are = booked.calls_are ∙ sym (length-map (starts (run end.good) (length (entries_of schedule))) _) in
        λ k. record {
          entries = length (entries_of schedule);
          refused = booked.refused_are k;
          waits = booked.waits_are k;
          calls = calls_are k;
        }

-- no more records than entries that ask for them
module _ (workers nodes : ℕ) (schedule : List ℕ) (good : good_counts workers nodes ≡ true) where
  abbrev all_entries : Schedule
  all_entries = fresh_schedule workers nodes (entries_of schedule) good

  pub calls_few : length (records_of workers nodes schedule) ≤ count_in is_operation (entries_of schedule)
  unfolding records_of calls
  calls_few =
      rw (length-map, length-map)
      (passing_fit all_entries (run_starts_at all_entries) is_operation (operates all_entries) (last all_entries) (omega arith))

  pub waits_few : length (waits_of workers nodes schedule) ≤ count_in is_turn (entries_of schedule)
  unfolding waits_of all_waits
  waits_few =
      rw (length-map, length-map)
      (passing_fit all_entries (waiting_at all_entries) is_turn (turns_then all_entries) (last all_entries) (omega arith))
