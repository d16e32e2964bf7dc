-- Laws of what a run refuses, answers and writes.
use Prim.Native.Nat.{ℕ, min, ◌≤◌, ◌%◌}
use mathlib.Core.Path.{◌≡◌, refl, sym, ◌∙◌}
use mathlib.Core.List.{List}
use mathlib.Core.Bool.{Bool, true, false, not, ◌||◌}
use native.Mathlib.Omega.{arith}
use lib.ListN.{length, length-map}
use lib.Dec.{eqb, ltb}
use borrow.Author.Tests.{ltb-true, ltb-false, eqb-true, not-false, lt-ltb, le-ltb}
use Rattle.worker.specs.Refusals.{judged}
use Rattle.words.specs.Layout.{good_counts, total}
use Rattle.worker.specs.declared.refusal.Refusal.{Refusal}
use Rattle.words.specs.Replies.{accepted, replied}
use Rattle.words.proofs.Judged.{none_holds}
use Rattle.words.specs.Entries.{entries_of, entry_width}
use Rattle.words.specs.declared.entry.Entry.{Entry}
use Rattle.arena.specs.Init.{fresh_words}
use Rattle.linear.specs.Entries.{is_turn}
use Rattle.linear.specs.History.{totals, calls, waits}
use Rattle.linear.proofs.Waiting.{waits_counted}
use Rattle.schedule.specs.Run.{is_operation, count_in, is_bad_schedule, run_refusals, run_answer, run_arena, record_of, records_of, wait_of, waits_of}
use Rattle.schedule.proofs.EntryLaws.{count_few}

neither : (a b : Bool) → (a || b) ≡ false → (a ≡ false) × (b ≡ false)
neither true b e = let z : ◌≡◌ {A = ℕ} 0 1 = cc in absurd (omega arith)
neither false b e = (refl, e)

-- a schedule that is not bad
good_schedule : (schedule : List ℕ) → is_bad_schedule schedule ≡ false →
    (length schedule % entry_width ≡ 0) × (length schedule ≤ 16000)
unfolding is_bad_schedule
good_schedule schedule good =
    let parts = neither (not (eqb (length schedule % entry_width) 0)) (ltb 16000 (length schedule)) good in
    (eqb-true _ _ (not-false _ parts.0), ltb-false _ _ parts.1)

-- what holds where a run is accepted
pub record Accepted (arena : List ℕ) (workers nodes : ℕ) (schedule : List ℕ) (call_room wait_room : ℕ) : Type 0 where
  pub counts : good_counts workers nodes ≡ true
  pub whole : length schedule % entry_width ≡ 0
  pub short : length schedule ≤ 16000
  pub fits : total workers nodes ≤ length arena
  pub calls_fit : count_in is_operation (entries_of schedule) ≤ call_room
  pub waits_fit : count_in is_turn (entries_of schedule) ≤ wait_room

pub run_passed : (arena : List ℕ) (workers nodes : ℕ) (schedule : List ℕ) (call_room wait_room : ℕ) (values : List ℕ) {given : List ℕ} →
    accepted given ≡ replied (run_refusals arena workers nodes schedule call_room wait_room) values →
    Accepted arena workers nodes schedule call_room wait_room
unfolding run_refusals
run_passed arena workers nodes schedule call_room wait_room values e =
    let none = none_holds (run_refusals arena workers nodes schedule call_room wait_room) values e in
    let good = good_schedule schedule none.1.0 in
    record {
      counts = not-false _ none.0;
      whole = good.0;
      short = good.1;
      fits = ltb-false _ _ none.1.1.0;
      calls_fit = ltb-false _ _ none.1.1.1.0;
      waits_fit = ltb-false _ _ none.1.1.1.1.0;
    }

-- a schedule has at most 4,000 entries, so more room than for so many records is never asked for
count_most : (kind : Entry → Bool) (schedule : List ℕ) → is_bad_schedule schedule ≡ false → count_in kind (entries_of schedule) ≤ 4000
count_most kind schedule good =
    let known = good_schedule schedule good in
    omega (arith, count_few kind schedule, known.1)

same_test : (count lent : ℕ) → count ≤ 4000 → ltb (min lent 4000) count ≡ ltb lent count
same_test count lent few = go (ltb lent count) refl
  where
    go : (t : Bool) → ltb lent count ≡ t → ltb (min lent 4000) count ≡ t
    go true e = lt-ltb (min lent 4000) count (omega (arith, ltb-true lent count e))
    go false e = le-ltb (min lent 4000) count (omega (arith, ltb-false lent count e))

module _ (arena : List ℕ) (workers nodes : ℕ) (schedule : List ℕ) (call_room wait_room : ℕ) where
  pub judged_most : {A : Type 0} (refuse : Refusal → A) (accept : A) →
      judged (run_refusals arena workers nodes schedule (min call_room 4000) (min wait_room 4000)) refuse accept
      ≡ judged (run_refusals arena workers nodes schedule call_room wait_room) refuse accept
  unfolding run_refusals
  judged_most {A} refuse accept = go (is_bad_schedule schedule) refl
    where
      go : (bad : Bool) → is_bad_schedule schedule ≡ bad →
          judged (run_refusals arena workers nodes schedule (min call_room 4000) (min wait_room 4000)) refuse accept
          ≡ judged (run_refusals arena workers nodes schedule call_room wait_room) refuse accept
      go true e = rw e
      go false e =
          rw (
            same_test (count_in is_operation (entries_of schedule)) call_room (count_most is_operation schedule e),
            same_test (count_in is_turn (entries_of schedule)) wait_room (count_most is_turn schedule e),
          )

  pub answer_most : run_answer arena workers nodes schedule (min call_room 4000) (min wait_room 4000)
      ≡ run_answer arena workers nodes schedule call_room wait_room
  unfolding run_answer
  answer_most = judged_most _ _

  pub arena_most : run_arena arena workers nodes schedule (min call_room 4000) (min wait_room 4000)
      ≡ run_arena arena workers nodes schedule call_room wait_room
  unfolding run_arena
  arena_most = judged_most _ _

-- as many calls and waits are told as there are records
pub told_calls : (workers nodes : ℕ) (schedule : List ℕ) →
    (totals (fresh_words workers nodes) (entries_of schedule)).calls ≡ length (records_of workers nodes schedule)
unfolding totals records_of
told_calls workers nodes schedule = sym (length-map (calls (fresh_words workers nodes) (entries_of schedule)) record_of)

pub told_waits : (workers nodes : ℕ) (schedule : List ℕ) →
    (totals (fresh_words workers nodes) (entries_of schedule)).waits ≡ length (waits_of workers nodes schedule)
unfolding waits_of
told_waits workers nodes schedule =
    waits_counted (fresh_words workers nodes) (entries_of schedule)
    ∙ sym (length-map (waits (fresh_words workers nodes) (entries_of schedule)) wait_of)
