-- What the books say at each time: the counts, and of each open call its number and the first time at which its key was absent.
use Prim.Native.Nat.{ℕ, suc, ◌≤◌, ◌<◌}
use mathlib.Core.Path.{◌≡◌, refl, sym, ap, subst, ◌∙◌}
use mathlib.Core.Logic.{◌≢◌}
use mathlib.Core.List.{List}
use mathlib.Core.Bool.{Bool, true, false, cond, not, ◌&&◌, and-false, true≢false}
use native.Mathlib.Omega.{arith}
use native.Mathlib.Decide.{ℕ_discrete}
use lib.ListN.{length, get_or, set, length-set}
use lib.Seq.{get_or-set_same, get_or-set_other}
use lib.Dec.{eqb}
use borrow.Author.Tests.{eq-eqb, ne_eqb}
use Rattle.worker.specs.Worker.{contains}
use Rattle.worker.specs.declared.refusal.Refusal.{Refusal}
use Rattle.worker.specs.declared.report.Report.{Report}
use Rattle.worker.specs.declared.report.Report.TheVariants as report
use Rattle.words.specs.Layout.{workers_of}
use Rattle.words.specs.Records.{worker_at}
use Rattle.arena.specs.Lists.{numbers_from}
use Rattle.linear.proofs.Bridge.{sound_counts}
use Rattle.arena.specs.Sets.{member, set_of}
use Rattle.linear.specs.Entries.{Event, call_started, turn_reported, entry_refused, is_started, is_reported, is_refused, is_waits}
use Rattle.linear.specs.History.{arena_at, event_at}
use Rattle.linear.proofs.MoreTimes.{passing, passing_same, passing_count}
use Rattle.linear.proofs.Keys.{has_started}
use Rattle.linear.proofs.Timeline.{Schedule, Begun, Happens, nothing, start, turn, happens, has, arena, state, entry, outcome, outcome_is, run_starts_at, sound, own_worker}
use Rattle.linear.proofs.Phases.{Open}
use Rattle.linear.proofs.OpenCalls.{open_before}
use Rattle.linear.proofs.Waiting.{starts}
use Rattle.schedule.specs.declared.book.Book.{Book}
use Rattle.schedule.specs.Book.{new_book, with_refusal, with_start, absent_from, looks_up, missed, next_book, book_after}
use Rattle.schedule.proofs.Missed.{missed_length, missed_at, Change, stays, leaves, turn_change, absent_by, absent_kept, absent_now, absent_stays, absent_first}

module _ (r : Schedule) where
  -- the entries of a kind up to a time
  abbrev pub counted : (Event → Bool) → ℕ → ℕ
  counted test now = length (passing (λ time. test (event_at r.initial r.entries time)) now)

  pub record Booked (now : ℕ) (book : Book) : Type 0 where
    pub calls_are : book.calls ≡ length (starts r now)
    pub refused_are : book.refused ≡ counted is_refused now
    pub waits_are : book.waits ≡ counted is_waits now
    pub numbers : length book.opened ≡ 8
    pub times : length book.absent ≡ 8
    pub numbered : (origin : ℕ) (b : Begun r origin) → Open r origin b now →
        get_or book.opened (entry r origin).worker 0 ≡ length (starts r origin)
    pub missed_first : (origin : ℕ) (b : Begun r origin) → Open r origin b now → (entry r origin).act ≡ contains →
        get_or book.absent (entry r origin).worker 0 ≡ absent_by r (entry r origin).key (suc origin) now

  pub booked_first : Booked 0 new_book
  unfolding numbers_from
  booked_first =
      record {
        calls_are = refl;
        refused_are = refl;
        waits_are = refl;
        numbers = refl;
        times = refl;
        numbered = λ origin b o. absurd (omega (arith, o.begun));
        missed_first = λ origin b o asks. absurd (omega (arith, o.begun));
      }

  module _ (now : ℕ) (book : Book) (booked : Booked now book) where
    -- a count goes on by the next entry
    count_next : (test : Event → Bool) {answer : Bool} → test (outcome r now) ≡ answer →
        counted test (suc now) ≡ cond answer (suc (counted test now)) (counted test now)
    count_next test is = passing_count _ now ∙ rw is

    -- where the next entry starts no call, the open ones were open before, and have the same numbers
    module _ (unstarted : is_started (outcome r now) ≡ false) where
      started_before : (origin : ℕ) (b : Begun r origin) → Open r origin b (suc now) → suc origin ≤ now
      started_before origin b o =
          elim (ℕ_discrete origin now) [
            | yes e ↦ absurd (true≢false (sym (subst (λ t. run_starts_at r (suc t) ≡ true) e b.starting) ∙ unstarted))
            | no d ↦ omega (arith, o.begun)
          ]

      before : (origin : ℕ) (b : Begun r origin) → Open r origin b (suc now) → Open r origin b now
      before origin b o = open_before r origin b now (started_before origin b o) o

      numbered_kept : (origin : ℕ) (b : Begun r origin) → Open r origin b (suc now) →
          get_or book.opened (entry r origin).worker 0 ≡ length (starts r origin)
      numbered_kept origin b o = booked.numbered origin b (before origin b o)

      -- and where no key goes out, the same times
      missed_kept : ((key : ℕ) → has r now key ≡ true → has r (suc now) key ≡ true) →
          (origin : ℕ) (b : Begun r origin) → Open r origin b (suc now) → (entry r origin).act ≡ contains →
          get_or book.absent (entry r origin).worker 0 ≡ absent_by r (entry r origin).key (suc origin) (suc now)
      missed_kept kept origin b o asks =
          let key = (entry r origin).key in
          booked.missed_first origin b (before origin b o) asks
          ∙ sym (absent_stays r key (suc origin) now (omega arith) (started_before origin b o) (kept key))

    refusing : (refusal : Refusal) → outcome r now ≡ entry_refused refusal → arena r (suc now) ≡ arena r now → Booked (suc now) (with_refusal book)
    refusing refusal event same =
        let unstarted : is_started (outcome r now) ≡ false = ap is_started event in
        record {
          calls_are = booked.calls_are ∙ sym (ap length (passing_same (run_starts_at r) now unstarted));
          refused_are = ap suc booked.refused_are ∙ sym (count_next is_refused (ap is_refused event));
          waits_are = booked.waits_are ∙ sym (count_next is_waits (ap is_waits event));
          numbers = booked.numbers;
          times = booked.times;
          numbered = numbered_kept unstarted;
          missed_first = missed_kept unstarted (λ key there. ap (λ words. member key (set_of words)) same ∙ there);
        }

    -- a start opens a call with the next number on a worker that was idle
    module _ (event : outcome r now ≡ call_started) (idle : ((state r now).worker (entry r now).worker).stage ≡ 0)
        (known : (entry r now).worker < r.workers) (kept : (key : ℕ) → has r (suc now) key ≡ has r now key) where
      abbrev v : ℕ
      v = (entry r now).worker

      abbrev missing : ℕ
      missing = absent_from (arena r (suc now)) (entry r now).act (entry r now).key (suc now)

      begins : run_starts_at r (suc now) ≡ true
      begins = ap is_started event

      eighth : v < 8
      eighth = omega (arith, sound_counts r.begins_sound)

      earlier : (origin : ℕ) (b : Begun r origin) → Open r origin b (suc now) → origin ≢ now → Open r origin b now
      earlier origin b o d = open_before r origin b now (omega (arith, o.begun)) o

      -- a worker with an open call is busy, so it is another one
      another : (origin : ℕ) (b : Begun r origin) → Open r origin b now → (entry r origin).worker ≢ v
      another origin b o e = o.busy (subst (λ w. ((state r now).worker w).stage ≡ 0) (sym e) idle)

      new_number : get_or (set book.opened v book.calls) v 0 ≡ length (starts r now)
      new_number = get_or-set_same book.opened v book.calls 0 (omega (arith, eighth, booked.numbers)) ∙ booked.calls_are

      old_number : (origin : ℕ) (b : Begun r origin) → Open r origin b now →
          get_or (set book.opened v book.calls) (entry r origin).worker 0 ≡ length (starts r origin)
      old_number origin b o =
          get_or-set_other book.opened v (entry r origin).worker book.calls 0 (another origin b o) ∙ booked.numbered origin b o

      new_time : (entry r now).act ≡ contains →
          get_or (set book.absent v missing) v 0 ≡ absent_by r (entry r now).key (suc now) (suc now)
      new_time asks =
          get_or-set_same book.absent v missing 0 (omega (arith, eighth, booked.times))
          ∙ rw (eq-eqb _ _ asks) (sym (absent_first r (entry r now).key (suc now)))

      old_time : (origin : ℕ) (b : Begun r origin) → Open r origin b now → (entry r origin).act ≡ contains →
          get_or (set book.absent v missing) (entry r origin).worker 0 ≡ absent_by r (entry r origin).key (suc origin) (suc now)
      old_time origin b o asks =
          let key = (entry r origin).key in
          get_or-set_other book.absent v (entry r origin).worker missing 0 (another origin b o)
          ∙ booked.missed_first origin b o asks
          ∙ sym (absent_stays r key (suc origin) now (omega arith) o.begun (λ there. kept key ∙ there))

      starting : Booked (suc now) (with_start book v missing)
      starting =
          record {
            calls_are = ap suc booked.calls_are ∙ sym (passing_count (run_starts_at r) now ∙ rw begins);
            refused_are = booked.refused_are ∙ sym (count_next is_refused (ap is_refused event));
            waits_are = booked.waits_are ∙ sym (count_next is_waits (ap is_waits event));
            numbers = length-set book.opened v book.calls ∙ booked.numbers;
            times = length-set book.absent v missing ∙ booked.times;
            numbered = λ origin b o.
                elim (ℕ_discrete origin now) [
                  | yes e ↦
                      subst (λ t. get_or (set book.opened v book.calls) (entry r t).worker 0 ≡ length (starts r t)) (sym e) new_number
                  | no d ↦ old_number origin b (earlier origin b o d)
                ];
            missed_first = λ origin b o asks.
                elim (ℕ_discrete origin now) [
                  | yes e ↦
                      subst
                      (λ t. get_or (set book.absent v missing) (entry r t).worker 0 ≡ absent_by r (entry r t).key (suc t) (suc now))
                      (sym e) (new_time (subst (λ t. (entry r t).act ≡ contains) e asks))
                  | no d ↦ old_time origin b (earlier origin b o d) asks
                ];
          }

    -- after a turn the counts are the same but for a wait, and so are the open calls' numbers
    module _ (report : Report) (event : outcome r now ≡ turn_reported report) where
      unstarted : is_started (outcome r now) ≡ false
      unstarted = ap is_started event

      turned : (waits : ℕ) → waits ≡ cond (is_waits (turn_reported report)) (suc book.waits) book.waits →
          (absent : List ℕ) → length absent ≡ 8 →
          ((origin : ℕ) (b : Begun r origin) → Open r origin b (suc now) → (entry r origin).act ≡ contains →
          get_or absent (entry r origin).worker 0 ≡ absent_by r (entry r origin).key (suc origin) (suc now)) →
          Booked (suc now)
          (record { calls = book.calls; refused = book.refused; waits = waits; opened = book.opened; absent = absent })
      turned waits counts absent eight firsts =
          record {
            calls_are = booked.calls_are ∙ sym (ap length (passing_same (run_starts_at r) now unstarted));
            refused_are = booked.refused_are ∙ sym (count_next is_refused (ap is_refused event));
            waits_are =
                counts
                ∙ ap (λ n. cond (is_waits (turn_reported report)) (suc n) n) booked.waits_are ∙ sym (count_next is_waits (ap is_waits event));
            numbers = booked.numbers;
            times = eight;
            numbered = numbered_kept unstarted;
            missed_first = firsts;
          }

      -- and where it keeps what is in the set, so are the times
      kept_times : (waits : ℕ) → waits ≡ cond (is_waits (turn_reported report)) (suc book.waits) book.waits →
          ((key : ℕ) → has r now key ≡ true → has r (suc now) key ≡ true) →
          Booked (suc now)
          (record { calls = book.calls; refused = book.refused; waits = waits; opened = book.opened; absent = book.absent })
      kept_times waits counts kept = turned waits counts book.absent booked.times (missed_kept unstarted kept)

      -- the time of a look-up, where a key leaves the set
      missed_by : (gone_key : ℕ) → ((key : ℕ) → has r (suc now) key ≡ (not (eqb key gone_key) && has r now key)) →
          (origin : ℕ) (b : Begun r origin) → Open r origin b (suc now) → (entry r origin).act ≡ contains →
          cond (eqb (entry r origin).key gone_key && eqb (get_or book.absent (entry r origin).worker 0) 0) (suc now)
          (get_or book.absent (entry r origin).worker 0)
          ≡ absent_by r (entry r origin).key (suc origin) (suc now)
      missed_by gone_key gone origin b o asks =
          elim (ℕ_discrete had 0) [
            | no found ↦
                rw (ne_eqb had 0 found, and-false)
                (is ∙ sym (absent_kept r key (suc origin) now (omega arith) past (λ none. found (is ∙ none))))
            | yes none ↦ elim (ℕ_discrete key gone_key) [
              | yes e ↦
                  rw (eq-eqb key gone_key e, eq-eqb had 0 none)
                  (sym (absent_now r key (suc origin) now (omega arith) past (sym is ∙ none) (gone key ∙ rw (eq-eqb key gone_key e))))
              | no d ↦
                  rw (ne_eqb key gone_key d)
                  (is
                  ∙ sym (absent_stays r key (suc origin) now (omega arith) past (λ there. gone key ∙ rw (ne_eqb key gone_key d) there)))
            ]
          ]
        where
          key : ℕ
          key = (entry r origin).key

          had : ℕ
          had = get_or book.absent (entry r origin).worker 0

          past : suc origin ≤ now
          past = started_before unstarted origin b o

          is : had ≡ absent_by r key (suc origin) now
          is = booked.missed_first origin b (before unstarted origin b o) asks

      -- is what the books have then
      missed_time : (gone_key : ℕ) → ((key : ℕ) → has r (suc now) key ≡ (not (eqb key gone_key) && has r now key)) →
          (origin : ℕ) (b : Begun r origin) → Open r origin b (suc now) → (entry r origin).act ≡ contains →
          get_or (missed (worker_at (arena r (suc now))) (workers_of (arena r (suc now))) gone_key (suc now) book.absent)
          (entry r origin).worker 0
          ≡ absent_by r (entry r origin).key (suc origin) (suc now)
      missed_time gone_key gone origin b o asks =
          let u = (entry r origin).worker in
          let worker = worker_at (arena r (suc now)) in
          let own : worker u ≡ (state r (suc now)).worker u = sym (own_worker r (suc now) u b.known) in
          let looks : looks_up (worker u) gone_key ≡ eqb (entry r origin).key gone_key
          = rw (own, o.same_operation, o.same_key, asks) in
          missed_at worker gone_key (suc now) book.absent (workers_of (arena r (suc now))) u
          (omega (arith, b.known, (sound r (suc now)).workers_are))
          (omega (arith, b.known, booked.times, sound_counts r.begins_sound))
          ∙ rw looks (missed_by gone_key gone origin b o asks)

    -- a turn that takes a key out moves, and is missed by those who look the key up
    turning : (report : Report) → outcome r now ≡ turn_reported report →
        Change r now (worker_at (arena r now) (entry r now).worker) (worker_at (arena r (suc now)) (entry r now).worker).answer report →
        Booked (suc now) (next_book (arena r now) (suc now) (entry r now) book (turn_reported report))
    unfolding next_book arena_at
    turning report.Idle event (stays none kept) = kept_times report.Idle event _ refl kept
    turning report.Idle event (leaves moves takes gone) = absurd (true≢false (sym moves))
    turning (report.Moved stage) event (stays none kept) = rw none (kept_times (report.Moved stage) event _ refl kept)
    turning (report.Moved stage) event (leaves moves takes gone) =
        let key = (worker_at (arena r now) (entry r now).worker).key in
        let worker = worker_at (arena r (suc now)) in
        let workers = workers_of (arena r (suc now)) in
        rw takes
        (turned (report.Moved stage) event _ refl (missed worker workers key (suc now) book.absent)
        (missed_length worker key (suc now) book.absent workers ∙ booked.times) (missed_time (report.Moved stage) event key gone))
    turning (report.Waits node worker) event (stays none kept) = kept_times (report.Waits node worker) event _ refl kept
    turning (report.Waits node worker) event (leaves moves takes gone) = absurd (true≢false (sym moves))
    turning (report.Finished answer) event (stays none kept) = kept_times (report.Finished answer) event _ refl kept
    turning (report.Finished answer) event (leaves moves takes gone) = absurd (true≢false (sym moves))

    -- by what the next entry comes to
    by_event : Happens r now → Booked (suc now) (next_book (arena r now) (suc now) (entry r now) book (outcome r now))
    unfolding arena_at next_book
    by_event (nothing unstarted unreported unfinished same) = refused (outcome r now) refl unstarted unreported
      where
        refused : (event : Event) → outcome r now ≡ event → is_started event ≡ false → is_reported event ≡ false →
            Booked (suc now) (next_book (arena r now) (suc now) (entry r now) book event)
        refused call_started is unstarted unreported = absurd (true≢false unstarted)
        refused (turn_reported report) is unstarted unreported = absurd (true≢false unreported)
        refused (entry_refused refusal) is unstarted unreported = refusing refusal is same
    by_event (start event idle call known next) =
        subst (λ e. Booked (suc now) (next_book (arena r now) (suc now) (entry r now) book e)) (sym event)
        (starting event idle known (has_started r now (entry r now).worker (entry r now).act (entry r now).key (entry r now).length idle next))
    by_event (turn step event row idle next) =
        subst (λ e. Booked (suc now) (next_book (arena r now) (suc now) (entry r now) book e)) (sym event)
        (turning step.report event (turn_change r now step event row next))

    pub booked_event : Booked (suc now) (next_book (arena r now) (suc now) (entry r now) book (outcome r now))
    booked_event = by_event (happens r now)

    pub booked_next : Booked (suc now) (book_after (arena r now) (suc now) (entry r now) book)
    unfolding book_after
    booked_next = subst (λ e. Booked (suc now) (next_book (arena r now) (suc now) (entry r now) book e)) (outcome_is r now) booked_event
