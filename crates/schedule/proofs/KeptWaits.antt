-- The flat words of the waits at every time.
use Prim.Native.Nat.{ℕ, suc, ◌*◌, ◌≤◌}
use mathlib.Core.Path.{◌≡◌, refl, sym, ap, ◌∙◌}
use mathlib.Core.List.{List, [], ◌∷◌}
use mathlib.Core.Bool.{Bool, true, false}
use native.Mathlib.Omega.{arith}
use lib.ListN.{length, get_or, length-append}
use Rattle.worker.specs.declared.report.Report.TheVariants as report
use Rattle.linear.specs.Entries.{Event, call_started, turn_reported, entry_refused, is_waits, event_values}
use Rattle.linear.specs.History.{waits_at, wait_at}
use Rattle.linear.proofs.MoreTimes.{passing, passing_more, passing_same}
use Rattle.linear.proofs.Timeline.{Schedule, arena, entry, outcome, outcome_is}
use Rattle.linear.proofs.OpenCalls.{At, open_at}
use Rattle.linear.proofs.Waiting.{open_number, waiter_busy}
use Rattle.schedule.specs.declared.Wait.{Wait}
use Rattle.schedule.specs.declared.book.Book.{Book}
use Rattle.words.specs.Flat.{with_record}
use Rattle.schedule.specs.Run.{wait_of, wait_width, wait_words, wait_laws}
use Rattle.schedule.specs.Book.{next_waits, waits_after}
use Rattle.words.proofs.FlatLaws.{held_by, held_more}
use Rattle.schedule.proofs.Booked.{Booked}
use Rattle.schedule.proofs.Written.{number_is}

module _ (r : Schedule) where
  -- the waits up to a time, and behind them what was lent
  abbrev pub waiting_at : ℕ → Bool
  waiting_at time = waits_at r.initial r.entries time

  abbrev pub run_wait_at : ℕ → Wait
  run_wait_at time = wait_of (wait_at r.initial r.entries time)

  abbrev pub held_waits : List ℕ → ℕ → List ℕ
  held_waits lent now = held_by wait_words wait_width run_wait_at (passing waiting_at now) lent

  module _ (now : ℕ) (lent : List ℕ) (book : Book) (booked : Booked r now book) where
    -- an entry that does not wait adds none
    no_wait : {event : Event} → outcome r now ≡ event → is_waits event ≡ false → held_waits lent now ≡ held_waits lent (suc now)
    no_wait is none =
        ap (λ times. held_by wait_words wait_width run_wait_at times lent) (sym (passing_same waiting_at now (ap is_waits is ∙ none)))

    -- a turn that waits adds one, of the call that its worker is at
    wait_is : (node worker : ℕ) → outcome r now ≡ turn_reported (report.Waits node worker) →
        record { call = get_or book.opened (entry r now).worker 0; time = suc now; node = node; worker = worker } ≡ run_wait_at (suc now)
    unfolding wait_at
    wait_is node worker is =
        let at : At r now (entry r now).worker = open_at r now (entry r now).worker (waiter_busy r now (ap is_waits is)) in
        λ k. record {
          call = (number_is r now at book booked ∙ sym (open_number r now (entry r now).worker at)) k;
          time = suc now;
          node = get_or (event_values (sym is k)) 1 0;
          worker = get_or (event_values (sym is k)) 2 0;
        }

    wait_words_lem : (node worker : ℕ) → outcome r now ≡ turn_reported (report.Waits node worker) →
        (waiting_at (suc now) ≡ true → wait_width * length (passing waiting_at (suc now)) ≤ length lent) →
        with_record (held_waits lent now) book.waits
        (wait_words (record { call = get_or book.opened (entry r now).worker 0; time = suc now; node = node; worker = worker }))
        ≡ held_waits lent (suc now)
    wait_words_lem node worker is room =
        let waits : waiting_at (suc now) ≡ true = ap is_waits is in
        let more = passing_more waiting_at now waits in
        let count : length (passing waiting_at (suc now)) ≡ suc (length (passing waiting_at now))
        = ap length more ∙ length-append (passing waiting_at now) (suc now ∷ []) ∙ omega arith in
        ap (λ wait. with_record (held_waits lent now) book.waits (wait_words wait)) (wait_is node worker is)
        ∙ ap (λ n. with_record (held_waits lent now) n (wait_words (run_wait_at (suc now)))) booked.waits_are
        ∙ held_more wait_laws run_wait_at (passing waiting_at now) lent (suc now) (omega (arith, count, room waits))
        ∙ ap (λ times. held_by wait_words wait_width run_wait_at times lent) (sym more)

    by_event : (waiting_at (suc now) ≡ true → wait_width * length (passing waiting_at (suc now)) ≤ length lent) →
        (event : Event) → outcome r now ≡ event →
        next_waits (arena r now) (suc now) (entry r now) book (held_waits lent now) event ≡ held_waits lent (suc now)
    unfolding next_waits
    by_event room call_started is = no_wait is refl
    by_event room (entry_refused number) is = no_wait is refl
    by_event room (turn_reported report.Idle) is = no_wait is refl
    by_event room (turn_reported (report.Moved stage)) is = no_wait is refl
    by_event room (turn_reported (report.Waits node worker)) is = wait_words_lem node worker is room
    by_event room (turn_reported (report.Finished answer)) is = no_wait is refl

    pub waits_next : (waiting_at (suc now) ≡ true → wait_width * length (passing waiting_at (suc now)) ≤ length lent) →
        waits_after (arena r now) (suc now) (entry r now) book (held_waits lent now) ≡ held_waits lent (suc now)
    unfolding waits_after
    waits_next room =
        ap (next_waits (arena r now) (suc now) (entry r now) book (held_waits lent now)) (sym (outcome_is r now))
        ∙ by_event room (outcome r now) refl
