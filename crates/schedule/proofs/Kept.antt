-- The flat words of the calls at every time.
use Prim.Native.Nat.{ℕ, suc, ◌*◌, ◌≤◌}
use mathlib.Core.Path.{◌≡◌, refl, sym, ap, subst, ◌∙◌}
use mathlib.Core.Logic.{inl}
use mathlib.Core.List.{List, [], ◌∷◌, ◌++◌, map}
use mathlib.Core.Bool.{true, false, true≢false}
use native.Mathlib.Omega.{arith}
use lib.ListN.{length, drop, length-append}
use Rattle.linear.specs.Entries.{Event, call_started, turn_reported, entry_refused, is_started, is_reported, is_finished}
use Rattle.linear.specs.History.{arena_at}
use Rattle.linear.proofs.MoreTimes.{passing_more, passing_same}
use Rattle.linear.proofs.Timeline.{Schedule, Happens, nothing, start, turn, happens, arena, entry, outcome, outcome_is, run_starts_at}
use Rattle.linear.proofs.Phases.{not_decided, not_finished}
use Rattle.linear.proofs.Waiting.{starts}
use Rattle.schedule.specs.declared.Call.{Call}
use Rattle.schedule.specs.declared.book.Book.{Book}
use Rattle.words.specs.Flat.{flat_words}
use Rattle.schedule.specs.Run.{record_of, call_width, call_words, call_laws}
use Rattle.schedule.specs.Book.{with_call, new_call, next_book, next_calls, calls_after}
use Rattle.words.proofs.FlatLaws.{held_by, held_more}
use Rattle.schedule.proofs.CallsBy.{call_new}
use Rattle.schedule.proofs.Booked.{Booked, booked_event}
use Rattle.schedule.proofs.Written.{record_by, records, held, all_still}
use Rattle.schedule.proofs.TurnWords.{kind, turn_words}

module _ (r : Schedule) (now : ℕ) (lent : List ℕ) (book : Book) (booked : Booked r now book) where
  -- an entry that is no turn keeps the records
  module _ (unreported : is_reported (outcome r now) ≡ false) (unfinished : is_finished (outcome r now) ≡ false) where
    kept : records r now ≡ map (record_by r (suc now)) (starts r now)
    kept = all_still r now (λ w. not_finished r w now (inl unfinished)) (λ w. not_decided r w now (inl unreported))

    kept_words : (lent : List ℕ) → held r lent now ≡ held_by call_words call_width (record_by r (suc now)) (starts r now) lent
    kept_words lent = ap (λ calls. flat_words call_words calls ++ drop (call_width * length (starts r now)) lent) kept

    refused_words : is_started (outcome r now) ≡ false → held r lent now ≡ held r lent (suc now)
    refused_words unstarted =
        kept_words lent
        ∙ ap (λ times. held_by call_words call_width (record_by r (suc now)) times lent) (sym (passing_same (run_starts_at r) now unstarted))

    -- a start adds one
    abbrev new : Call
    new = new_call (entry r now).worker (entry r now).act (entry r now).key (suc now)

    start_words : is_started (outcome r now) ≡ true → call_width * length (starts r (suc now)) ≤ length lent →
        with_call (held r lent now) book.calls new ≡ held r lent (suc now)
    start_words starting room =
        let more = passing_more (run_starts_at r) now starting in
        let count : length (starts r (suc now)) ≡ suc (length (starts r now))
        = ap length more ∙ length-append (starts r now) (suc now ∷ []) ∙ omega arith in
        ap (λ words. with_call words book.calls new) (kept_words lent)
        ∙ ap (λ n. with_call (held_by call_words call_width (record_by r (suc now)) (starts r now) lent) n new) booked.calls_are
        ∙ ap (with_call (held_by call_words call_width (record_by r (suc now)) (starts r now) lent) (length (starts r now)))
        (sym (ap record_of (call_new r (suc now))))
        ∙ held_more call_laws (record_by r (suc now)) (starts r now) lent (suc now) (omega (arith, count))
        ∙ ap (λ times. held_by call_words call_width (record_by r (suc now)) times lent) (sym more)

  by_event : (run_starts_at r (suc now) ≡ true → call_width * length (starts r (suc now)) ≤ length lent) → Happens r now →
      next_calls (arena r now) (suc now) (entry r now) book (held r lent now) (outcome r now) ≡ held r lent (suc now)
  unfolding arena_at next_calls
  by_event room (nothing unstarted unreported unfinished same) = refusal (outcome r now) unstarted unreported
    where
      refusal : (event : Event) → is_started event ≡ false → is_reported event ≡ false →
          next_calls (arena r now) (suc now) (entry r now) book (held r lent now) event ≡ held r lent (suc now)
      refusal call_started begins reports = absurd (true≢false begins)
      refusal (turn_reported report) begins reports = absurd (true≢false reports)
      refusal (entry_refused number) begins reports = refused_words unreported unfinished unstarted
  by_event room (start event idle call known next) =
      ap (next_calls (arena r now) (suc now) (entry r now) book (held r lent now)) event
      ∙ start_words (ap is_reported event) (ap is_finished event) (ap is_started event) (room (ap is_started event))
  by_event room (turn step event row idle next) =
      ap (next_calls (arena r now) (suc now) (entry r now) book (held r lent now)) event
      ∙ turn_words r now lent book booked step.report event
      (subst (λ e. Booked r (suc now) (next_book (arena r now) (suc now) (entry r now) book e)) event (booked_event r now book booked))
      (kind r now step.report event step refl row next)

  pub calls_next : (run_starts_at r (suc now) ≡ true → call_width * length (starts r (suc now)) ≤ length lent) →
      calls_after (arena r now) (suc now) (entry r now) book (held r lent now) ≡ held r lent (suc now)
  unfolding calls_after
  calls_next room =
      ap (next_calls (arena r now) (suc now) (entry r now) book (held r lent now)) (sym (outcome_is r now)) ∙ by_event room (happens r now)
