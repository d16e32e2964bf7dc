-- What a run on flat words, with less room, says of a row of records with more.
use Prim.Native.Nat.{ℕ, min, ◌*◌, ◌/◌, ◌<◌, ◌≤◌}
use mathlib.Core.Path.{◌≡◌, sym, ap, ◌∙◌}
use mathlib.Core.List.{List, [], ◌∷◌, ◌++◌, append_assoc}
use native.Mathlib.Nat.{le_of_mul-le-mul_left, le_trans}
use native.Mathlib.Omega.{arith}
use lib.Dec.{lit<}
use lib.ListN.{length, get_or, drop, length-append, length-drop}
use Rattle.std.specs.Prelude.{Result, Ok, Err}
use Rattle.worker.specs.Refusals.{Test, judged}
use Rattle.worker.specs.declared.refusal.Refusal.{Refusal}
use Rattle.words.specs.Replies.{reply, replied}
use Rattle.words.proofs.Judged.{judged_refused, judged_accepted, given_values}
use Rattle.arena.specs.Init.{fresh_words}
use Rattle.linear.specs.History.{totals}
use Rattle.schedule.specs.declared.Totals.{Totals}
use Rattle.words.specs.Flat.{flat_words, record_in, IsRecord}
use Rattle.words.specs.Entries.{entries_of}
use Rattle.schedule.specs.Run.{call_width, call_laws, wait_width, wait_laws, records_of, waits_of, told, row_after, run_refusals, run_answer}
use Rattle.schedule.specs.Run.{run_arena}
use Rattle.schedule.specs.Run.{run_call_words, run_wait_words, totals_values, DoneLinearizable}
use Rattle.words.proofs.FlatLaws.{flat_length}
use Rattle.schedule.proofs.HistoryLaws.{judged_most, answer_most, arena_most, told_calls, told_waits}
use Rattle.history.specs.Rows.{filled_row, told_in, RanWithin}
use Rattle.history.proofs.RowLaws.{none_filled, filled_flat}

module _ {A : Type 0} {width : ℕ} {words : A → List ℕ} {first : List ℕ → A} (laws : IsRecord width words first) (records : List A)
    (count : Totals → ℕ) (refusals : List Test) (values part after : List ℕ) (same : length after ≡ length part)
    (written : after ≡ row_after refusals (flat_words words records) part)
    (counted : (done : Totals) → reply totals_values (Ok done) ≡ replied refusals values → count done ≡ length records) where
  abbrev read : List ℕ → ℕ → A
  read = record_in width first

  abbrev Told : Result Totals Refusal → Type 0
  Told r = reply totals_values r ≡ replied refusals values

  -- a run that is done has written its records
  done_words : (done : Totals) → Told (Ok done) → after ≡ told (flat_words words records) part
  unfolding row_after
  done_words done e = written ∙ judged_accepted refusals values _ _ e

  -- so they have room in words that keep their length
  has_room : (done : Totals) → Told (Ok done) → width * length records ≤ length part
  has_room done e =
      let size = length (flat_words words records) in
      omega (
        arith,
        same,
        ap length (done_words done e),
        length-append (flat_words words records) (drop size part),
        flat_length laws records,
        length-drop size part,
      )

  flat_fits : (room lent : ℕ) → length part ≡ width * room → 0 < width → room ≤ lent → (r : Result Totals Refusal) → Told r → told_in count r ≤ lent
  flat_fits room lent sized some most (Err refusal) e = omega arith
  flat_fits room lent sized some most (Ok done) e =
      let few : length records ≤ room = le_of_mul-le-mul_left (rw (← sized) (has_room done e)) some in
      rw (counted done e) (le_trans few most)

  -- a list of refusals that judges alike may stand in the place of the run's own
  flat_holds : (rest : List ℕ) (others : List Test) →
      ((B : Type 0) (refuse : Refusal → B) (accept : B) → judged refusals refuse accept ≡ judged others refuse accept) →
      (r : Result Totals Refusal) → Told r → (row : List A) → filled_row (read (after ++ rest)) (told_in count r) row ≡ row_after others records row
  unfolding row_after
  flat_holds rest others alike (Err refusal) e row =
      none_filled (read (after ++ rest)) row ∙ sym (judged_refused refusals values _ _ e) ∙ alike (List A) _ _
  flat_holds rest others alike (Ok done) e row =
      rw (counted done e, done_words done e, append_assoc)
      (filled_flat laws records (drop (length (flat_words words records)) part ++ rest) row
      ∙ sym (judged_accepted refusals values _ _ e) ∙ alike (List A) _ _)

  pub flat_row : (room lent : ℕ) → length part ≡ width * room → 0 < width → room ≤ lent → (rest : List ℕ) (others : List Test) →
      ((B : Type 0) (refuse : Refusal → B) (accept : B) → judged refusals refuse accept ≡ judged others refuse accept) →
      (r : Result Totals Refusal) → Told r →
      (told_in count r ≤ lent) × ((row : List A) → filled_row (read (after ++ rest)) (told_in count r) row ≡ row_after others records row)
  flat_row room lent sized some most rest others alike r e = (flat_fits room lent sized some most r e, flat_holds rest others alike r e)

-- a run that is lent the first words of longer ones, for 4,000 calls and 4,000 waits at most
module _ (arena : List ℕ) (workers nodes : ℕ) (schedule : List ℕ) (call_room wait_room : ℕ) (r : Result Totals Refusal) (after : List ℕ)
    (calls waits calls_after waits_after : List ℕ)
    (answer : reply totals_values r ≡ run_answer arena workers nodes schedule (length calls / call_width) (length waits / wait_width))
    (words : after ≡ run_arena arena workers nodes schedule (length calls / call_width) (length waits / wait_width))
    (calls_written : calls_after ≡ run_call_words arena workers nodes schedule calls waits)
    (waits_written : waits_after ≡ run_wait_words arena workers nodes schedule calls waits)
    (linearizable : DoneLinearizable r workers nodes schedule)
    (calls_same : length calls_after ≡ length calls) (waits_same : length waits_after ≡ length waits)
    (calls_sized : length calls ≡ call_width * min call_room 4000) (waits_sized : length waits ≡ wait_width * min wait_room 4000) where
  abbrev refusals : List Test
  refusals = run_refusals arena workers nodes schedule (length calls / call_width) (length waits / wait_width)

  calls_room : length calls / call_width ≡ min call_room 4000
  calls_room = omega (arith, calls_sized)

  waits_room : length waits / wait_width ≡ min wait_room 4000
  waits_room = omega (arith, waits_sized)

  abbrev values : List ℕ
  values =
      let told = totals (fresh_words workers nodes) (entries_of schedule) in
      told.entries ∷ told.refused ∷ told.waits ∷ told.calls ∷ []

  calls_counted : (done : Totals) → reply totals_values (Ok done) ≡ replied refusals values →
      done.calls ≡ length (records_of workers nodes schedule)
  calls_counted done e = ap (λ (given : List ℕ). get_or given 3 0) (given_values refusals values e) ∙ told_calls workers nodes schedule

  waits_counted : (done : Totals) → reply totals_values (Ok done) ≡ replied refusals values →
      done.waits ≡ length (waits_of workers nodes schedule)
  waits_counted done e = ap (λ (given : List ℕ). get_or given 2 0) (given_values refusals values e) ∙ told_waits workers nodes schedule

  alike : (B : Type 0) (refuse : Refusal → B) (accept : B) →
      judged refusals refuse accept ≡ judged (run_refusals arena workers nodes schedule call_room wait_room) refuse accept
  alike B refuse accept = rw (calls_room, waits_room) (judged_most arena workers nodes schedule call_room wait_room refuse accept)

  pub ran_within : (calls_rest waits_rest : List ℕ) →
      RanWithin arena workers nodes schedule call_room wait_room r after (calls_after ++ calls_rest) (waits_after ++ waits_rest)
  unfolding run_answer
  ran_within calls_rest waits_rest =
      let others = run_refusals arena workers nodes schedule call_room wait_room in
      let call_row = flat_row call_laws (records_of workers nodes schedule) (λ done. done.calls) refusals values calls calls_after calls_same
      calls_written calls_counted (min call_room 4000) call_room calls_sized (lit< tt) (omega arith) calls_rest others alike r answer in
      let wait_row = flat_row wait_laws (waits_of workers nodes schedule) (λ done. done.waits) refusals values waits waits_after waits_same
      waits_written waits_counted (min wait_room 4000) wait_room waits_sized (lit< tt) (omega arith) waits_rest others alike r answer in
      record {
        answer = rw (calls_room, waits_room) at answer ∙ answer_most arena workers nodes schedule call_room wait_room;
        arena_after = rw (calls_room, waits_room) at words ∙ arena_most arena workers nodes schedule call_room wait_room;
        calls_fit = call_row.0;
        waits_fit = wait_row.0;
        calls = λ row long. rw long (call_row.1 row);
        waits = λ row long. rw long (wait_row.1 row);
        linearizable = linearizable;
      }
