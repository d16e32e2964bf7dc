-- Laws of rows that are filled, and of records in flat words.
use Prim.Native.Nat.{ℕ, zero, suc, ◌+◌, ◌<◌}
use mathlib.Core.Path.{◌≡◌, refl, sym, ap, subst}
use mathlib.Core.List.{List, [], ◌∷◌, ◌++◌, append_assoc, flatten}
use native.Mathlib.Nat.{add-zero, zero-add, add-suc, suc-add}
use native.Mathlib.Numerals.{add-one}
use native.Mathlib.Omega.{arith}
use lib.ListN.{length, drop, set}
use Rattle.schedule.specs.declared.Call.{Call}
use Rattle.schedule.specs.declared.Wait.{Wait}
use Rattle.words.specs.Flat.{flat_words, record_in, IsRecord}
use Rattle.schedule.specs.Run.{told}
use Rattle.words.proofs.FlatLaws.{read_first, read_behind}
use Rattle.history.specs.Rows.{records_from, filled_row, no_call, no_wait}

module _ {A : Type 0} (record_at : ℕ → A) where
  -- nothing is filled in yet
  pub none_filled : (row : List A) → filled_row record_at 0 row ≡ row
  unfolding filled_row records_from
  none_filled row = refl

  -- the next record is put in
  next_from : (i count : ℕ) (row : List A) → count < length row →
      set (records_from record_at i count ++ drop count row) count (record_at (count + i))
      ≡ records_from record_at i (suc count) ++ drop (suc count) row
  unfolding records_from
  next_from i count [] fits = absurd (omega arith)
  next_from i zero (first ∷ row) fits = rw zero-add
  next_from i (suc count) (first ∷ row) fits =
      ap (λ (records : List A). record_at i ∷ records) (rw (suc-add, ← add-suc) (next_from (suc i) count row (omega arith)))

  pub next_filled : (count : ℕ) (row : List A) → count < length row →
      set (filled_row record_at count row) count (record_at count) ≡ filled_row record_at (count + 1) row
  unfolding filled_row
  next_filled count row fits = rw add-one (rw add-zero at (next_from 0 count row fits))

-- records as they stand in flat words
module _ {A : Type 0} {width : ℕ} {words : A → List ℕ} {first : List ℕ → A} (laws : IsRecord width words first) where
  abbrev read : List ℕ → ℕ → A
  read = record_in width first

  from_behind : (x : A) (rest : List ℕ) (i count : ℕ) → records_from (read (words x ++ rest)) (suc i) count ≡ records_from (read rest) i count
  unfolding records_from
  from_behind x rest i zero = refl
  from_behind x rest i (suc count) = rw (read_behind laws x rest i, from_behind x rest (suc i) count)

  flat_from : (xs : List A) (rest : List ℕ) → records_from (read (flat_words words xs ++ rest)) 0 (length xs) ≡ xs
  unfolding records_from flatten
  flat_from [] rest = refl
  flat_from (x ∷ xs) rest =
      let others = flat_words words xs ++ rest in
      let apart : flat_words words (x ∷ xs) ++ rest ≡ words x ++ others = append_assoc (words x) (flat_words words xs) rest in
      subst (λ (l : List ℕ). records_from (read l) 0 (suc (length xs)) ≡ x ∷ xs) (sym apart)
      (rw (read_first laws x others, from_behind x others 0 (length xs), flat_from xs rest))

  -- a row that is filled from the flat words of some records holds them, and then its own
  pub filled_flat : (xs : List A) (rest : List ℕ) (row : List A) →
      filled_row (read (flat_words words xs ++ rest)) (length xs) row ≡ told xs row
  unfolding filled_row
  filled_flat xs rest row = rw (flat_from xs rest)

-- a record with zeros alone
pub blank_call : (call : Call) →
    (call.worker ≡ 0) × ((call.operation ≡ 0) × ((call.key ≡ 0) × ((call.start ≡ 0) × ((call.point ≡ 0) × ((call.finish ≡ 0) × (call.answer ≡ 0)))))) →
    call ≡ no_call
blank_call call (worker, (operation, (key, (start, (point, (finish, answer)))))) =
    λ k. record {
      worker = worker k;
      operation = operation k;
      key = key k;
      start = start k;
      point = point k;
      finish = finish k;
      answer = answer k;
    }

pub blank_wait : (wait : Wait) → (wait.call ≡ 0) × ((wait.time ≡ 0) × ((wait.node ≡ 0) × (wait.worker ≡ 0))) → wait ≡ no_wait
blank_wait wait (call, (time, (node, worker))) = λ k. record { call = call k; time = time k; node = node k; worker = worker k }
