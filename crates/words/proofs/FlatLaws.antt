-- Records in flat words: one read, one written, one more.
use Prim.Native.Nat.{ℕ, zero, suc, ◌+◌, ◌*◌, ◌<◌, ◌≤◌}
use mathlib.Core.Path.{◌≡◌, refl, sym, ap, ◌∙◌}
use mathlib.Core.List.{List, [], ◌∷◌, ◌++◌, map, map-append, append-nil, append_assoc, flatten}
use native.Mathlib.Omega.{arith}
use native.Mathlib.Nat.{zero-add, add-suc, suc-add, mul-suc, mul-add}
use lib.ListN.{length, get_or, set, drop, length-append, length-map, length-drop, get_or-append}
use lib.Seq.{sets, sets-eq, get_or-append-add, drop-append_seam, drop-drop}
use Rattle.words.specs.Layout.{word, slot}
use Rattle.words.specs.Flat.{flat_words, record_in, with_record, IsRecord}
use Rattle.words.proofs.Runs.{sets_append}

-- the records of some times, and behind them what was lent
abbrev pub held_by : {A : Type 0} → (A → List ℕ) → ℕ → (ℕ → A) → List ℕ → List ℕ → List ℕ
held_by words width f times lent = flat_words words (map f times) ++ drop (width * length times) lent

-- words written further on are written behind
set_behind : (xs ys : List ℕ) (at v : ℕ) → set (xs ++ ys) (length xs + at) v ≡ xs ++ set ys at v
set_behind [] ys at v = rw zero-add
set_behind (x ∷ xs) ys at v = rw suc-add (ap (λ (l : List ℕ). x ∷ l) (set_behind xs ys at v))

sets_behind : (xs ys vs : List ℕ) (at : ℕ) → sets (xs ++ ys) (length xs + at) vs ≡ xs ++ sets ys at vs
sets_behind xs ys [] at = refl
sets_behind xs ys (v ∷ vs) at = rw (set_behind xs ys at v, ← add-suc) (sets_behind xs (set ys at v) vs (suc at))

-- the first record is written over as many words
write_first : (values words : List ℕ) → length values ≤ length words → with_record words 0 values ≡ values ++ drop (length values) words
unfolding with_record
write_first values words room =
    let place : length values * 0 ≡ 0 = omega arith in
    rw place (sets-eq values words 0 (rw zero-add room) ∙ rw zero-add)

-- the words of some records, and of others behind them
pub flat_append : {A : Type 0} (words : A → List ℕ) (xs ys : List A) → flat_words words (xs ++ ys) ≡ flat_words words xs ++ flat_words words ys
unfolding flatten
flat_append words [] ys = refl
flat_append words (x ∷ xs) ys = rw (flat_append words xs ys) (sym (append_assoc (words x) (flat_words words xs) (flat_words words ys)))

-- of records that all have as many words: how many there are, and the one at a place
module _ {A : Type 0} {width : ℕ} (words : A → List ℕ) (wide : (x : A) → length (words x) ≡ width) where
  pub flat_long : (xs : List A) → length (flat_words words xs) ≡ width * length xs
  unfolding flatten
  flat_long [] = omega arith
  flat_long (x ∷ xs) = rw (length-append, wide x, flat_long xs, mul-suc) (omega arith)

  pub flat_at : (xs : List A) (i field : ℕ) (default : A) → i < length xs → field < width →
      word (flat_words words xs) (slot width i field) ≡ word (words (get_or xs i default)) field
  unfolding flatten
  flat_at [] i field default there room = absurd (omega arith)
  flat_at (x ∷ xs) zero field default there room =
      let place : slot width 0 field ≡ field = omega arith in
      rw place (get_or-append (words x) (flat_words words xs) 0 field (omega (arith, wide x)))
  flat_at (x ∷ xs) (suc i) field default there room =
      let place : slot width (suc i) field ≡ length (words x) + slot width i field = rw (wide x, mul-suc) (omega arith) in
      rw place (get_or-append-add (words x) (flat_words words xs) (slot width i field) 0 ∙ flat_at xs i field default (omega arith) room)

module _ {A : Type 0} {width : ℕ} {words : A → List ℕ} {first : List ℕ → A} (laws : IsRecord width words first) where
  -- a record is read from its words, first and behind another
  pub read_first : (x : A) (rest : List ℕ) → record_in width first (words x ++ rest) 0 ≡ x
  unfolding record_in
  read_first x rest =
      let place : width * 0 ≡ 0 = omega arith in
      rw place (laws.read_back x rest)

  pub read_behind : (x : A) (rest : List ℕ) (i : ℕ) → record_in width first (words x ++ rest) (suc i) ≡ record_in width first rest i
  unfolding record_in
  read_behind x rest i =
      let place : width * suc i ≡ length (words x) + width * i = rw (laws.wide x, mul-suc) (omega arith) in
      rw place (ap first (sym (drop-drop (width * i) (length (words x)) (words x ++ rest)) ∙ ap (drop (width * i)) (drop-append_seam (words x) rest)))

  pub flat_length : (xs : List A) → length (flat_words words xs) ≡ width * length xs
  flat_length = flat_long words laws.wide

  -- record i of some records, read and written
  pub flat_read : (xs : List A) (rest : List ℕ) (i : ℕ) (default : A) → i < length xs →
      record_in width first (flat_words words xs ++ rest) i ≡ get_or xs i default
  unfolding flatten
  flat_read [] rest i default there = absurd (omega arith)
  flat_read (x ∷ xs) rest zero default there = rw append_assoc (read_first x (flat_words words xs ++ rest))
  flat_read (x ∷ xs) rest (suc i) default there =
      rw append_assoc (read_behind x (flat_words words xs ++ rest) i ∙ flat_read xs rest i default (omega arith))

  write_behind : (x y : A) (rest : List ℕ) (i : ℕ) →
      with_record (words x ++ rest) (suc i) (words y) ≡ words x ++ with_record rest i (words y)
  unfolding with_record
  write_behind x y rest i =
      let further : length (words y) * suc i ≡ length (words x) + length (words y) * i
      = rw (laws.wide x, laws.wide y, mul-suc) (omega arith) in
      rw further (sets_behind (words x) rest (words y) (length (words y) * i))

  pub flat_write : (xs : List A) (rest : List ℕ) (i : ℕ) (x : A) → i < length xs →
      with_record (flat_words words xs ++ rest) i (words x) ≡ flat_words words (set xs i x) ++ rest
  unfolding flatten
  flat_write [] rest i x there = absurd (omega arith)
  flat_write (y ∷ ys) rest zero x there =
      let same : length (words x) ≡ length (words y) = laws.wide x ∙ sym (laws.wide y) in
      let behind = flat_words words ys ++ rest in
      rw (append_assoc, append_assoc)
      (write_first (words x) (words y ++ behind) (rw (length-append, same) (omega arith))
      ∙ ap (λ n. words x ++ drop n (words y ++ behind)) same
      ∙ ap (λ l. words x ++ l) (drop-append_seam (words y) behind))
  flat_write (y ∷ ys) rest (suc i) x there =
      rw (append_assoc, append_assoc)
      (write_behind y x (flat_words words ys ++ rest) i ∙ ap (λ l. words y ++ l) (flat_write ys rest i x (omega arith)))

  -- one more record, behind some that were written from a place on
  pub flat_behind : (xs : List A) (l : List ℕ) (i : ℕ) (x : A) →
      with_record (sets l (width * i) (flat_words words xs)) (i + length xs) (words x) ≡ sets l (width * i) (flat_words words (xs ++ x ∷ []))
  unfolding with_record flatten
  flat_behind xs l i x =
      let place : length (words x) * (i + length xs) ≡ width * i + length (flat_words words xs) = rw (laws.wide x, flat_length xs, mul-add) in
      rw (place, flat_append words xs (x ∷ []), append-nil, sets_append)

  -- one more record, in words that are left
  pub flat_more : (xs : List A) (rest : List ℕ) (x : A) → width ≤ length rest →
      with_record (flat_words words xs ++ rest) (length xs) (words x) ≡ flat_words words (xs ++ x ∷ []) ++ drop width rest
  unfolding flatten
  flat_more [] rest x room =
      write_first (words x) rest (rw (laws.wide x) room)
      ∙ ap (λ n. words x ++ drop n rest) (laws.wide x)
      ∙ ap (λ l. l ++ drop width rest) (sym (append-nil (words x)))
  flat_more (y ∷ ys) rest x room =
      rw (append_assoc, append_assoc)
      (write_behind y x (flat_words words ys ++ rest) (length ys) ∙ ap (λ l. words y ++ l) (flat_more ys rest x room))

  -- the records of some times, and behind them what was lent: with one time more
  pub held_more : (f : ℕ → A) (times lent : List ℕ) (time : ℕ) → width * suc (length times) ≤ length lent →
      with_record (held_by words width f times lent) (length times) (words (f time)) ≡ held_by words width f (times ++ time ∷ []) lent
  held_more f times lent time room =
      let rest = drop (width * length times) lent in
      let count : length (times ++ time ∷ []) ≡ suc (length times) = rw length-append (omega arith) in
      let behind : width * length times + width ≡ width * length (times ++ time ∷ []) = rw (count, mul-suc) (omega arith) in
      ap (λ n. with_record (flat_words words (map f times) ++ rest) n (words (f time))) (sym (length-map times f))
      ∙ flat_more (map f times) rest (f time) (rw length-drop (omega (arith, mul-suc width (length times))))
      ∙ ap (λ xs. flat_words words xs ++ drop width rest) (sym (map-append f times (time ∷ [])))
      ∙ ap (λ l. flat_words words (map f (times ++ time ∷ [])) ++ l) (drop-drop width (width * length times) lent ∙ ap (λ n. drop n lent) behind)
