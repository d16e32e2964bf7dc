-- Laws of lists: of numbers in a row, of what passes a test, and of lists in which every two elements are related.
use Prim.Native.Nat.{ℕ, zero, suc, ◌+◌, ◌-◌, ◌<◌}
use mathlib.Core.Path.{◌≡◌, refl, sym, ap, ◌∙◌}
use mathlib.Core.Logic.{◌⊎◌, inl, inr, ⊎_elim}
use mathlib.Core.List.Memᴰ
use mathlib.Core.List.{List, [], ◌∷◌, Memᴰ, map}
use mathlib.Core.Bool.{Bool, true, false, cond}
use mathlib.Mathlib.Data.Bool.Basic.{dichotomy}
use native.Mathlib.Omega.{arith}
use native.Mathlib.Nat.{add-zero, add-suc, suc-add}
use native.Mathlib.Numerals.{add-one, sub-one}
use lib.ListN.{length, get_or}
use Rattle.std.specs.List.{filter}
use Rattle.arena.specs.Lists.{numbers_from, Each, none, ◌and◌, Pairs, alone, ◌ahead◌}

-- numbers in a row: the first and the others, how many they are, and the one at a place
pub numbers_on : (number left : ℕ) → 0 < left → numbers_from number left ≡ number ∷ numbers_from (number + 1) (left - 1)
unfolding numbers_from
numbers_on number zero some = absurd (omega arith)
numbers_on number (suc left) some = rw (add-one, sub-one)

pub numbers_length : (number left : ℕ) → length (numbers_from number left) ≡ left
unfolding numbers_from
numbers_length number zero = refl
numbers_length number (suc left) = ap suc (numbers_length (suc number) left)

pub numbers_at : (number left i default : ℕ) → i < left → get_or (numbers_from number left) i default ≡ number + i
unfolding numbers_from
numbers_at number zero i default there = absurd (omega arith)
numbers_at number (suc left) zero default there = sym (add-zero number)
numbers_at number (suc left) (suc i) default there = numbers_at (suc number) left i default (omega arith) ∙ rw (suc-add, add-suc)

module _ {A : Type 0} where
  -- a list with one more in front or not holds what it did, and nothing else but that one
  in_front : (y : A) {x : A} {xs : List A} (more : Bool) → Memᴰ x xs → Memᴰ x (cond more (y ∷ xs) xs)
  in_front y true m = Memᴰ.tail m
  in_front y false m = m

  from_front : {x y : A} {xs : List A} (more : Bool) → Memᴰ x (cond more (y ∷ xs) xs) → ((x ≡ y) × (more ≡ true)) ⊎ Memᴰ x xs
  from_front true m = ⊎_elim (λ same. inl (same, refl)) inr (Memᴰ.cases_cons m)
  from_front false m = inr m

-- what passes a test is what is in the list and passes
pub in_filter : {A : Type 0} (test : A → Bool) {x : A} {xs : List A} → Memᴰ x xs → test x ≡ true → Memᴰ x (filter test xs)
in_filter test (Memᴰ.head same) e = rw (rw same at e) (Memᴰ.head same)
in_filter test (Memᴰ.tail {x = other} m) e = in_front other (test other) (in_filter test m e)

pub from_filter : {A : Type 0} (test : A → Bool) {x : A} {xs : List A} → Memᴰ x (filter test xs) → Memᴰ x xs × (test x ≡ true)
from_filter test {xs = []} m = absurd (Memᴰ.not-nil m)
from_filter test {xs = other ∷ xs} m =
    ⊎_elim (λ here. (Memᴰ.head here.0, rw here.0 here.1))
    (λ there. let later = from_filter test there in (Memᴰ.tail later.0, later.1))
    (from_front (test other) m)

-- every element is whatever is in the list
pub each_in : {A : Type 0} {P : A → Type 0} {x : A} {xs : List A} → Each P xs → Memᴰ x xs → P x
each_in none m = absurd (Memᴰ.not-nil m)
each_in (first and others) m = ⊎_elim (λ same. rw same first) (λ there. each_in others there) (Memᴰ.cases_cons m)

pub each_of : {A : Type 0} {P : A → Type 0} (xs : List A) → ((x : A) → Memᴰ x xs → P x) → Each P xs
each_of [] holds = none
each_of (x ∷ xs) holds = holds x (Memᴰ.head refl) and each_of xs (λ y m. holds y (Memᴰ.tail m))

-- what holds of every two still does of those that pass a test
pub pairs_filter : {A : Type 0} {R : A → A → Type 0} (test : A → Bool) {xs : List A} → Pairs R xs → Pairs R (filter test xs)
pairs_filter test alone = alone
pairs_filter test (◌ahead◌ {x} each pairs) =
    ⊎_elim (λ fails. rw fails (pairs_filter test pairs))
    (λ passes. rw passes (each_of _ (λ y m. each_in each (from_filter test m).0) ahead pairs_filter test pairs))
    (dichotomy (test x))

-- what holds of the values of every two holds of every two values
pub pairs_map : {A B : Type 0} (f : A → B) {R : B → B → Type 0} {xs : List A} → Pairs (λ a b. R (f a) (f b)) xs → Pairs R (map f xs)
pairs_map f alone = alone
pairs_map f {R} (◌ahead◌ {x} {xs} each pairs) =
    let values : Each (R (f x)) (map f xs) =
    each_of (map f xs) (λ y m. let found = Memᴰ.of_map f xs m in rw (← found.2) (each_in each found.1)) in
    values ahead pairs_map f pairs

-- a relation that follows from another, between elements of which something holds
pub pairs_weaken : {A : Type 0} {P : A → Type 0} {R S : A → A → Type 0} {xs : List A} → ((a b : A) → P a → P b → R a b → S a b) →
    Each P xs → Pairs R xs → Pairs S xs
pairs_weaken weaker each alone = alone
pairs_weaken weaker (first and others) (◌ahead◌ {x} {xs} related pairs) =
    each_of xs (λ y m. weaker x y first (each_in others m) (each_in related m)) ahead pairs_weaken weaker others pairs
