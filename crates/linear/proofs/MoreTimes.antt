-- Laws of tests over times, with one time more.
use Prim.Native.Nat.{ℕ, zero, suc, ◌+◌, ◌≤◌, ◌<◌}
use mathlib.Core.Path.{◌≡◌, refl, ap, ◌∙◌}
use mathlib.Core.Logic.{◌≢◌, ⊎_elim}
use mathlib.Core.List.{List, [], ◌∷◌, ◌++◌, Memᴰ, map, append-nil}
use mathlib.Core.Bool.{Bool, true, false, cond}
use mathlib.Mathlib.Data.Bool.Basic.{dichotomy}
use native.Mathlib.Omega.{arith}
use native.Mathlib.Decide.{ℕ_discrete}
use native.Mathlib.Nat.{add-zero}
use lib.ListN.{length, get_or, set, length-append, get_or-append}
use lib.Seq.{get_or-append_seam}
use lib.Dec.{eqb}
use borrow.Author.Tests.{ne_eqb}
use Rattle.std.specs.List.{filter}
use Rattle.std.proofs.lemmas.List.Elements.{filter-append}
use Rattle.arena.specs.Lists.{numbers_from, Pairs, ◌ahead◌}
use Rattle.arena.proofs.ListLaws.{each_in}
use Rattle.linear.specs.Times.{first, latest}

-- the first time at which a test holds, with one time more
module _ (test : ℕ → Bool) where
  first_step : (from left : ℕ) → first test from (suc left) ≡ cond (test from) from (first test (suc from) left)
  unfolding first
  first_step from left = refl

  first_none_left : (from : ℕ) → first test from 0 ≡ 0
  unfolding first
  first_none_left from = refl

  first_more : (from left : ℕ) → from ≢ 0 →
      first test from (suc left) ≡ cond (eqb (first test from left) 0) (cond (test (from + left)) (from + left) 0) (first test from left)
  first_more from zero some = rw (first_step from 0, first_none_left from, add-zero, first_none_left (suc from))
  first_more from (suc left) some =
      let same : from + suc left ≡ suc from + left = omega arith in
      rw (first_step from (suc left), first_step from left, same) (go _ _ _ (test from) (first_more (suc from) left (omega arith)))
    where
      go : (now next found : ℕ) (holds : Bool) → next ≡ cond (eqb found 0) now found →
          cond holds from next ≡ cond (eqb (cond holds from found) 0) now (cond holds from found)
      go now next found true e = rw (ne_eqb from 0 some)
      go now next found false e = e

  -- it stays where it was found, or where the test does not hold then
  pub first_kept : (from left : ℕ) → from ≢ 0 → first test from left ≢ 0 → first test from (suc left) ≡ first test from left
  first_kept from left some found = first_more from left some ∙ rw (ne_eqb (first test from left) 0 found)

  pub first_same : (from left : ℕ) → from ≢ 0 → test (from + left) ≡ false → first test from (suc left) ≡ first test from left
  first_same from left some fails = first_more from left some ∙ rw fails (go (first test from left))
    where
      go : (found : ℕ) → cond (eqb found 0) 0 found ≡ found
      go zero = refl
      go (suc found) = rw (ne_eqb (suc found) 0 (omega arith))

  -- or it is that time
  pub first_now : (from left : ℕ) → from ≢ 0 → first test from left ≡ 0 → test (from + left) ≡ true →
      first test from (suc left) ≡ from + left
  first_now from left some none holds = first_more from left some ∙ rw (none, holds)

times_more : (from left : ℕ) → numbers_from from (suc left) ≡ numbers_from from left ++ ((from + left) ∷ [])
unfolding numbers_from
times_more from zero = rw add-zero
times_more from (suc left) =
    let later : from + suc left ≡ suc from + left = omega arith in
    rw later (ap (λ (l : List ℕ). from ∷ l) (times_more (suc from) left))

-- the times that pass a test, with one time more
abbrev pub passing : (ℕ → Bool) → ℕ → List ℕ
passing test now = filter test (numbers_from 1 now)

pub passing_more : (test : ℕ → Bool) (now : ℕ) → test (suc now) ≡ true → passing test (suc now) ≡ passing test now ++ (suc now ∷ [])
passing_more test now holds =
    ap (filter test) (times_more 1 now) ∙ filter-append test (numbers_from 1 now) ((1 + now) ∷ []) ∙ rw (one_more now, holds)
  where
    one_more : (now : ℕ) → 1 + now ≡ suc now
    one_more now = omega arith

pub passing_same : (test : ℕ → Bool) (now : ℕ) → test (suc now) ≡ false → passing test (suc now) ≡ passing test now
passing_same test now fails =
    ap (filter test) (times_more 1 now) ∙ filter-append test (numbers_from 1 now) ((1 + now) ∷ [])
    ∙ rw (one_more now, fails) (append-nil (passing test now))
  where
    one_more : (now : ℕ) → 1 + now ≡ suc now
    one_more now = omega arith

pub passing_count : (test : ℕ → Bool) (now : ℕ) →
    length (passing test (suc now)) ≡ cond (test (suc now)) (suc (length (passing test now))) (length (passing test now))
passing_count test now =
    ⊎_elim (λ fails. ap length (passing_same test now fails) ∙ rw fails)
    (λ holds. ap length (passing_more test now holds) ∙ rw (holds, length-append) (omega arith)) (dichotomy (test (suc now)))

-- a time that passes stands behind as many as pass before it
pub passing_place : (test : ℕ → Bool) (default time now : ℕ) → test (suc time) ≡ true → suc time ≤ now →
    (length (passing test time) < length (passing test now)) × (get_or (passing test now) (length (passing test time)) default ≡ suc time)
passing_place test default time zero holds past = absurd (omega arith)
passing_place test default time (suc now) holds past =
    elim (ℕ_discrete time now) [
      | yes e ↦ rw (← e, passing_more test time holds) (rw length-append (omega arith), get_or-append_seam (passing test time) (suc time) [] default)
      | no d ↦
          let before = passing_place test default time now holds (omega arith) in
          ⊎_elim (λ fails. rw (passing_same test now fails) before)
          (λ more. rw (passing_more test now more) (
            rw length-append (omega (arith, before.0)),
            get_or-append (passing test now) (suc now ∷ []) default (length (passing test time)) before.0 ∙ before.1,
          ))
          (dichotomy (test (suc now)))
    ]

-- the last time at which a test holds
pub latest_is : (test : ℕ → Bool) (time now : ℕ) → test (suc time) ≡ true → suc time ≤ now →
    ((t : ℕ) → suc time < t → t ≤ now → test t ≡ false) → latest test now ≡ suc time
unfolding latest
latest_is test time zero holds past later = absurd (omega arith)
latest_is test time (suc now) holds past later =
    elim (ℕ_discrete time now) [
      | yes e ↦ rw (← e, holds)
      | no d ↦
          rw (later (suc now) (omega arith) (omega arith))
          (latest_is test time now holds (omega arith) (λ t low high. later t low (omega arith)))
    ]

-- what stands at a place is in the list
at_member : (xs : List ℕ) (i : ℕ) → i < length xs → Memᴰ (get_or xs i 0) xs
at_member [] i there = absurd (omega arith)
at_member (x ∷ xs) zero there = Memᴰ.head refl
at_member (x ∷ xs) (suc i) there = Memᴰ.tail (at_member xs i (omega arith))

-- values at all elements but one, and at that one
module _ {B : Type 0} (f g : ℕ → B) where
  pub map_same : (xs : List ℕ) → ((x : ℕ) → Memᴰ x xs → f x ≡ g x) → map f xs ≡ map g xs
  map_same [] same = refl
  map_same (x ∷ xs) same = rw (same x (Memᴰ.head refl), map_same xs (λ y m. same y (Memᴰ.tail m)))

  pub map_set : (xs : List ℕ) (i : ℕ) (x : ℕ) → Pairs (λ a b. a < b) xs → i < length xs → get_or xs i 0 ≡ x →
      ((y : ℕ) → Memᴰ y xs → y ≢ x → f y ≡ g y) → map f xs ≡ set (map g xs) i (f x)
  map_set [] i x rises there is same = absurd (omega arith)
  map_set (y ∷ ys) zero x (above ahead rises) there is same =
      rw is (ap (λ (l : List B). f x ∷ l) (map_same ys (λ z m. same z (Memᴰ.tail m) (λ e. omega (arith, each_in above m)))))
  map_set (y ∷ ys) (suc i) x (above ahead rises) there is same =
      let below = each_in above (at_member ys i (omega arith)) in
      rw (
        same y (Memᴰ.head refl) (λ e. omega (arith, below)),
        map_set ys i x rises (omega arith) is (λ z m. same z (Memᴰ.tail m)),
      )
