-- Laws of sets as lists of labels that rise by key.
use Prim.Native.Nat.{ℕ, suc, ◌≤◌, ◌<◌}
use mathlib.Core.Path.{◌≡◌, refl, sym, ap, ap₂, ◌∙◌}
use mathlib.Core.Logic.{◌⊎◌, inl, inr, ⊎_elim, ◌≢◌}
use mathlib.Core.List.{List, [], ◌∷◌, Memᴰ}
use mathlib.Core.Bool.{Bool, true, false, cond, not, ◌||◌, true≢false}
use mathlib.Core.Option.{Option, none, some, none-ne-some}
use mathlib.Mathlib.Data.Bool.Basic.{dichotomy, or-eq-false-eq-eq-false-and-eq-false}
use native.Mathlib.Omega.{arith}
use native.Mathlib.Decide.{ℕ_discrete}
use lib.ListN.{length}
use lib.Dec.{ltb, eqb}
use borrow.Author.Tests.{eqb-true, eqb-false, eq-eqb, ne_eqb, ltb-true, ltb-false}
use Rattle.std.specs.List.{filter}
use Rattle.arena.specs.Lists.{Each, none as nothing, ◌and◌, alone, ◌ahead◌}
use Rattle.arena.specs.declared.chain.Label.{Label}
use Rattle.arena.specs.Sets.{Rising, member, is_none}
use Rattle.arena.proofs.ListLaws.{each_in, each_of, pairs_filter}
use Rattle.linear.specs.Sequential.{including, excluding}

-- the length of the label with a key, if there is one
unfoldable pub find : ℕ → List Label → Option ℕ
find key [] = none
find key (label ∷ labels) = let onward = find key labels in cond (eqb key label.key) (some label.length) onward

abbrev pub labelled : ℕ → ℕ → Label
labelled key length = record { key = key; length = length }

-- membership is that there is one
pub member_find : (key : ℕ) (labels : List Label) → member key labels ≡ not (is_none (find key labels))
unfolding member find
member_find key [] = refl
member_find key (label ∷ labels) = go (eqb key label.key) (member_find key labels)
  where
    go : (t : Bool) → member key labels ≡ not (is_none (find key labels)) →
        (t || member key labels) ≡ not (is_none (cond t (some label.length) (find key labels)))
    go true e = refl
    go false e = e

-- so a key that is absent is not found, and one that is there has a length
pub absent_find : (key : ℕ) (labels : List Label) → member key labels ≡ false → find key labels ≡ none
absent_find key labels absent = go (find key labels) (sym (member_find key labels) ∙ absent)
  where
    go : (found : Option ℕ) → not (is_none found) ≡ false → found ≡ none
    go none e = refl
    go (some length) e = absurd (true≢false e)

pub present_find : (key : ℕ) (labels : List Label) → member key labels ≡ true → (length : ℕ) × (find key labels ≡ some length)
present_find key labels present = go (find key labels) refl (sym (member_find key labels) ∙ present)
  where
    go : (found : Option ℕ) → find key labels ≡ found → not (is_none found) ≡ true → (length : ℕ) × (find key labels ≡ some length)
    go none e some_there = absurd (true≢false (sym some_there))
    go (some length) e some_there = (length, e)

-- what is found is in the list
pub from_find : (key length : ℕ) (labels : List Label) → find key labels ≡ some length → Memᴰ (labelled key length) labels
unfolding find
from_find key length [] e = absurd (none-ne-some length e)
from_find key length (label ∷ labels) e =
    elim (ℕ_discrete key label.key) [
      | yes q ↦ let same : length ≡ label.length = cc (rw (eq-eqb key label.key q) at e) in mathlib.Core.List.Memᴰ.head (λ i. labelled (q i) (same i))
      | no q ↦ mathlib.Core.List.Memᴰ.tail (from_find key length labels (rw (ne_eqb key label.key q) at e))
    ]

-- and in a list that rises there is nothing else with its key
pub in_find : {label : Label} {labels : List Label} → Rising labels → Memᴰ label labels → find label.key labels ≡ some label.length
unfolding find
in_find {label} alone m = elim m [ ]
in_find {label} (above ahead rises) (mathlib.Core.List.Memᴰ.head {x = first} same) =
    rw (eq-eqb label.key first.key (ap (λ (l : Label). l.key) same)) (ap (λ (l : Label). some l.length) (sym same))
in_find {label} (above ahead rises) (mathlib.Core.List.Memᴰ.tail {x = first} m) =
    rw (ne_eqb label.key first.key (λ q. omega (arith, each_in above m))) (in_find rises m)

-- two tests, only one of which can hold, in either order
exchanged : {A : Type 0} (t u : Bool) (a b c : A) → (t ≡ true → u ≡ true → ⊥) → cond t a (cond u b c) ≡ cond u b (cond t a c)
exchanged true true a b c apart = absurd (apart refl refl)
exchanged true false a b c apart = refl
exchanged false u a b c apart = refl

-- a new label put in its place is found there, and the others are as before
pub including_find : (label : Label) (labels : List Label) (key : ℕ) → member label.key labels ≡ false →
    find key (including label labels) ≡ cond (eqb key label.key) (some label.length) (find key labels)
unfolding member find including
including_find label [] key absent = refl
including_find label (first ∷ labels) key absent =
    let apart = (or-eq-false-eq-eq-false-and-eq-false (eqb label.key first.key) (member label.key labels)).0 absent in
    ⊎_elim
    (λ later.
    rw later
    (ap (cond (eqb key first.key) (some first.length)) (including_find label labels key apart.1)
    ∙ exchanged (eqb key first.key) (eqb key label.key) (some first.length) (some label.length) (find key labels)
    (λ a b. eqb-false label.key first.key apart.0 (sym (eqb-true key label.key b) ∙ eqb-true key first.key a))))
    (λ before. rw before)
    (dichotomy (ltb label.key first.key))

-- one that is taken out is not found, and every other is as before
pub excluding_find : (gone : ℕ) (labels : List Label) (key : ℕ) →
    find key (excluding gone labels) ≡ cond (eqb key gone) none (find key labels)
unfolding find excluding
excluding_find gone [] key = go (eqb key gone)
  where
    go : (t : Bool) → ◌≡◌ {A = Option ℕ} none (cond t none none)
    go true = refl
    go false = refl
excluding_find gone (first ∷ labels) key =
    elim (ℕ_discrete gone first.key) [
      | yes q ↦ rw (eq-eqb gone first.key q, ← q) (excluding_find gone labels key ∙ go (eqb key gone))
      | no q ↦
          rw (ne_eqb gone first.key q)
          (ap (cond (eqb key first.key) (some first.length)) (excluding_find gone labels key)
          ∙ exchanged (eqb key first.key) (eqb key gone) (some first.length) none (find key labels)
          (λ a b. q (sym (eqb-true key gone b) ∙ eqb-true key first.key a)))
    ]
  where
    go : (t : Bool) → cond t none (find key labels) ≡ cond t none (cond t (some first.length) (find key labels))
    go true = refl
    go false = refl

-- what is in a list with one more
in_including : (label : Label) (labels : List Label) {other : Label} → Memᴰ other (including label labels) →
    (other ≡ label) ⊎ Memᴰ other labels
unfolding including
in_including label [] m = mathlib.Core.List.Memᴰ.cases_cons m
in_including label (first ∷ labels) m =
    ⊎_elim
    (λ later.
    ⊎_elim (λ same. inr (mathlib.Core.List.Memᴰ.head same))
    (λ there. ⊎_elim inl (λ old. inr (mathlib.Core.List.Memᴰ.tail old)) (in_including label labels there))
    (mathlib.Core.List.Memᴰ.cases_cons (rw later at m)))
    (λ before. mathlib.Core.List.Memᴰ.cases_cons (rw before at m))
    (dichotomy (ltb label.key first.key))

-- keys still rise with a new one put in its place
pub including_rises : (label : Label) (labels : List Label) → Rising labels → member label.key labels ≡ false → Rising (including label labels)
unfolding member including
including_rises label [] rises absent = nothing ahead alone
including_rises label (first ∷ labels) (above ahead rises) absent =
    let apart = (or-eq-false-eq-eq-false-and-eq-false (eqb label.key first.key) (member label.key labels)).0 absent in
    ⊎_elim
    (λ later.
    let below : first.key < label.key
    = omega (arith, ltb-false label.key first.key later, eqb-false label.key first.key apart.0) in
    rw later
    (each_of (including label labels)
    (λ other m. ⊎_elim (λ same. rw same below) (λ there. each_in above there) (in_including label labels m))
    ahead including_rises label labels rises apart.1))
    (λ before.
    let below = ltb-true label.key first.key before in
    rw before ((below and each_of labels (λ other m. omega (arith, each_in above m))) ahead above ahead rises))
    (dichotomy (ltb label.key first.key))

-- a key taken out leaves those that pass a test, so they still rise
excluding_filter : (key : ℕ) (labels : List Label) → excluding key labels ≡ filter (λ other. not (eqb key other.key)) labels
unfolding excluding
excluding_filter key [] = refl
excluding_filter key (first ∷ labels) =
    ⊎_elim (λ apart. rw apart (ap (λ later. first ∷ later) (excluding_filter key labels)))
    (λ same. rw same (excluding_filter key labels)) (dichotomy (eqb key first.key))

pub excluding_rises : (key : ℕ) (labels : List Label) → Rising labels → Rising (excluding key labels)
excluding_rises key labels rises = rw excluding_filter (pairs_filter (λ other. not (eqb key other.key)) rises)

-- a key below all others is the least
least : {first label : Label} {labels : List Label} → Each (λ other. first.key < other.key) labels → Memᴰ label (first ∷ labels) →
    first.key ≤ label.key
least above m =
    ⊎_elim (λ same. omega (arith, ap (λ (l : Label). l.key) same)) (λ there. omega (arith, each_in above there)) (mathlib.Core.List.Memᴰ.cases_cons m)

-- where all that is found in one list that rises is found in another, all that is in it is there
shared : {xs ys : List Label} → Rising xs → ((key : ℕ) → find key xs ≡ find key ys) → {label : Label} → Memᴰ label xs → Memᴰ label ys
shared {xs} {ys} rises same {label} m = from_find label.key label.length ys (sym (same label.key) ∙ in_find rises m)

-- nothing is found of a key below all others
below_all : (key : ℕ) {labels : List Label} → Each (λ other. key < other.key) labels → find key labels ≡ none
below_all key {labels} above = go (find key labels) refl
  where
    go : (found : Option ℕ) → find key labels ≡ found → found ≡ none
    go none e = refl
    go (some length) e = absurd (omega (arith, each_in above (from_find key length labels e)))

-- rising lists in which the same is found are the same
pub rising_same : (xs ys : List Label) → Rising xs → Rising ys → ((key : ℕ) → find key xs ≡ find key ys) → xs ≡ ys
unfolding find
rising_same [] [] r s same = refl
rising_same [] (y ∷ ys) r s same = absurd (mathlib.Core.List.Memᴰ.not-nil (shared s (λ key. sym (same key)) (mathlib.Core.List.Memᴰ.head {xs = ys} refl)))
rising_same (x ∷ xs) [] r s same = absurd (mathlib.Core.List.Memᴰ.not-nil (shared r same (mathlib.Core.List.Memᴰ.head {xs = xs} refl)))
rising_same (x ∷ xs) (y ∷ ys) (above ahead r) (beyond ahead s) same =
    let there : Memᴰ x (y ∷ ys) = shared (above ahead r) same (mathlib.Core.List.Memᴰ.head {xs = xs} refl) in
    let back : Memᴰ y (x ∷ xs) = shared (beyond ahead s) (λ key. sym (same key)) (mathlib.Core.List.Memᴰ.head {xs = ys} refl) in
    let keys : x.key ≡ y.key = omega (arith, least above back, least beyond there) in
    let first : x ≡ y = ⊎_elim (λ e. e) (λ m. absurd (omega (arith, each_in beyond m))) (mathlib.Core.List.Memᴰ.cases_cons there) in
    ap₂ ◌∷◌ first (rising_same xs ys r s (λ key. others key keys first))
  where
    others : (key : ℕ) → x.key ≡ y.key → x ≡ y → find key xs ≡ find key ys
    others key keys first =
        elim (ℕ_discrete key x.key) [
          | yes q ↦ rw q (below_all x.key above ∙ sym (rw keys (below_all y.key beyond)))
          | no q ↦ rw (ne_eqb key x.key q, ne_eqb key y.key (λ e. q (e ∙ sym keys))) at (same key)
        ]

-- with a label put in its place there is one more, and with a key of the list taken out one less
pub including_length : (label : Label) (labels : List Label) → length (including label labels) ≡ suc (length labels)
unfolding including
including_length label [] = refl
including_length label (first ∷ labels) =
    ⊎_elim (λ later. rw later (ap suc (including_length label labels))) (λ before. rw before) (dichotomy (ltb label.key first.key))

excluding_above : (key : ℕ) (labels : List Label) → Each (λ other. key < other.key) labels → excluding key labels ≡ labels
unfolding excluding
excluding_above key [] above = refl
excluding_above key (first ∷ labels) (over and above) =
    rw (ne_eqb key first.key (omega arith)) (ap (λ later. first ∷ later) (excluding_above key labels above))

pub excluding_length : (key : ℕ) (labels : List Label) → Rising labels → member key labels ≡ true → suc (length (excluding key labels)) ≡ length labels
unfolding member excluding
excluding_length key [] rises there = absurd (true≢false (sym there))
excluding_length key (first ∷ labels) (above ahead rises) there =
    ⊎_elim (λ other. rw other (ap suc (excluding_length key labels rises (rw other at there))))
    (λ same.
    let own = eqb-true key first.key same in
    rw same (ap (λ (rest : List Label). suc (length rest)) (excluding_above key labels (rw own above))))
    (dichotomy (eqb key first.key))

-- a list that has a member is not empty
pub member_some : (key : ℕ) (labels : List Label) → member key labels ≡ true → length labels ≢ 0
unfolding member
member_some key [] there empty = true≢false (sym there)
member_some key (label ∷ labels) there empty = omega arith
