-- Laws of times as lists, and of the first time at which a test holds.
use Prim.Native.Nat.{ℕ, zero, suc, ◌+◌, ◌≤◌, ◌<◌}
use mathlib.Core.Path.{◌≡◌, refl}
use mathlib.Core.Logic.{◌≢◌, ◌⊎◌, inl, inr, ⊎_elim}
use mathlib.Core.List.Memᴰ
use mathlib.Core.List.{Memᴰ, map}
use mathlib.Core.Bool.{Bool, true, false}
use mathlib.Mathlib.Data.Bool.Basic.{dichotomy}
use native.Mathlib.Omega.{arith}
use native.Mathlib.Decide.{ℕ_discrete, dec_lt}
use Rattle.std.specs.List.{filter}
use Rattle.arena.specs.Lists.{numbers_from, Pairs, alone, ◌ahead◌}
use Rattle.arena.proofs.ListLaws.{from_filter, each_of, pairs_map}
use Rattle.linear.specs.Times.{first}

-- a test that holds at no time is found nowhere
pub first_none : (test : ℕ → Bool) (time left : ℕ) → ((t : ℕ) → time ≤ t → t < time + left → test t ≡ false) → first test time left ≡ 0
unfolding first
first_none test time zero fails = refl
first_none test time (suc left) fails =
    rw (fails time (omega arith) (omega arith))
    (first_none test (suc time) left (λ t h k. fails t (omega arith) (omega arith)))

-- a time at which it holds is found where it holds at none before
pub first_is : (test : ℕ → Bool) (time left found : ℕ) → time ≤ found → found < time + left → test found ≡ true →
    ((t : ℕ) → time ≤ t → t < found → test t ≡ false) → first test time left ≡ found
unfolding first
first_is test time zero found h k holds fails = absurd (omega arith)
first_is test time (suc left) found h k holds fails =
    elim (ℕ_discrete time found) [
      | yes q ↦ rw (q, holds)
      | no q ↦
          rw (fails time (omega arith) (omega arith))
          (first_is test (suc time) left found (omega arith) (omega arith) holds (λ t l m. fails t (omega arith) m))
    ]

-- where it holds at some time, it holds at the one found, which is not later
pub first_found : (test : ℕ → Bool) (time left : ℕ) {some : ℕ} → time ≤ some → some < time + left → test some ≡ true →
    (test (first test time left) ≡ true) × (time ≤ first test time left) × (first test time left ≤ some)
unfolding first
first_found test time zero h k holds = absurd (omega arith)
first_found test time (suc left) {some} h k holds =
    ⊎_elim
    (λ fails.
    let later : some ≢ time = λ q. let z : ◌≡◌ {A = ℕ} 0 1 = cc in absurd (omega arith) in
    let onward = first_found test (suc time) left (omega arith) (omega arith) holds in
    rw fails (onward.0, omega arith, onward.2))
    (λ holds. rw holds (holds, omega arith, omega arith))
    (dichotomy (test time))

-- where one is found, it holds there, and at none before
pub first_holds : (test : ℕ → Bool) (time left : ℕ) → first test time left ≢ 0 →
    (test (first test time left) ≡ true) × ((t : ℕ) → time ≤ t → t < first test time left → test t ≡ false)
unfolding first
first_holds test time zero some = absurd (some refl)
first_holds test time (suc left) some =
    ⊎_elim
    (λ fails.
    let onward = first_holds test (suc time) left (rw fails at some) in
    rw fails (onward.0, λ t h k. elim (ℕ_discrete t time) [ yes q ↦ rw q fails | no q ↦ onward.1 t (omega arith) k ]))
    (λ holds. rw holds (holds, λ t h k. absurd (omega arith)))
    (dichotomy (test time))

-- where it holds at no time up to one, it is found later or not at all
pub first_past : (test : ℕ → Bool) (time left upto : ℕ) → ((t : ℕ) → time ≤ t → t ≤ upto → test t ≡ false) →
    (first test time left ≡ 0) ⊎ (upto < first test time left)
unfolding first
first_past test time zero upto fails = inl refl
first_past test time (suc left) upto fails =
    elim (dec_lt upto time) [
      | yes later ↦
          ⊎_elim (λ no. rw no (first_past test (suc time) left upto (λ t low high. absurd (omega arith)))) (λ yes. rw yes (inr later))
          (dichotomy (test time))
      | no early ↦
          rw (fails time (omega arith) (omega arith))
          (first_past test (suc time) left upto (λ t low high. fails t (omega arith) high))
    ]

-- the times from one on are those not before it and before its end
pub in_times : (time left t : ℕ) → time ≤ t → t < time + left → Memᴰ t (numbers_from time left)
unfolding numbers_from
in_times time zero t h k = absurd (omega arith)
in_times time (suc left) t h k =
    elim (ℕ_discrete t time) [
      | yes q ↦ Memᴰ.head q
      | no q ↦ Memᴰ.tail (in_times (suc time) left t (omega arith) (omega arith))
    ]

pub from_times : (time left : ℕ) {t : ℕ} → Memᴰ t (numbers_from time left) → (time ≤ t) × (t < time + left)
unfolding numbers_from
from_times time zero m = absurd (Memᴰ.not-nil m)
from_times time (suc left) m =
    ⊎_elim (λ same. omega arith) (λ there. let later = from_times (suc time) left there in omega arith) (Memᴰ.cases_cons m)

-- times rise, so what holds of every earlier and later one of the times that pass a test holds of every two of them
pub pairs_times : (test : ℕ → Bool) (R : ℕ → ℕ → Type 0) (time left : ℕ) →
    ((s t : ℕ) → time ≤ s → s < t → t < time + left → test s ≡ true → test t ≡ true → R s t) →
    Pairs R (filter test (numbers_from time left))
unfolding numbers_from
pairs_times test R time zero holds = alone
pairs_times test R time (suc left) holds =
    let later = pairs_times test R (suc time) left (λ s t h k l. holds s t (omega arith) k (omega arith)) in
    ⊎_elim (λ fails. rw fails later)
    (λ passes.
    rw passes
    (each_of _
    (λ t m.
    let passed = from_filter test m in
    let placed = from_times (suc time) left passed.0 in holds time t (omega arith) (omega arith) (omega arith) passes passed.1)
    ahead later))
    (dichotomy (test time))

-- and of the mapped list
pub pairs_mapped : {B : Type 0} (f : ℕ → B) (test : ℕ → Bool) (R : B → B → Type 0) (time left : ℕ) →
    ((s t : ℕ) → time ≤ s → s < t → t < time + left → test s ≡ true → test t ≡ true → R (f s) (f t)) →
    Pairs R (map f (filter test (numbers_from time left)))
pairs_mapped f test R time left holds = pairs_map f (pairs_times test (λ s t. R (f s) (f t)) time left holds)
