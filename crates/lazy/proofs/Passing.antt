-- The first nodes that pass a test: which they are, and how many.
use Prim.Native.Nat.{ℕ, zero, suc, ◌<◌, ◌≤◌}
use mathlib.Core.Path.{◌≡◌, refl, ◌∙◌}
use mathlib.Core.Logic.{⊎_elim}
use mathlib.Core.List.Memᴰ
use mathlib.Core.List.{Memᴰ}
use mathlib.Core.Bool.{Bool, true, false}
use mathlib.Mathlib.Data.Bool.Basic.{dichotomy}
use native.Mathlib.Omega.{arith}
use native.Mathlib.Decide.{ℕ_discrete}
use lib.ListN.{length}
use Rattle.std.proofs.lemmas.List.Sums.{length-filter, count_by-le-length}
use Rattle.arena.specs.Lists.{Pairs, alone, ◌ahead◌}
use Rattle.arena.proofs.ListLaws.{each_of}
use Rattle.lazy.specs.Free.{nodes_below, passing}

pub in_below : (count : ℕ) {node : ℕ} → node < count → Memᴰ node (nodes_below count)
unfolding nodes_below
in_below zero h = absurd (omega arith)
in_below (suc count) {node} h =
    elim (ℕ_discrete node count) [ yes q ↦ Memᴰ.head q | no q ↦ Memᴰ.tail (in_below count (omega arith)) ]

pub from_below : (count : ℕ) {node : ℕ} → Memᴰ node (nodes_below count) → node < count
unfolding nodes_below
from_below zero m = absurd (Memᴰ.not-nil m)
from_below (suc count) m = ⊎_elim (λ q. omega arith) (λ later. let h = from_below count later in omega arith) (Memᴰ.cases_cons m)

-- each once
pub below_falls : (count : ℕ) → Pairs (λ a b. b < a) (nodes_below count)
unfolding nodes_below
below_falls zero = alone
below_falls (suc count) = each_of (nodes_below count) (λ node m. from_below count m) ahead below_falls count

below_long : (count : ℕ) → length (nodes_below count) ≡ count
unfolding nodes_below
below_long zero = refl
below_long (suc count) = rw (below_long count)

pub passing_few : (test : ℕ → Bool) (count : ℕ) → length (passing test count) ≤ count
passing_few test count = omega (arith, length-filter test (nodes_below count), count_by-le-length test (nodes_below count), below_long count)

module _ (test other : ℕ → Bool) where
  -- tests that agree pass the same
  pub passing_same : (count : ℕ) → ((node : ℕ) → node < count → test node ≡ other node) → passing test count ≡ passing other count
  unfolding nodes_below
  passing_same zero same = refl
  passing_same (suc count) same = rw (same count (omega arith), passing_same count (λ node h. same node (omega arith)))

  -- where one more node passes, one more is counted
  pub passing_more : (count more : ℕ) → more < count → test more ≡ false → other more ≡ true →
      ((node : ℕ) → (node ≡ more → ⊥) → test node ≡ other node) → length (passing other count) ≡ suc (length (passing test count))
  unfolding nodes_below
  passing_more zero more h out now same = absurd (omega arith)
  passing_more (suc count) more h out now same =
      elim (ℕ_discrete count more) [
        | yes q ↦ rw (q, out, now, passing_same more (λ node k. same node (λ e. omega arith)))
        | no q ↦
            let others = passing_more count more (omega arith) out now same in
            let here = same count q in
            ⊎_elim
            (λ fails. let both : test count ≡ false = here ∙ fails in rw (both, fails) others)
            (λ passes. let both : test count ≡ true = here ∙ passes in rw (both, passes, others))
            (dichotomy (other count))
      ]
