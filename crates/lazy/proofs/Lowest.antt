-- The lowest node that does not pass a test.
use Prim.Native.Nat.{ℕ, zero, suc, ◌+◌, ◌-◌, ◌<◌, ◌≤◌}
use mathlib.Core.Path.{◌≡◌, refl, sym, ◌∙◌}
use mathlib.Core.Logic.{⊎_elim, inl, inr}
use mathlib.Core.Bool.{Bool, true, false}
use mathlib.Mathlib.Data.Bool.Basic.{dichotomy}
use native.Mathlib.Omega.{arith}
use native.Mathlib.Decide.{ℕ_discrete, dec_lt}
use native.Mathlib.Nat.{sub-zero}
use native.Mathlib.Numerals.{add-one}
use Rattle.std.specs.Prelude.{Some, None}
use Rattle.lazy.specs.Free.{lowest_from}

module _ (test : ℕ → Bool) where
  -- the one found does not pass, and each lower one does
  pub found_from : (left from : ℕ) {node : ℕ} → lowest_from test left from ≡ Some node →
      (from ≤ node) × (node < from + left) × (test node ≡ false) × ((lower : ℕ) → from ≤ lower → lower < node → test lower ≡ true)
  unfolding lowest_from
  found_from zero from {node} e = let z : ◌≡◌ {A = ℕ} 0 1 = cc in absurd (omega arith)
  found_from (suc left) from {node} e =
      elim (dichotomy (test from)) [
        | inl fails ↦
            let same : from ≡ node = cc (rw fails at e) in
            (omega arith, omega arith, rw (← same) fails, λ lower h k. absurd (omega arith))
        | inr passes ↦
            let found = found_from left (suc from) (rw passes at e) in (
              omega arith,
              omega arith,
              found.2,
              λ lower h k. elim (ℕ_discrete lower from) [ yes q ↦ rw q passes | no q ↦ found.3 lower (omega arith) k ],
            )
      ]

  -- where none is found, each passes
  pub none_from : (left from : ℕ) → lowest_from test left from ≡ None → (node : ℕ) → from ≤ node → node < from + left → test node ≡ true
  unfolding lowest_from
  none_from zero from e node h k = absurd (omega arith)
  none_from (suc left) from e node h k =
      ⊎_elim (λ fails. let z : ◌≡◌ {A = ℕ} 0 1 = cc (rw fails at e) in absurd (omega arith))
      (λ passes.
      elim (ℕ_discrete node from) [
        | yes q ↦ rw q passes
        | no q ↦ none_from left (suc from) (rw passes at e) node (omega arith) (omega arith)
      ])
      (dichotomy (test from))

  -- past the last node there is none
  pub lowest_end : (count node : ℕ) → count ≤ node → lowest_from test (count - node) node ≡ None
  unfolding lowest_from
  lowest_end count node h = let none : count - node ≡ 0 = omega arith in rw none

  -- before it, it is the first one that does not pass
  pub lowest_here : {count node : ℕ} → node < count → test node ≡ false → lowest_from test (count - node) node ≡ Some node
  unfolding lowest_from
  lowest_here {count} {node} h e = let less : count - node ≡ suc (count - suc node) = omega arith in rw (less, e)

  pub lowest_after : (count node : ℕ) → test node ≡ true → lowest_from test (count - node) node ≡ lowest_from test (count - (node + 1)) (node + 1)
  unfolding lowest_from
  lowest_after count node e =
      elim (dec_lt node count) [
        | yes h ↦ let less : count - node ≡ suc (count - (node + 1)) = omega arith in rw (less, e, add-one)
        | no h ↦ lowest_end count node (omega arith) ∙ sym (lowest_end count (node + 1) (omega arith))
      ]

  -- the first ones that pass may be passed over
  pub lowest_past : (count steps : ℕ) → ((node : ℕ) → 0 ≤ node → node < steps → test node ≡ true) →
      lowest_from test count 0 ≡ lowest_from test (count - steps) steps
  lowest_past count zero pass = rw sub-zero
  lowest_past count (suc steps) pass =
      lowest_past count steps (λ node h k. pass node h (omega arith))
      ∙ rw add-one at (lowest_after count steps (pass steps (omega arith) (omega arith)))

-- tests that agree have the same lowest one
pub lowest_same : (test other : ℕ → Bool) (left node : ℕ) → ((n : ℕ) → n < node + left → test n ≡ other n) →
    lowest_from test left node ≡ lowest_from other left node
unfolding lowest_from
lowest_same test other zero node same = refl
lowest_same test other (suc left) node same =
    rw (same node (omega arith), lowest_same test other left (suc node) (λ n h. same n (omega arith)))
