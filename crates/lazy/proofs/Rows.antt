-- Laws of a row: how many nodes it holds, and what it holds with one more.
use Prim.Native.Nat.{ℕ, zero, suc, ◌+◌, ◌<◌, ◌≤◌}
use mathlib.Core.Path.{◌≡◌, refl, sym, ◌∙◌}
use mathlib.Core.Logic.{◌⊎◌, inl, inr}
use mathlib.Core.List.{List}
use mathlib.Core.Bool.{Bool, true, false, and-eq-true_iff}
use native.Mathlib.Omega.{arith}
use native.Mathlib.Decide.{ℕ_discrete, dec_lt}
use lib.ListN.{length, set, replicate}
use lib.Seq.{get_or-set_same, get_or-set_other}
use Rattle.lazy.specs.Row.{holds, held, AllHeld, four_held}
use Rattle.lazy.proofs.Passing.{passing_few, passing_more}

-- with a node that it did not hold, a row holds one more; so it did not hold them all
abbrev pub OneMore : ℕ → List Bool → ℕ → Type 0
OneMore count row node = (held count (set row node true) ≡ suc (held count row)) × (held count row < count)

pub one_more : (count : ℕ) (row : List Bool) (node : ℕ) → node < count → count ≤ length row → holds row node ≡ false → OneMore count row node
one_more count row node h k e =
    let more = passing_more (holds row) (holds (set row node true)) count node h e (get_or-set_same row node true false (omega arith))
    (λ other q. sym (get_or-set_other row node other true false q)) in
    (more, omega (arith, passing_few (holds (set row node true)) count))

-- with one more, a row holds what it held, and that one
pub more_held : (row : List Bool) (more node : ℕ) → more < length row → (holds row node ≡ true) ⊎ (node ≡ more) →
    holds (set row more true) node ≡ true
more_held row more node h (inl e) =
    elim (ℕ_discrete node more) [
      | yes q ↦ rw (q, get_or-set_same row more true false h)
      | no q ↦ get_or-set_other row more node true false q ∙ e
    ]
more_held row more node h (inr q) = rw (q, get_or-set_same row more true false h)

-- and nothing else
pub held_or_more : (row : List Bool) (more node : ℕ) → holds (set row more true) node ≡ true →
    (holds row node ≡ true) ⊎ (node ≡ more)
held_or_more row more node e =
    elim (ℕ_discrete node more) [ yes q ↦ inr q | no q ↦ inl (sym (get_or-set_other row more node true false q) ∙ e) ]

pub holds_none : (size node : ℕ) → holds (replicate size false) node ≡ false
holds_none zero node = refl
holds_none (suc size) zero = refl
holds_none (suc size) (suc node) = holds_none size node

-- four nodes that it holds, one behind the other
module _ (row : List Bool) where
  one_held : {node to : ℕ} → to ≤ node + 1 → holds row node ≡ true → AllHeld row node to
  one_held {node} end e other h k = let same : other ≡ node = omega arith in rw same e

  pub held_on : {from middle to : ℕ} → AllHeld row from middle → AllHeld row middle to → AllHeld row from to
  held_on {middle} first second node h k = elim (dec_lt node middle) [ yes l ↦ first node h l | no l ↦ second node (omega arith) k ]

  pub four_held_lem : (node : ℕ) {to : ℕ} → to ≤ node + 4 → four_held row node ≡ true → AllHeld row node to
  four_held_lem node end e =
      let last = (and-eq-true_iff _ (holds row (node + 3))).0 e in
      let third = (and-eq-true_iff _ (holds row (node + 2))).0 last.0 in
      let first = (and-eq-true_iff (holds row node) (holds row (node + 1))).0 third.0 in
      held_on (one_held {to = node + 1} (omega arith) first.0)
      (held_on (one_held {to = node + 2} (omega arith) first.1)
      (held_on (one_held {to = node + 3} (omega arith) third.1) (one_held (omega arith) last.1)))
