-- A run need not come to a node twice: cut out what lies between, and at most as many links are left as there are nodes.
use Prim.Native.Nat.{ℕ, zero, suc, ◌+◌, ◌<◌, ◌≤◌}
use mathlib.Core.Path.{◌≡◌, subst, ◌∙◌}
use mathlib.Core.Logic.{◌⊎◌, inl, inr, ⊎_elim}
use mathlib.Core.List.{List}
use mathlib.Core.Bool.{Bool, true, false}
use mathlib.Mathlib.Data.Bool.Basic.{or_inl, or_inr, and_intro}
use native.Mathlib.Omega.{arith}
use native.Mathlib.Decide.{ℕ_discrete}
use lib.ListN.{length, set, length-set, replicate}
use lib.Seq.{get_or-set_same, get_or-set_other}
use lib.Dec.{eqb}
use borrow.Author.Tests.{eq-eqb, lt-ltb}
use Rattle.lazy.specs.Free.{Run, here, on, leads}
use Rattle.lazy.specs.Row.{holds, held}
use Rattle.lazy.proofs.Rows.{one_more, holds_none}

module _ (next : ℕ → ℕ) (count : ℕ) where
  -- a run through nodes that a row does not hold
  pub data Avoids (row : List Bool) : ℕ → ℕ → Type 0 where
    last : {node : ℕ} → node < count → holds row node ≡ false → Avoids row node node
    link : {from node : ℕ} → from < count → holds row from ≡ false → Avoids row (next from) node → Avoids row from node

  pub avoids_none : {from node : ℕ} (size : ℕ) → Run next count from node → Avoids (replicate size false) from node
  avoids_none {node} size (here h) = last h (holds_none size node)
  avoids_none {from} size (on k run) = link k (holds_none size from) (avoids_none size run)

  begins : {row : List Bool} {from node : ℕ} → Avoids row from node → (from < count) × (holds row from ≡ false)
  begins (last h e) = (h, e)
  begins (link h e run) = (h, e)

  -- either a run never comes to a node, or the part of it after the last time never does
  cut : (row : List Bool) (at : ℕ) {from node : ℕ} → (node ≡ at → ⊥) → Avoids row from node →
      Avoids (set row at true) from node ⊎ Avoids (set row at true) (next at) node
  cut row at {node} ends (last h e) = inl (last h (get_or-set_other row at node true false ends ∙ e))
  cut row at {from} {node} ends (link h e run) =
      ⊎_elim
      (λ rest.
      elim (ℕ_discrete from at) [
        | yes q ↦ inr (subst (λ (start : ℕ). Avoids (set row at true) (next start) node) q rest)
        | no q ↦ inl (link h (get_or-set_other row at from true false q ∙ e) rest)
      ])
      inr
      (cut row at ends run)

  -- a run can go on from its first node and never come back to it
  onward : (row : List Bool) {from node : ℕ} → from < length row → (node ≡ from → ⊥) → Avoids row from node →
      Avoids (set row from true) (next from) node
  onward row {from} {node} h ends run =
      ⊎_elim
      (λ again. let z : ◌≡◌ {A = ℕ} 0 1 = cc ((begins again).1, get_or-set_same row from true false h) in absurd (omega arith))
      (λ rest. rest)
      (cut row from ends run)

  -- so each link takes a node that the row does not hold
  pub avoids_leads : (links : ℕ) (row : List Bool) {from node : ℕ} → count ≤ length row → count ≤ links + held count row →
      Avoids row from node → leads next count links from node ≡ true
  unfolding leads
  avoids_leads zero row {from} h k run =
      let first = begins run in
      absurd (omega (arith, (one_more count row from first.0 h first.1).1))
  avoids_leads (suc links) row {from} {node} h k run =
      let first = begins run in
      let more = (one_more count row from first.0 h first.1).0 in
      elim (ℕ_discrete node from) [
        | yes q ↦ or_inl (eqb from node) _ (eq-eqb from node (cc))
        | no q ↦ or_inr (eqb from node) _
            (and_intro (lt-ltb from count first.0)
            (avoids_leads links (set row from true) (rw length-set h) (omega arith) (onward row (omega arith) q run)))
      ]
