-- Laws of the walk along the chain.
use Prim.Native.Nat.{ℕ, zero, suc, ◌+◌, ◌-◌, ◌≤◌, ◌<◌}
use mathlib.Core.Path.{◌≡◌, refl, ap, ◌∙◌}
use mathlib.Core.Logic.{◌≢◌}
use mathlib.Core.List as list
use mathlib.Core.List.{List, [], ◌∷◌}
use mathlib.Core.Bool.{Bool, true, false, cond, ◌&&◌}
use mathlib.Core.Option.{Option, none, some, map, get_or, none-ne-some, some-ne-none}
use native.Mathlib.Omega.{arith}
use native.Mathlib.Nat.{suc-add}
use native.Mathlib.Numerals.{sub-one}
use lib.Dec.{ltb, eqb}
use borrow.Author.Tests.{eq-eqb, ne_eqb, lt-ltb, le-ltb, ltb-true}
use Rattle.std.specs.Prelude.{Some, None}
use Rattle.std.specs.List.{fold, filter}
use Rattle.worker.specs.Node.{head, tail}
use Rattle.worker.specs.declared.Node.{Node}
use Rattle.words.specs.Records.{found}
use Rattle.words.proofs.RecordLaws.{found_is, found_none}
use Rattle.arena.specs.declared.chain.Label.{Label}
use Rattle.arena.specs.Sets.{is_none, label_at, is_unmarked, shown, walk, chain, chain_nodes, set_nodes}

module _ (nodes : ℕ → Node) (count : ℕ) where
  module _ {A : Type 0} (visited : A → ℕ → Label → A) where
    -- a visitor that has been shown the unmarked ones of the nodes that a walk passes
    abbrev pub told : A → Option (List ℕ) → Option A
    told visitor none = none
    told visitor (some places) = some (shown nodes visited visitor (filter (is_unmarked nodes) places))

    -- a node in front is shown first, or not at all where it is marked
    told_on : (visitor : A) (node : ℕ) (onward : Option (List ℕ)) (unmarked : Bool) → is_unmarked nodes node ≡ unmarked →
        told visitor (map (λ rest. node ∷ rest) onward)
        ≡ told (cond unmarked (visited visitor node (label_at nodes node)) visitor) onward
    told_on visitor node none unmarked e = refl
    told_on visitor node (some places) true e = rw e
    told_on visitor node (some places) false e = rw e

    -- a walk with steps left, at Tail, at a break, and at a node that it passes
    module _ (visitor : A) (last node : ℕ) where
      pub walk_end : (steps : ℕ) → 0 < steps → node ≡ tail → told visitor (walk nodes count steps last node) ≡ some visitor
      unfolding walk
      walk_end zero left t = absurd (omega arith)
      walk_end (suc steps) left t = rw (eq-eqb _ _ t)

      module _ (off : node ≢ tail) where
        pub walk_out : (steps : ℕ) → found nodes count node ≡ None → told visitor (walk nodes count steps last node) ≡ none
        unfolding walk
        walk_out zero out = refl
        walk_out (suc steps) out = rw (ne_eqb _ _ off, found_none nodes count node out)

        module _ (n : Node) (found : found nodes count node ≡ Some n) where
          pub walk_falls : (steps : ℕ) → n.key ≤ last → told visitor (walk nodes count steps last node) ≡ none
          unfolding walk
          walk_falls zero falls = refl
          walk_falls (suc steps) falls =
              let is = found_is nodes count node n found in
              let stops : ltb last (nodes node).key ≡ false = le-ltb _ _ (rw is.1 at falls) in
              rw (ne_eqb _ _ off, is.0, stops)

          -- where it goes on, one step is less
          pub walk_on : (steps : ℕ) → 0 < steps → last < n.key → (unmarked : Bool) → eqb n.mark 0 ≡ unmarked →
              told visitor (walk nodes count steps last node)
              ≡ told (cond unmarked (visited visitor node (record { key = n.key; length = n.length })) visitor)
              (walk nodes count (steps - 1) n.key n.next)
          unfolding walk
          walk_on zero left rises unmarked e = absurd (omega arith)
          walk_on (suc steps) left rises unmarked e =
              let is = found_is nodes count node n found in
              let passes : ltb last (nodes node).key ≡ true = lt-ltb _ _ (rw is.1 at rises) in
              rw (is.1, ne_eqb _ _ off, is.0, passes, sub-one)
              (told_on visitor node (walk nodes count steps (nodes node).key (nodes node).next) unmarked (rw is.1 at e))

    -- what the walk from Head says, where it breaks off and where it comes to Tail
    module _ (visitor : A) (first : Node) (read : first ≡ nodes head) where
      pub broken : told visitor (walk nodes count 65536 first.key first.next) ≡ none → is_none (chain nodes count) ≡ true
      unfolding chain
      broken e = go (walk nodes count 65536 (nodes head).key (nodes head).next) (rw read at e)
        where
          go : (o : Option (List ℕ)) → told visitor o ≡ none → is_none o ≡ true
          go none e = refl
          go (some ns) e = absurd (some-ne-none _ e)

      pub whole : (after : A) → told visitor (walk nodes count 65536 first.key first.next) ≡ some after →
          (is_none (chain nodes count) ≡ false) × (after ≡ shown nodes visited visitor (set_nodes nodes count))
      unfolding set_nodes chain_nodes chain
      whole after e = go (walk nodes count 65536 (nodes head).key (nodes head).next) (rw read at e)
        where
          go : (o : Option (List ℕ)) → told visitor o ≡ some after →
              (is_none o ≡ false) × (after ≡ shown nodes visited visitor (filter (is_unmarked nodes) (get_or o [])))
          go none e = absurd (none-ne-some after e)
          go (some places) e = (refl, cc)

  -- a visitor that does not look at the numbers of the nodes is shown their labels
  pub shown_labels : {A : Type 0} (visited : A → Label → A) (visitor : A) (places : List ℕ) →
      shown nodes (λ visitor node. visited visitor) visitor places ≡ fold visited visitor (list.map (label_at nodes) places)
  shown_labels visited visitor [] = refl
  shown_labels visited visitor (place ∷ places) = shown_labels visited (visited visitor (label_at nodes place)) places

  -- as keys are words, more steps than 65,536 find the same
  module _ (words : (node : ℕ) → (nodes node).key < 65536) where
    walk_more : (steps last node : ℕ) → last < 65536 → 65536 ≤ last + steps →
        walk nodes count (suc steps) last node ≡ walk nodes count steps last node
    unfolding walk
    walk_more zero last node l h = absurd (omega arith)
    walk_more (suc steps) last node l h =
        go (eqb node tail) (ltb node count) (ltb last (nodes node).key)
        (λ rises. walk_more steps (nodes node).key (nodes node).next (words node) (omega (arith, ltb-true last (nodes node).key rises)))
      where
        onward : ℕ → Option (List ℕ)
        onward n = walk nodes count n (nodes node).key (nodes node).next

        judge : Bool → Bool → Option (List ℕ) → Option (List ℕ)
        judge t u o = cond t (some []) (cond u (map (λ rest. node ∷ rest) o) none)

        go : (t u v : Bool) → (v ≡ true → onward (suc steps) ≡ onward steps) → judge t (u && v) (onward (suc steps)) ≡ judge t (u && v) (onward steps)
        go true u v e = refl
        go false true true e = ap (map (λ rest. node ∷ rest)) (e refl)
        go false true false e = refl
        go false false v e = refl

    pub chain_steps : (more : ℕ) →
        walk nodes count (more + 65536) (nodes head).key (nodes head).next ≡ chain nodes count
    unfolding chain
    chain_steps zero = refl
    chain_steps (suc more) =
        rw suc-add (walk_more (more + 65536) (nodes head).key (nodes head).next (words head) (omega arith) ∙ chain_steps more)
