-- A walk along a chain whose keys rise, up to where a key must stand.
use Prim.Native.Nat.{ℕ, ◌≤◌, ◌<◌}
use mathlib.Core.Path.{◌≡◌, refl, sym, ap, ◌∙◌}
use mathlib.Core.Logic.{◌≢◌}
use mathlib.Core.List.Memᴰ
use mathlib.Core.List.{List, [], ◌∷◌, Memᴰ, map}
use mathlib.Core.Bool.{Bool, true, false, cond, ◌&&◌, ◌||◌}
use mathlib.Mathlib.Data.Bool.Basic.{eq-false-eq-not-eq-true}
use native.Mathlib.Omega.{arith}
use native.Mathlib.Decide.{ℕ_discrete}
use lib.Dec.{eqb}
use borrow.Author.Tests.{eq-eqb, ne_eqb}
use Rattle.std.specs.List.{filter}
use Rattle.worker.specs.Node.{head, tail}
use Rattle.words.specs.Layout.{nodes_of}
use Rattle.arena.specs.declared.chain.Label.{Label}
use Rattle.arena.specs.Sets.{member, is_unmarked, set_nodes, chain_labels, node_in, label_in, ChainWhole, set_of}
use Rattle.arena.proofs.ListLaws.{from_filter}
use Rattle.arena.proofs.SetLaws.{key_of, next_of, chain_of, Walked, ended, passed, walked_above, whole_walked}
use Rattle.linear.proofs.LabelLaws.{present_find, from_find}

or_false : (a : Bool) → (a || false) ≡ a
or_false true = refl
or_false false = refl

eqb_sym : (a b : ℕ) → eqb a b ≡ eqb b a
eqb_sym a b =
    elim (ℕ_discrete a b) [
      | yes e ↦ rw (eq-eqb a b e, eq-eqb b a (sym e))
      | no d ↦ rw (ne_eqb a b d, ne_eqb b a (λ e. d (sym e)))
    ]

module _ (arena : List ℕ) (key : ℕ) where
  abbrev unmarked : ℕ → Bool
  unmarked = is_unmarked (node_in arena)

  -- the key is the key of an unmarked one of some nodes
  abbrev among : List ℕ → Bool
  among nodes = member key (map (label_in arena) (filter unmarked nodes))

  -- not where all keys are above it
  not_among : (nodes : List ℕ) → ((node : ℕ) → Memᴰ node nodes → key < key_of arena node) → among nodes ≡ false
  not_among nodes above =
      (eq-false-eq-not-eq-true (among nodes)).0
      (λ there.
      let it = present_find key (map (label_in arena) (filter unmarked nodes)) there in
      let found = Memᴰ.of_map (label_in arena) (filter unmarked nodes) (from_find key it.0 _ it.1) in
      omega (arith, ap (λ (label : Label). label.key) found.2, above found.0 (from_filter unmarked found.1).0))

  -- the first of some nodes has the key or not, and then the others
  among_first : (node : ℕ) (nodes : List ℕ) →
      among (node ∷ nodes) ≡ ((eqb key (key_of arena node) && unmarked node) || among nodes)
  unfolding member
  among_first node nodes = go (unmarked node)
    where
      go : (passes : Bool) →
          member key (map (label_in arena) (cond passes (node ∷ filter unmarked nodes) (filter unmarked nodes)))
          ≡ ((eqb key (key_of arena node) && passes) || among nodes)
      go true = and_true (eqb key (key_of arena node))
        where
          and_true : (same : Bool) → (same || among nodes) ≡ ((same && true) || among nodes)
          and_true true = refl
          and_true false = refl
      go false = and_false (eqb key (key_of arena node))
        where
          and_false : (same : Bool) → among nodes ≡ ((same && false) || among nodes)
          and_false true = refl
          and_false false = refl

  -- the walk has passed nodes with lower keys, the last of them with this key and this next: the nodes that are left decide
  pub record Ahead (last next : ℕ) : Type 0 where
    nodes : List ℕ
    walked : Walked (nodes_of arena) (key_of arena) (next_of arena) last next nodes
    left : member key (set_of arena) ≡ among nodes

  pub begins : ChainWhole arena → Ahead (key_of arena head) (next_of arena head)
  unfolding set_of chain_labels set_nodes
  begins whole = record { nodes = chain_of arena; walked = whole_walked arena whole; left = refl }

  none_left : {last next : ℕ} {nodes : List ℕ} → Walked (nodes_of arena) (key_of arena) (next_of arena) last next nodes → next ≡ tail → nodes ≡ []
  none_left (ended e) there = refl
  none_left (passed off low above onward) there = absurd (off there)

  pub at_tail : {last next : ℕ} → Ahead last next → next ≡ tail → false ≡ member key (set_of arena)
  unfolding member
  at_tail ahead there = sym (ahead.left ∙ ap among (none_left ahead.walked there))

  -- before Tail there is a node, with a key above the last
  record First (last next : ℕ) (nodes : List ℕ) : Type 0 where
    above : last < key_of arena next
    others : List ℕ
    is : nodes ≡ next ∷ others
    onward : Walked (nodes_of arena) (key_of arena) (next_of arena) (key_of arena next) (next_of arena next) others

  first : {last next : ℕ} {nodes : List ℕ} → Walked (nodes_of arena) (key_of arena) (next_of arena) last next nodes → next ≢ tail → First last next nodes
  first (ended e) off = absurd (off e)
  first (passed {nodes} off low above onward) _ = record { above = above; others = nodes; is = refl; onward = onward }

  pub rises : {last next : ℕ} → Ahead last next → next ≢ tail → last < key_of arena next
  rises ahead off = (first ahead.walked off).above

  -- the key is that node's or one of those after it
  left_of : {last next : ℕ} (ahead : Ahead last next) (off : next ≢ tail) →
      member key (set_of arena) ≡ ((eqb key (key_of arena next) && unmarked next) || among (first ahead.walked off).others)
  left_of {next = next} ahead off =
      ahead.left ∙ ap among (first ahead.walked off).is ∙ among_first next (first ahead.walked off).others

  -- a lower key is passed
  pub onward : {last next : ℕ} → Ahead last next → next ≢ tail → key_of arena next < key →
      Ahead (key_of arena next) (next_of arena next)
  onward {next = next} ahead off below =
      record {
        nodes = (first ahead.walked off).others;
        walked = (first ahead.walked off).onward;
        left = left_of ahead off ∙ rw (ne_eqb key (key_of arena next) (omega arith));
      }

  -- and another one decides
  pub found : {last next : ℕ} → Ahead last next → next ≢ tail → key ≤ key_of arena next →
      (eqb (key_of arena next) key && eqb (node_in arena next).mark 0) ≡ member key (set_of arena)
  found {next = next} ahead off above =
      let rest = first ahead.walked off in
      sym
      (left_of ahead off
      ∙ rw (not_among rest.others (λ node m. omega (arith, walked_above rest.onward m)), or_false)
      (ap (λ same. same && unmarked next) (eqb_sym key (key_of arena next))))
