-- Laws of the set of an arena.
use Prim.Native.Nat.{ℕ, zero, suc, ◌+◌, ◌≤◌, ◌<◌}
use mathlib.Core.Path.{◌≡◌, refl, sym, ◌∙◌}
use mathlib.Core.Logic.{◌≢◌, ◌↔◌, ⊎_elim}
use mathlib.Core.List.Memᴰ
use mathlib.Core.List.{List, [], ◌∷◌, Memᴰ}
use mathlib.Core.Bool.{true, false, ◌&&◌, true≢false, or-true}
use mathlib.Core.Option.{Option, none, some, map, get_or, none-ne-some}
use mathlib.Mathlib.Data.Bool.Basic.{dichotomy, and_elim_left, and_elim_right}
use native.Mathlib.Omega.{arith}
use native.Mathlib.Decide.{ℕ_discrete}
use lib.Dec.{ltb, eqb}
use borrow.Author.Tests.{eqb-true, eq-eqb, ne_eqb, ltb-true, lt-ltb}
use Rattle.worker.specs.Node.{head, tail}
use Rattle.worker.specs.declared.Node.{Node}
use Rattle.words.specs.Layout.{nodes_of}
use Rattle.arena.specs.Lists.{Pairs, alone, ◌ahead◌}
use Rattle.arena.specs.declared.chain.Label.{Label}
use Rattle.arena.specs.Sets.{Rising, member, keys_in, is_none, label_at, is_unmarked, walk, chain, chain_nodes, set_nodes, chain_labels, node_in, label_in, ChainWhole, set_of, OnChain, top, link, InSet}
use Rattle.arena.proofs.ListLaws.{in_filter, from_filter, each_of, pairs_filter, pairs_map}

-- a key is a member where it is one of the keys
pub member_key : (key : ℕ) (labels : List Label) → (member key labels ≡ true) ↔ Memᴰ key (keys_in labels)
unfolding member
member_key key labels = (forth labels, back labels)
  where
    forth : (labels : List Label) → member key labels ≡ true → Memᴰ key (keys_in labels)
    forth [] e = absurd (true≢false (sym e))
    forth (label ∷ labels) e =
        ⊎_elim (λ other. Memᴰ.tail (forth labels (rw other at e))) (λ same. Memᴰ.head (eqb-true _ _ same))
        (dichotomy (eqb key label.key))

    back : (labels : List Label) → Memᴰ key (keys_in labels) → member key labels ≡ true
    back [] m = absurd (Memᴰ.not-nil m)
    back (label ∷ labels) m =
        ⊎_elim (λ same. rw (eq-eqb key label.key same)) (λ there. rw (back labels there) (or-true (eqb key label.key)))
        (Memᴰ.cases_cons m)

-- a node of the chain is one of the nodes
pub chain_below : {next : ℕ → ℕ} {count n : ℕ} → OnChain next count n → n < count
chain_below (top low) = low
chain_below (link on more low) = low

-- nodes below a count that links lead through from one node up to Tail, each with a key above the last
pub data Walked (count : ℕ) (key next : ℕ → ℕ) : ℕ → ℕ → List ℕ → Type 0 where
  ended : {last node : ℕ} → node ≡ tail → Walked count key next last node []
  passed : {last node : ℕ} {nodes : List ℕ} → node ≢ tail → node < count → last < key node →
      Walked count key next (key node) (next node) nodes → Walked count key next last node (node ∷ nodes)

module _ {count : ℕ} {key next : ℕ → ℕ} where
  -- each has a key above the last, and not only above the one before it
  pub walked_above : {last node n : ℕ} {nodes : List ℕ} → Walked count key next last node nodes → Memᴰ n nodes → last < key n
  walked_above (ended e) m = absurd (Memᴰ.not-nil m)
  walked_above (passed h low above onward) m =
      ⊎_elim (λ same. rw same above) (λ there. omega (arith, walked_above onward there)) (Memᴰ.cases_cons m)

  -- and is one of the nodes
  walked_below : {last node n : ℕ} {nodes : List ℕ} → Walked count key next last node nodes → Memᴰ n nodes → n < count
  walked_below (ended e) m = absurd (Memᴰ.not-nil m)
  walked_below (passed h low above onward) m =
      ⊎_elim (λ same. rw same low) (λ there. walked_below onward there) (Memᴰ.cases_cons m)

  walked_rises : {last node : ℕ} {nodes : List ℕ} → Walked count key next last node nodes → Pairs (λ a b. key a < key b) nodes
  walked_rises (ended e) = alone
  walked_rises (passed {nodes} h low above onward) = each_of nodes (λ n m. walked_above onward m) ahead walked_rises onward

  -- each is on the chain, and is not Tail
  pub walked_on : {last node n : ℕ} {nodes : List ℕ} → (node < count → OnChain next count node) → Walked count key next last node nodes →
      Memᴰ n nodes → OnChain next count n × (n ≢ tail)
  walked_on on (ended e) m = absurd (Memᴰ.not-nil m)
  walked_on on (passed h low above onward) m =
      ⊎_elim (λ same. rw same (on low, h)) (λ there. walked_on (link (on low) h) onward there) (Memᴰ.cases_cons m)

  -- the first is one of them, and so is what follows one of them, if it is not Tail
  walked_first : {last node : ℕ} {nodes : List ℕ} → Walked count key next last node nodes → node ≢ tail → Memᴰ node nodes
  walked_first (ended e) h = absurd (h e)
  walked_first (passed k low above onward) h = Memᴰ.head refl

  walked_next : {last node n : ℕ} {nodes : List ℕ} → Walked count key next last node nodes → Memᴰ n nodes → next n ≢ tail →
      Memᴰ (next n) nodes
  walked_next (ended e) m h = absurd (Memᴰ.not-nil m)
  walked_next (passed k low above onward) m h =
      Memᴰ.tail
      (⊎_elim (λ same. rw same (walked_first onward (rw same at h))) (λ there. walked_next onward there h) (Memᴰ.cases_cons m))

  -- so the nodes from Head's next on are all those of the chain but Head and Tail
  on_walked : {last n : ℕ} {nodes : List ℕ} → Walked count key next last (next head) nodes → OnChain next count n → n ≢ head →
      n ≢ tail → Memᴰ n nodes
  on_walked walked (top low) h t = absurd (h refl)
  on_walked walked (link {node} on k low) h t =
      elim (ℕ_discrete node head) [
        | yes q ↦ rw q (walked_first walked (rw q at t))
        | no q ↦ walked_next walked (on_walked walked on q k) t
      ]

-- a list with one more in front is there where the list is
mapped_some : (node : ℕ) {nodes : List ℕ} (onward : Option (List ℕ)) → map (λ rest. node ∷ rest) onward ≡ some nodes →
    (rest : List ℕ) × (onward ≡ some rest) × (nodes ≡ node ∷ rest)
mapped_some node {nodes} none e = absurd (none-ne-some nodes e)
mapped_some node {nodes} (some rest) e = (rest, refl, cc)

-- and none is there only where none was
mapped_none : (node : ℕ) (onward : Option (List ℕ)) → is_none onward ≡ false → is_none (map (λ rest. node ∷ rest) onward) ≡ false
mapped_none node none e = e
mapped_none node (some rest) e = refl

-- what holds of a list that is there, and of no nodes where none is, holds of what is taken for it
pub or_empty : {Holds : List ℕ → Type 0} (found : Option (List ℕ)) → (is_none found ≡ true → Holds []) →
    ((nodes : List ℕ) → found ≡ some nodes → Holds nodes) → Holds (get_or found [])
or_empty none empty holds = empty refl
or_empty (some nodes) empty holds = holds nodes refl

module _ (read : ℕ → Node) (count : ℕ) where
  -- a walk that comes to an end passes such nodes
  walk_walked : (steps last node : ℕ) (nodes : List ℕ) → walk read count steps last node ≡ some nodes →
      Walked count (λ n. (read n).key) (λ n. (read n).next) last node nodes
  unfolding walk
  walk_walked zero last node nodes e = absurd (none-ne-some nodes e)
  walk_walked (suc steps) last node nodes e =
      elim (ℕ_discrete node tail) [
        | yes q ↦ let z : nodes ≡ [] = cc (rw (eq-eqb node tail q) at e) in rw z (ended q)
        | no q ↦
            let found = rw (ne_eqb node tail q) at e in
            ⊎_elim (λ breaks. absurd (none-ne-some nodes (rw breaks at found)))
            (λ goes.
            let onward = mapped_some node _ (rw goes at found) in
            rw onward.2
            (passed q (ltb-true _ _ (and_elim_left (ltb node count) _ goes)) (ltb-true _ _ (and_elim_right (ltb node count) _ goes))
            (walk_walked steps (read node).key (read node).next onward.0 onward.1)))
            (dichotomy (ltb node count && ltb last (read node).key))
      ]

  pub chain_walked : (nodes : List ℕ) → chain read count ≡ some nodes →
      Walked count (λ n. (read n).key) (λ n. (read n).next) (read head).key (read head).next nodes
  unfolding chain
  chain_walked = walk_walked 65536 (read head).key (read head).next

  -- a node of the set is one of the nodes
  pub set_nodes_below : {node : ℕ} → Memᴰ node (set_nodes read count) → node < count
  unfolding set_nodes chain_nodes
  set_nodes_below {node} m =
      or_empty {Holds = λ found. Memᴰ node found → node < count} (chain read count) (λ broken here. absurd (Memᴰ.not-nil here))
      (λ nodes e here. walked_below (chain_walked nodes e) here)
      (from_filter (is_unmarked read) m).0

  -- the labels of the unmarked ones rise: the walk passes a node only where its key is above the last, and a broken chain has no nodes
  labels_rise : Rising (chain_labels read count)
  unfolding chain_labels set_nodes chain_nodes
  labels_rise =
      pairs_map (label_at read)
      (pairs_filter (is_unmarked read) (or_empty (chain read count) (λ broken. alone) (λ nodes e. walked_rises (chain_walked nodes e))))

  -- where the keys of the chain rise to Tail, steps up to the highest key are enough
  module _ (rises : (n : ℕ) → OnChain (λ n. (read n).next) count n → n ≢ tail →
      ((read n).next < count) × ((read n).key < (read (read n).next).key))
      (small : (n : ℕ) → n < count → (read n).key ≤ 65535) where
    walk_whole : (steps : ℕ) {node : ℕ} → OnChain (λ n. (read n).next) count node → node ≢ tail →
        65535 < (read node).key + steps → is_none (walk read count steps (read node).key (read node).next) ≡ false
    unfolding walk
    walk_whole zero {node} on h enough = absurd (omega (arith, small node (chain_below on)))
    walk_whole (suc steps) {node} on h enough =
        let following = (read node).next in
        let step = rises node on h in
        elim (ℕ_discrete following tail) [
          | yes q ↦ rw (eq-eqb following tail q)
          | no q ↦
              rw (ne_eqb following tail q, lt-ltb _ _ step.0, lt-ltb _ _ step.1)
              (mapped_none following (walk read count steps (read following).key (read following).next)
              (walk_whole steps (link on h step.0) q (omega arith)))
        ]

    -- so the chain is whole: each node has a key above the last, and keys are words, so 65,536 steps are enough
    pub chain_whole : head < count → is_none (chain read count) ≡ false
    unfolding chain
    chain_whole any = walk_whole 65536 (top any) (λ q. omega arith) (omega arith)

-- a node's key and next, of an arena, and the nodes of its chain
abbrev pub key_of : List ℕ → ℕ → ℕ
key_of arena node = (node_in arena node).key

abbrev pub next_of : List ℕ → ℕ → ℕ
next_of arena node = (node_in arena node).next

abbrev pub chain_of : List ℕ → List ℕ
chain_of arena = chain_nodes (node_in arena) (nodes_of arena)

module _ (arena : List ℕ) where
  pub whole_walked : ChainWhole arena → Walked (nodes_of arena) (key_of arena) (next_of arena) (key_of arena head) (next_of arena head) (chain_of arena)
  unfolding chain_nodes
  whole_walked whole =
      or_empty _ (λ broken. absurd (true≢false (sym broken ∙ whole)))
      (chain_walked (node_in arena) (nodes_of arena))

  -- the keys of the set rise
  pub set_rises : Rising (set_of arena)
  unfolding set_of
  set_rises = labels_rise (node_in arena) (nodes_of arena)

  -- and where the chain is whole, its labels are those of document 01's words
  pub set_members : ChainWhole arena → (label : Label) → Memᴰ label (set_of arena) ↔ InSet arena label
  unfolding set_of chain_labels set_nodes
  set_members whole label = (forth, back)
    where
      forth : Memᴰ label (set_of arena) → InSet arena label
      forth m =
          let found = Memᴰ.of_map (label_in arena) _ m in
          let passed = from_filter (is_unmarked (node_in arena)) found.1 in
          let on = walked_on (λ low. link (top (omega arith)) (λ q. omega arith) low) (whole_walked whole) passed.0 in
          let above = walked_above (whole_walked whole) passed.0 in
          record {
            node = found.0;
            on_chain = on.0;
            not_head = λ q. omega (arith, rw q at above);
            not_tail = on.1;
            unmarked = eqb-true _ _ passed.1;
            has_label = found.2;
          }

      back : InSet arena label → Memᴰ label (set_of arena)
      back s =
          let on = on_walked (whole_walked whole) s.on_chain s.not_head s.not_tail in
          Memᴰ.cast (sym s.has_label) (Memᴰ.map (label_in arena) (in_filter (is_unmarked (node_in arena)) on (eq-eqb _ _ s.unmarked)))
