-- Nodes that differ in their lengths alone have the same chain, and the same ones in the set.
use Prim.Native.Nat.{ℕ, zero, suc}
use mathlib.Core.Path.{◌≡◌, refl, ap}
use mathlib.Core.List.{[], ◌∷◌}
use mathlib.Core.Bool.{cond, ◌&&◌}
use mathlib.Core.Option.{none, some, map, get_or}
use lib.Dec.{ltb, eqb}
use Rattle.std.specs.List.{filter}
use Rattle.worker.specs.Node.{without_length, head, tail}
use Rattle.worker.specs.declared.Node.{Node}
use Rattle.arena.specs.Sets.{walk, chain, chain_nodes, set_nodes}

module _ (nodes others : ℕ → Node) (count : ℕ)
    (same : (node : ℕ) → without_length (others node) ≡ without_length (nodes node)) where
  key_same : (node : ℕ) → (others node).key ≡ (nodes node).key
  key_same node = ap (λ (n : Node). n.key) (same node)

  next_same : (node : ℕ) → (others node).next ≡ (nodes node).next
  next_same node = ap (λ (n : Node). n.next) (same node)

  walk_same : (steps last node : ℕ) → walk others count steps last node ≡ walk nodes count steps last node
  unfolding walk
  walk_same zero last node = refl
  walk_same (suc steps) last node =
      let onward : walk others count steps (others node).key (others node).next
      ≡ walk nodes count steps (nodes node).key (nodes node).next
      = rw (key_same node, next_same node) (walk_same steps (nodes node).key (nodes node).next) in
      λ i. cond (eqb node tail) (some [])
      (cond (ltb node count && ltb last (key_same node i)) (map (λ rest. node ∷ rest) (onward i)) none)

  pub chain_same : chain others count ≡ chain nodes count
  unfolding chain
  chain_same = rw (key_same head, next_same head) (walk_same 65536 (nodes head).key (nodes head).next)

  pub set_nodes_same : set_nodes others count ≡ set_nodes nodes count
  unfolding set_nodes chain_nodes
  set_nodes_same = λ i. filter (λ node. eqb (same node i).mark 0) (get_or (chain_same i) [])
