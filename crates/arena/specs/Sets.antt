-- The chain of an arena, and its set (document 01: the keys of unmarked nodes on the chain, Head and Tail left out; document 02, A2: each
-- with its length). A snapshot lists the keys of this set (document 02, A3), and demand 3 speaks of it.
use Rattle.std.specs.Prelude.{ℕ, zero, suc, ◌<◌, ◌≡◌, ◌≢◌, List, [], ◌∷◌, map, Bool, true, false, cond, ◌&&◌, ◌||◌, ltb, eqb}
use Rattle.std.specs.List.{fold, filter}
use Rattle.std.proofs.Math.Option
use Rattle.std.proofs.Math.Option.{Option, none, some, get_or}
use Rattle.worker.specs.Node.{head, tail}
use Rattle.worker.specs.declared.Node.{Node}
use Rattle.words.specs.Layout.{nodes_of, node_part}
use Rattle.words.specs.Records.{node_at}
use Rattle.arena.specs.declared.chain.Label.{Label}
use Rattle.arena.specs.Lists.{Pairs}

-- keys rise
abbrev pub Rising : List Label → Type 0
Rising = Pairs (λ a b. a.key < b.key)

-- membership goes by key alone
unfoldable pub member : ℕ → List Label → Bool
member key [] = false
member key (label ∷ labels) = eqb key label.key || member key labels

-- the keys of labels
abbrev pub keys_in : List Label → List ℕ
keys_in = map (λ (label : Label). label.key)

abbrev pub is_none : {A : Type 0} → Option A → Bool
is_none none = true
is_none (some a) = false

-- of nodes by their number
module _ (nodes : ℕ → Node) where
  -- the label that a node holds, and whether it is not marked
  abbrev pub label_at : ℕ → Label
  label_at node = record { key = (nodes node).key; length = (nodes node).length }

  abbrev pub is_unmarked : ℕ → Bool
  is_unmarked node = eqb (nodes node).mark 0

  -- what becomes of a visitor that is shown some nodes, each with its label
  abbrev pub shown : {A : Type 0} → (A → ℕ → Label → A) → A → List ℕ → A
  shown visited = fold (λ visitor node. visited visitor node (label_at node))

  -- and of the first so many
  module _ (count : ℕ) where
    -- The nodes from `node` on, up to Tail, which is not looked at; or none, where a link is N or more or a key is not above the last.
    -- Keys rise and are words, so 65,536 steps are enough for every walk (`Walks.chain_steps`).
    unfoldable pub walk : ℕ → ℕ → ℕ → Option (List ℕ)
    walk zero last node = none
    walk (suc steps) last node =
        let onward = walk steps (nodes node).key (nodes node).next in
        cond (eqb node tail)
        (some [])
        (cond (ltb node count && ltb last (nodes node).key) (Option.map (λ rest. node ∷ rest) onward) none)

    -- the nodes of the chain between Head and Tail, marked or not; Head's key is where the rising begins
    unfoldable pub chain : Option (List ℕ)
    chain = walk 65536 (nodes head).key (nodes head).next

    -- of a broken chain none
    unfoldable pub chain_nodes : List ℕ
    chain_nodes = get_or chain []

    -- the unmarked ones, which are the nodes of the set, and their labels, in chain order
    unfoldable pub set_nodes : List ℕ
    set_nodes = filter is_unmarked chain_nodes

    unfoldable pub chain_labels : List Label
    chain_labels = map label_at set_nodes

-- a node of an arena
abbrev pub node_in : List ℕ → ℕ → Node
node_in arena = node_at (node_part arena)

abbrev pub label_in : List ℕ → ℕ → Label
label_in arena = label_at (node_in arena)

-- the walk from Head
abbrev pub walk_of : List ℕ → Option (List ℕ)
walk_of arena = chain (node_in arena) (nodes_of arena)

-- the chain is whole: the walk comes to Tail, by links below N and with rising keys
abbrev pub ChainWhole : List ℕ → Type 0
ChainWhole arena = is_none (walk_of arena) ≡ false

-- the set: a rising list (`SetLaws.set_rises`), with just the labels of document 01's words, below (`SetLaws.set_members`)
unfoldable pub set_of : List ℕ → List Label
set_of arena = chain_labels (node_in arena) (nodes_of arena)

-- document 01's words: the chain is Head and what next links reach from it, up to node 1 and no further; a number of N or more is no node
pub data OnChain (next : ℕ → ℕ) (count : ℕ) : ℕ → Type 0 where
  top : head < count → OnChain next count head
  link : {node : ℕ} → OnChain next count node → node ≢ tail → next node < count → OnChain next count (next node)

-- and the set is the keys of unmarked nodes on the chain, Head and Tail left out, each with the length that its node holds
pub record InSet (arena : List ℕ) (label : Label) : Type 0 where
  pub node : ℕ
  pub on_chain : OnChain (λ n. (node_in arena n).next) (nodes_of arena) node
  pub not_head : node ≢ head
  pub not_tail : node ≢ tail
  pub unmarked : (node_in arena node).mark ≡ 0
  pub has_label : label_in arena node ≡ label
