-- snapshot (document 01: write the roll; document 02, A3: the roll is the set).
use Rattle.std.specs.Prelude.{ℕ, ◌≡◌, List, [], ◌∷◌, ◌++◌, length, drop, ltb}
use Rattle.worker.specs.Refusals.{Test}
use Rattle.worker.specs.declared.refusal.Refusal.TheVariants.{BrokenChain, NoRoom}
use Rattle.worker.specs.declared.Node.{Node}
use Rattle.words.specs.Layout.{nodes_of}
use Rattle.words.specs.Replies.{Reply, accepted, replied, written}
use Rattle.words.specs.Header.{header_refusals}
use Rattle.arena.specs.Sets.{keys_in, is_none, chain, chain_labels, node_in, set_of}

-- what a snapshot gives: the count of the keys
abbrev pub count_values : ℕ → List ℕ
count_values count = count ∷ []

module _ (nodes : ℕ → Node) (count : ℕ) where
  -- the keys of the set
  unfoldable pub chain_keys : List ℕ
  chain_keys = keys_in (chain_labels nodes count)

  -- a broken chain, at a marked node as at any other: 7
  unfoldable pub chain_broken : Test
  chain_broken = (is_none (chain nodes count), BrokenChain)

  -- more keys than room: 8
  unfoldable pub chain_too_long : ℕ → Test
  chain_too_long room = (ltb room (length chain_keys), NoRoom)

  -- the whole chain is judged before the room
  unfoldable pub chain_refusals : ℕ → List Test
  chain_refusals room = chain_broken ∷ chain_too_long room ∷ []

-- the roll: the keys of an arena's set, rising
unfoldable pub keys_of : List ℕ → List ℕ
keys_of arena = keys_in (set_of arena)

-- order: 1, 2, 12, 7, 8
unfoldable pub snapshot_refusals : List ℕ → ℕ → List Test
snapshot_refusals arena room =
    header_refusals arena ++ chain_refusals (node_in arena) (nodes_of arena) room

-- the count of the keys
unfoldable pub snapshot_answer : List ℕ → ℕ → Reply
snapshot_answer arena room = replied (snapshot_refusals arena room) (length (keys_of arena) ∷ [])

-- the keys into lent words; words past them stay
unfoldable pub snapshot_words : List ℕ → List ℕ → List ℕ
snapshot_words arena lent =
    written (snapshot_refusals arena (length lent)) lent (keys_of arena ++ drop (length (keys_of arena)) lent)

-- what is claimed of a snapshot (`SnapshotLaws.snapshot_lists`): it is accepted, and lists the set
pub record Listed (arena lent : List ℕ) : Type 0 where
  pub answer : snapshot_answer arena (length lent) ≡ accepted (length (keys_of arena) ∷ [])
  pub words : snapshot_words arena lent ≡ keys_of arena ++ drop (length (keys_of arena)) lent
