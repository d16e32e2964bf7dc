-- The two layouts side by side, which the converters alone know (document 02, A7 and A8): in layout 1 a node has no length, and the header no
-- count.
use Rattle.std.specs.Prelude.{ℕ, ◌+◌, ◌*◌, List, [], ◌∷◌, Bool, cond, not, take}
use Rattle.worker.specs.Node.{with_length}
use Rattle.worker.specs.Refusals.{Test}
use Rattle.worker.specs.declared.Node.{Node}
use Rattle.worker.specs.declared.refusal.Refusal.TheVariants.{ShortArena, OddHeader}
use Rattle.words.specs.Layout.{word, layout1, layout2, node_width, old_node_width, node_length, nodes_from, header_with, nodes_of, node_part}
use Rattle.words.specs.Records.{node_words, node_read}
use Rattle.words.specs.Header.{is_short, is_header, is_old_header}
use Rattle.arena.specs.Sets.{set_nodes}

-- a node record of so many words: as many of the node's words
abbrev pub first_words : ℕ → Node → List ℕ
first_words width n = take width (node_words n)

-- of layout 2, or else of layout 1, by whether nodes have lengths
module _ (has_lengths : Bool) where
  abbrev pub number : ℕ
  number = cond has_lengths layout2 layout1

  -- words of a node record, and of an arena
  abbrev pub width : ℕ
  width = cond has_lengths node_width old_node_width

  abbrev pub total_words : ℕ → ℕ → ℕ
  total_words workers nodes = nodes_from workers + width * nodes

  -- the header of an arena with so many labels
  unfoldable pub new_header : ℕ → ℕ → ℕ → List ℕ
  new_header workers nodes stored = header_with number workers nodes (total_words workers nodes) (cond has_lengths stored 0)

  -- a node, read from the part of an arena that holds the node records; a length that has no word is 0
  unfoldable pub part_node : List ℕ → ℕ → Node
  part_node nodes node = with_length (node_read nodes (width * node)) (cond has_lengths (word nodes (width * node + node_length)) 0)

  -- of an arena: a node, and the nodes of the set
  abbrev pub arena_node : List ℕ → ℕ → Node
  arena_node arena = part_node (node_part arena)

  abbrev pub arena_set : List ℕ → List ℕ
  arena_set arena = set_nodes (arena_node arena) (nodes_of arena)

  -- its header is one of this layout, and in order
  abbrev pub has_header : List ℕ → Bool
  has_header arena = cond has_lengths (is_header arena) (is_old_header arena)

  -- a short arena: 1; any other header: 2
  unfoldable pub layout_refusals : List ℕ → List Test
  layout_refusals arena = (is_short arena, ShortArena) ∷ (not (has_header arena), OddHeader) ∷ []
