-- Old boards to new and back (document 02, A7): an arena, written into other words in the other layout.
use Rattle.std.specs.Prelude.{ℕ, true, false, List, [], ◌∷◌, ◌++◌, Bool, cond, not, ◌&&◌, ◌||◌, length, drop, ltb, eqb}
use Rattle.std.specs.List.{list_any, list_all}
use Rattle.worker.specs.Node.{with_length}
use Rattle.worker.specs.Worker.{among, is_length, idle_stage, last_stage}
use Rattle.worker.specs.Refusals.{Test}
use Rattle.worker.specs.declared.Node.{Node}
use Rattle.worker.specs.declared.refusal.Refusal.TheVariants.{BrokenRecord, Busy, NoRoom, BadCall}
use Rattle.words.specs.Layout.{word, workers_of, nodes_of, worker_part}
use Rattle.words.specs.Records.{worker_at}
use Rattle.words.specs.Replies.{Reply, replied, written}
use Rattle.words.specs.Flat.{flat_words}
use Rattle.arena.specs.Lists.{numbers_from}
use Rattle.arena.specs.Snapshot.{chain_broken}
use Rattle.convert.specs.Layouts.{first_words, width, total_words, new_header, arena_node, arena_set, layout_refusals}

-- some worker is at a stage above this one
unfoldable pub any_above : List ℕ → ℕ → Bool
any_above source stage = list_any (λ worker. ltb stage (worker_at source worker).stage) (numbers_from 0 (workers_of source))

-- the length of a label in layout 2: on the way there the one lent for its node, on the way back its own
abbrev pub length_in_2 : Bool → List ℕ → ℕ → ℕ → ℕ
length_in_2 lengthening lengths node own = cond lengthening (word lengths node) own

-- a label of this length may be converted: A2's rule, and on the way back it is 1
abbrev pub fits : Bool → ℕ → ℕ → Bool
fits lengthening key length = is_length key length && (lengthening || eqb length 1)

-- on the way to layout 2, or else back, the source is of the other layout: its nodes, and those of its set
abbrev pub source_node : Bool → List ℕ → ℕ → Node
source_node lengthening = arena_node (not lengthening)

abbrev pub source_set : Bool → List ℕ → List ℕ
source_set lengthening = arena_set (not lengthening)

-- the way; an arena; and lent lengths, of which there are none on the way back
module _ (lengthening : Bool) (source lengths : List ℕ) where
  -- the label of a node may be converted
  abbrev pub node_fits : ℕ → Bool
  node_fits node = fits lengthening (source_node lengthening source node).key (length_in_2 lengthening lengths node (source_node lengthening source node).length)

  -- the new length of a node: the one lent for it where it is in the set, and else 0
  abbrev pub new_length : ℕ → ℕ
  new_length node = cond (among (source_set lengthening source) node) (word lengths node) 0

  -- behind the header test: a stage above 25: 6; a busy worker: 4; a broken chain, as for the roll: 7; a short target, or fewer than N lengths: 8;
  -- a stored label's length that may not be: 5
  unfoldable pub conversion_refusals : ℕ → List Test
  conversion_refusals room =
      (any_above source last_stage, BrokenRecord)
      ∷ (any_above source idle_stage, Busy)
      ∷ chain_broken (source_node lengthening source) (nodes_of source)
      ∷ (ltb room (total_words lengthening (workers_of source) (nodes_of source)) || (lengthening && ltb (length lengths) (nodes_of source)), NoRoom)
      ∷ (not (list_all node_fits (source_set lengthening source)), BadCall)
      ∷ []

  -- order: 1, 2, 6, 4, 7, 8, 5
  unfoldable pub convert_refusals : ℕ → List Test
  convert_refusals room = layout_refusals (not lengthening) source ++ conversion_refusals room

  -- a node is copied but for its length, for which layout 1 has no word
  abbrev pub new_node : ℕ → List ℕ
  new_node node = first_words (width lengthening) (with_length (source_node lengthening source node) (new_length node))

  -- layout and total are rewritten, the count filled in or dropped, all other words of the header and those of the workers copied
  unfoldable pub converted : List ℕ
  converted =
      new_header lengthening (workers_of source) (nodes_of source) (length (source_set lengthening source))
      ++ worker_part source
      ++ flat_words new_node (numbers_from 0 (nodes_of source))

  unfoldable pub convert_answer : ℕ → Reply
  convert_answer room = replied (convert_refusals room) []

  -- words past the total stay
  unfoldable pub convert_target : List ℕ → List ℕ
  convert_target target =
      written (convert_refusals (length target)) target
      (converted ++ drop (total_words lengthening (workers_of source) (nodes_of source)) target)

-- to layout 2, with a length for each node number; to layout 1
abbrev pub to_layout_2_answer : List ℕ → List ℕ → ℕ → Reply
to_layout_2_answer = convert_answer true

abbrev pub to_layout_2_target : List ℕ → List ℕ → List ℕ → List ℕ
to_layout_2_target = convert_target true

abbrev pub to_layout_1_answer : List ℕ → ℕ → Reply
to_layout_1_answer source = convert_answer false source []

abbrev pub to_layout_1_target : List ℕ → List ℕ → List ℕ
to_layout_1_target source = convert_target false source []
