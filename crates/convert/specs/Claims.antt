-- What is claimed of the converters.
use Rattle.std.specs.Prelude.{ℕ, ◌≤◌, ◌<◌, ◌≡◌, ◌↔◌, true, List, [], ◌++◌, Bool, cond, not, map, length, take, drop}
use Rattle.std.specs.List.{list_all}
use Rattle.worker.specs.Node.{without_length}
use Rattle.words.specs.Layout.{word, workers_of, nodes_of, total_of, stored_of}
use Rattle.words.specs.Records.{worker_at}
use Rattle.words.specs.Replies.{accepted, replied}
use Rattle.arena.specs.declared.chain.Label.{Label}
use Rattle.arena.specs.Sets.{chain, chain_labels}
use Rattle.arena.specs.Snapshot.{chain_keys}
use Rattle.arena.specs.AtRest.{NodesAtRest, WorkersAtRest, SoundAtRest}
use Rattle.convert.specs.Layouts.{total_words, arena_node, arena_set, layout_refusals}
use Rattle.convert.specs.Convert.{source_node, source_set, node_fits, convert_answer, convert_target, to_layout_2_answer, to_layout_2_target, to_layout_1_answer, to_layout_1_target}

-- the label of a node of the set, in the layout wanted
abbrev pub new_label : Bool → List ℕ → List ℕ → ℕ → Label
new_label lengthening source lengths node =
    record { key = (source_node lengthening source node).key; length = cond lengthening (word lengths node) 0 }

-- of an arena, and the one that it was converted from
pub record Converts (lengthening : Bool) (source lengths new : List ℕ) : Type 0 where
  -- it is in order, in the layout wanted, and has as many workers and nodes
  pub in_order : replied (layout_refusals lengthening new) [] ≡ accepted []
  pub workers_are : workers_of new ≡ workers_of source
  pub nodes_are : nodes_of new ≡ nodes_of source
  -- the same worker records, and the same nodes but for their lengths
  pub same_workers : (worker : ℕ) → worker < workers_of source → worker_at new worker ≡ worker_at source worker
  pub same_nodes : (node : ℕ) → without_length (arena_node lengthening new node) ≡ without_length (source_node lengthening source node)
  -- the same chain and the same set; in layout 2 with the lengths lent, and counted
  pub same_chain : chain (arena_node lengthening new) (nodes_of new) ≡ chain (source_node lengthening source) (nodes_of source)
  pub same_set : arena_set lengthening new ≡ source_set lengthening source
  pub same_keys : chain_keys (arena_node lengthening new) (nodes_of new) ≡ chain_keys (source_node lengthening source) (nodes_of source)
  pub labels_are : chain_labels (arena_node lengthening new) (nodes_of new) ≡ map (new_label lengthening source lengths) (source_set lengthening source)
  pub counts : stored_of new ≡ cond lengthening (length (arena_set lengthening new)) 0

-- so it is with what every accepted conversion leaves (`Laws.converts`)
abbrev pub Converting : Type 0
Converting =
    (lengthening : Bool) (source lengths target : List ℕ) → convert_answer lengthening source lengths (length target) ≡ accepted [] →
    Converts lengthening source lengths (convert_target lengthening source lengths target)

-- to layout 2 with every length 1 and back: accepted where there is room, and the same board words (`RoundTrips.round_trip`)
abbrev pub RoundTrip : Type 0
RoundTrip =
    (source lengths first second : List ℕ) → to_layout_2_answer source lengths (length first) ≡ accepted [] →
    ((node : ℕ) → node < nodes_of source → word lengths node ≡ 1) → total_of source ≤ length second →
    let new = to_layout_2_target source lengths first in
    (to_layout_1_answer new (length second) ≡ accepted [])
    × (to_layout_1_target new second ≡ take (total_of source) source ++ drop (total_of source) second)

-- a saved arena of a layout that is sound and at rest, with its count in layout 2
pub record SavedAtRest (has_lengths : Bool) (arena : List ℕ) : Type 0 where
  pub in_order : replied (layout_refusals has_lengths arena) [] ≡ accepted []
  pub nodes : NodesAtRest (arena_node has_lengths arena) (nodes_of arena)
  pub workers : WorkersAtRest arena
  pub counted : has_lengths ≡ true → stored_of arena ≡ length (arena_set has_lengths arena)

-- in layout 2 that is what calls may go on from (`AtRest.saved_in_2`)
abbrev pub SavedIn2 : Type 0
SavedIn2 = (arena : List ℕ) → SavedAtRest true arena ↔ SoundAtRest arena

-- of such an arena only this is asked: room, N lengths, and labels that may have theirs (`AtRest.accepted_at_rest`)
abbrev pub AcceptedAtRest : Type 0
AcceptedAtRest =
    (lengthening : Bool) (source lengths : List ℕ) (room : ℕ) → SavedAtRest (not lengthening) source →
    total_words lengthening (workers_of source) (nodes_of source) ≤ room → (lengthening ≡ true → nodes_of source ≤ length lengths) →
    list_all (node_fits lengthening source lengths) (source_set lengthening source) ≡ true →
    convert_answer lengthening source lengths room ≡ accepted []

-- and it stays sound and at rest (`AtRest.stays_at_rest`); from one of layout 2 calls go on (`linear/proofs/Theorem.from_rest`)
abbrev pub StaysAtRest : Type 0
StaysAtRest =
    (lengthening : Bool) (source lengths target : List ℕ) → convert_answer lengthening source lengths (length target) ≡ accepted [] →
    SavedAtRest (not lengthening) source → SavedAtRest lengthening (convert_target lengthening source lengths target)
