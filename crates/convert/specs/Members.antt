-- The nodes of a set as they are gathered and then written: for the contracts of inner functions.
use Rattle.std.specs.Prelude.{ℕ, suc, min, ◌<◌, ◌≡◌, List, Bool, true, false, cond, ◌&&◌, length, get_or, set, replicate}
use Rattle.std.specs.List.{list_all}
use Rattle.worker.specs.Node.{with_length}
use Rattle.worker.specs.declared.Node.{Node}
use Rattle.words.specs.Layout.{word, stored_at, nodes_of}
use Rattle.arena.specs.declared.chain.Label.{Label}
use Rattle.convert.specs.declared.members.Members.{Members}
use Rattle.convert.specs.Layouts.{first_words}
use Rattle.convert.specs.Convert.{length_in_2, fits, source_set, node_fits, new_length}

-- no node has been gathered
abbrev pub IsEmpty : Members → Type 0
IsEmpty members = (members.row ≡ replicate 1024 false) × (members.count ≡ 0) × (members.fit ≡ true)

-- one node more
abbrev pub gathered : Members → ℕ → Label → Members
gathered members node label =
    record members {
      row = set members.row node true;
      count = min 65535 (suc members.count);
      fit = members.fit && fits members.lengthening label.key (length_in_2 members.lengthening members.lengths.now node label.length);
    }

-- what a header of the layout wanted counts
abbrev pub count_by : Members → ℕ
count_by members = cond members.lengthening members.count 0

-- what a node has for a length in the layout wanted
abbrev pub length_by : Members → ℕ → ℕ
length_by members node = cond (get_or members.row node false) (word members.lengths.now node) 0

-- all nodes of an arena's set have been gathered
pub record AllGathered (lengthening : Bool) (source lengths : List ℕ) (members : Members) : Type 0 where
  pub lengthening_is : members.lengthening ≡ lengthening
  pub lent : members.lengths.now ≡ lengths
  pub counted : members.count ≡ length (source_set lengthening source)
  pub lengths_are : (node : ℕ) → node < nodes_of source → length_by members node ≡ new_length lengthening source lengths node
  pub fit : members.fit ≡ list_all (node_fits lengthening source lengths) (source_set lengthening source)

-- words with another layout, total and count
abbrev pub with_front : List ℕ → ℕ → ℕ → ℕ → List ℕ
with_front words layout total stored = set (set (set words 0 layout) 5 total) stored_at stored

-- a node's new record, of so many words
abbrev pub node_by : ℕ → (ℕ → Node) → Members → ℕ → List ℕ
node_by width nodes members node = first_words width (with_length (nodes node) (length_by members node))
