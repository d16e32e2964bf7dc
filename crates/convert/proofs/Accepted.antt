-- What a source behind its header test and a conversion that is not refused may count on, and how long the converted arena is.
use Prim.Native.Nat.{ℕ, ◌*◌, ◌≤◌}
use mathlib.Core.Path.{◌≡◌, ◌∙◌}
use mathlib.Core.List.{List, []}
use mathlib.Core.Bool.{Bool, true, false, cond, not}
use native.Mathlib.Omega.{arith}
use lib.ListN.{length, drop, length-append, length-drop}
use lib.Seq.{length-take-le}
use borrow.Author.Tests.{ltb-false, not-false}
use Rattle.worker.proofs.RefusalLaws.{NoneHolds}
use Rattle.words.specs.Layout.{header_width, worker_width, most_stored, workers_of, nodes_of, worker_part}
use Rattle.words.specs.Header.{is_short}
use Rattle.words.specs.Replies.{accepted, replied}
use Rattle.words.proofs.FlatLaws.{flat_long}
use Rattle.words.proofs.HeaderLaws.{HeaderIn, new_header, old_header, or_false}
use Rattle.words.proofs.Judged.{none_holds}
use Rattle.words.specs.Flat.{flat_words}
use Rattle.arena.specs.Lists.{numbers_from}
use Rattle.arena.proofs.ListLaws.{numbers_length}
use Rattle.convert.specs.Layouts as layouts
use Rattle.convert.specs.Layouts.{number, width, total_words, has_header, layout_refusals}
use Rattle.convert.specs.Convert.{conversion_refusals, new_node, converted}
use Rattle.convert.proofs.NodeRecords.{first_long, width_bounds}

-- an arena of a layout with its header in order
abbrev pub Ordered : Bool → List ℕ → Type 0
Ordered has_lengths arena = HeaderIn (number has_lengths) (width has_lengths) (cond has_lengths (most_stored (nodes_of arena)) 0) arena

pub ordered_by : (has_lengths : Bool) (arena : List ℕ) → is_short arena ≡ false → has_header has_lengths arena ≡ true → Ordered has_lengths arena
ordered_by true arena long right = new_header arena long right
ordered_by false arena long right = old_header arena long right

pub ordered_of : (has_lengths : Bool) (arena : List ℕ) → NoneHolds (layout_refusals has_lengths arena) → Ordered has_lengths arena
unfolding layout_refusals
ordered_of has_lengths arena none = ordered_by has_lengths arena none.0 (not-false _ none.1.0)

pub ordered : (has_lengths : Bool) (arena : List ℕ) → accepted [] ≡ replied (layout_refusals has_lengths arena) [] → Ordered has_lengths arena
ordered has_lengths arena e = ordered_of has_lengths arena (none_holds (layout_refusals has_lengths arena) [] e)

-- an arena has all words of its workers
pub workers_long : (has_lengths : Bool) (source : List ℕ) → Ordered has_lengths source → length (worker_part source) ≡ worker_width * workers_of source
unfolding worker_part
workers_long has_lengths source header =
    length-take-le (worker_width * workers_of source) (drop header_width source) (rw length-drop (omega (arith, header.end, header.whole)))

module _ (lengthening : Bool) (source lengths : List ℕ) where
  -- there is room for the arena
  pub room_there : (room : ℕ) → NoneHolds (conversion_refusals lengthening source lengths room) →
      total_words lengthening (workers_of source) (nodes_of source) ≤ room
  unfolding conversion_refusals
  room_there room none = ltb-false _ _ (or_false _ _ none.1.1.1.0).0

  -- its node records are as long as their width says
  abbrev pub records : List ℕ
  records = flat_words (new_node lengthening source lengths) (numbers_from 0 (nodes_of source))

  pub records_long : length records ≡ width lengthening * nodes_of source
  records_long =
      flat_long (new_node lengthening source lengths) (λ node. first_long (width lengthening) _ (width_bounds lengthening).1) (numbers_from 0 (nodes_of source))
      ∙ rw (numbers_length 0 (nodes_of source))

  -- and it has as many words as its total says
  pub converted_long : Ordered (not lengthening) source →
      length (converted lengthening source lengths) ≡ total_words lengthening (workers_of source) (nodes_of source)
  unfolding converted layouts.new_header
  converted_long header = rw (length-append, length-append, workers_long (not lengthening) source header, records_long) (omega arith)
