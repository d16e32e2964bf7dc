-- A saved arena of layout 1 that is sound and at rest, converted, and then worked on (document 02, A7).
use Rattle.std.specs.Prelude.{ℕ, ◌≡◌, true, false, List, [], map, length}
use Rattle.words.specs.Replies.{accepted}
use Rattle.words.specs.declared.entry.Entry.{Entry}
use Rattle.convert.specs.Claims.{new_label, SavedAtRest}
use Rattle.convert.specs.Convert.{source_set, to_layout_2_answer, to_layout_2_target}
use Rattle.linear.specs.Works.{WorksFrom}

-- every list of starts and turns from there is linearizable, and all else that is claimed of a list from a fresh arena holds; the sequential set
-- begins with the labels of the arena, with the lengths lent for them (`Converted.goes_on`)
abbrev pub GoesOn : Type 0
GoesOn =
    (source lengths target : List ℕ) (entries : List Entry) → SavedAtRest false source →
    to_layout_2_answer source lengths (length target) ≡ accepted [] →
    WorksFrom (map (new_label true source lengths) (source_set true source)) (to_layout_2_target source lengths target) entries
