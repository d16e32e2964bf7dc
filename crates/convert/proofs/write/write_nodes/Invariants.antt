-- The invariant: to write the records that are left makes the whole.
use Rattle.std.proofs.Common.{◌≡◌, ◌-◌}
use Rattle.std.proofs.lemmas.List.Edits.{sets}
use Rattle.words.specs.Layout.{slot}
use Rattle.words.specs.Flat.{flat_words}
use Rattle.arena.specs.Lists.{numbers_from}
use Rattle.convert.specs.Layouts.{arena_node}
use Rattle.convert.specs.Members.{node_by}
use Rattle.convert.proofs.write.write_nodes.Given as goal

abbrev pub invariant-loop-number : goal.invariant-loop-number
invariant-loop-number l =
    sets l.target (slot l.width l.number 0)
    (flat_words (node_by l.width (arena_node l.source.has_lengths l.source.words.now) l.members) (numbers_from l.number (l.source.count - l.number)))
    ≡ sets l.initial.target 0
    (flat_words (node_by l.width (arena_node l.source.has_lengths l.source.words.now) l.members) (numbers_from 0 l.source.count))
