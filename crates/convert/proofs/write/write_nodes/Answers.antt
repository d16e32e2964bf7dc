-- Each record is written where the ones before it end.
use Rattle.std.proofs.Common.{◌≡◌, ◌+◌, ◌-◌, sym, ◌∙◌, arith}
use mathlib.Core.List.{flatten}
use Rattle.words.specs.Flat.{flat_words}
use Rattle.words.proofs.FlatLaws.{flat_long}
use Rattle.words.proofs.Runs.{sets_whole}
use Rattle.arena.specs.Lists.{numbers_from}
use Rattle.arena.proofs.ListLaws.{numbers_length}
use Rattle.convert.specs.Layouts.{arena_node}
use Rattle.convert.specs.Members.{node_by}
use Rattle.convert.proofs.NodeRecords.{first_long, written_on}
use Rattle.convert.proofs.write.write_nodes.Goals as goal

pub loop-number-preserved : goal.loop-number-preserved
loop-number-preserved c =
    let args = c.args in
    let loop = c.loop-number in
    let record_of = node_by args.width (arena_node args.source.has_lengths args.source.words.now) args.members.now in
    let left : args.source.count - (loop.number + 1) ≡ args.source.count - loop.number - 1 = omega arith in
    let on = written_on args.width record_of (λ node. first_long args.width _ c.requires.1) loop.target loop.number (args.source.count - loop.number) (omega (arith, c.loop-number-test.true)) in
    rw (c.write_node.ensures, c.get-node.ensures, args.source.part.0, c.length_of-length.ensures, left) (sym on ∙ loop.invariant)

pub returns : goal.returns
unfolding numbers_from flatten
returns c =
    let args = c.args in
    let loop = c.loop-number in
    let none : args.source.count - loop.number ≡ 0 = omega arith in
    (rw none at loop.invariant)
    ∙ sets_whole (flat_words (node_by args.width (arena_node args.source.has_lengths args.source.words.now) args.members.now) (numbers_from 0 args.source.count)) args.target.now
    (flat_long (node_by args.width (arena_node args.source.has_lengths args.source.words.now) args.members.now) (λ node. first_long args.width _ c.requires.1) (numbers_from 0 args.source.count) ∙ rw (numbers_length 0 args.source.count, c.requires.2))
