-- The part comes back as the values, which are as long.
use Prim.Native.Nat.{◌+◌, ◌≤◌}
use mathlib.Core.Path.{◌≡◌, sym, ◌∙◌}
use native.Mathlib.Omega.{arith}
use lib.ListN.{length}
use borrow.Author.Rules.{rules}
use borrow.Rule.Slice.PartMut.{mid_len}
use Rattle.words.proofs.Runs.{part_sets, sets_whole}
use Rattle.arena.proofs.fresh.write_record.Goals as goal

pub returns : goal.returns
returns c =
    let arena = c.args.arena.now in
    let at = c.args.at in
    let values = c.args.values.now in
    let within : at + 8 ≤ length arena = c.requires in
    let eight : length values ≡ 8 = search rules in
    let part : c.write.new.words ≡ values
    = c.write.ensures ∙ sets_whole values _ (eight ∙ sym (mid_len at (at + 8) arena within ∙ omega arith)) in
    part_sets c.write.new.words arena at (at + 8) (omega arith) within (rw (part, eight) (omega arith)) ∙ rw part
