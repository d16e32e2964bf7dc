-- Zeros, and then the three words that are none.
use Rattle.arena.proofs.FreshLaws.{fresh_laid}
use Rattle.arena.proofs.fresh.write_nodes.Goals as goal

pub returns : goal.returns
returns c =
    rw (
      c.put-3.ensures,
      c.tail-2.ensures,
      c.slot-3.ensures,
      c.put-2.ensures,
      c.tail.ensures,
      c.slot-2.ensures,
      c.put.ensures,
      c.head.ensures,
      c.slot.ensures,
      c.clear.ensures,
      c.requires.1,
    )
    (fresh_laid c.args.count c.requires.0)
