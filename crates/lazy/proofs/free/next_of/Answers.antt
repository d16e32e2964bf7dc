-- The word read is the node's next.
use Rattle.words.specs.Records.{node_at}
use Rattle.lazy.proofs.free.next_of.Goals as goal

pub returns : goal.returns
unfolding node_at
returns c = rw c.slot.ensures
