-- What a turn may see besides the worker's own record.
use Rattle.std.specs.Prelude.{ℕ, Option}
use Rattle.worker.specs.declared.Node.{Node}

-- how many nodes there are, the nodes that pred and curr name, and a free one, if there is one
pub record Seen : Type 0 where
  pub count : ℕ
  pub pred : Node
  pub curr : Node
  pub free : Option ℕ
