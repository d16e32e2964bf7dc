-- The node record (document 01: key, next, mark, owner; document 02, A2: length) and the three nodes that a fresh arena is made of.
use Rattle.std.specs.Prelude.{ℕ}
use Rattle.worker.specs.declared.Node.{Node}

-- Head is node 0, Tail is node 1, and none is 65,535
abbrev pub head : ℕ
head = 0

abbrev pub tail : ℕ
tail = 1

abbrev pub no_node : ℕ
no_node = 65535

-- a node that nobody has marked or owns
abbrev pub new_node : ℕ → ℕ → ℕ → Node
new_node key next length = record { key = key; next = next; mark = 0; owner = 0; length = length }

-- a node with another length
abbrev pub with_length : Node → ℕ → Node
with_length n length = record { key = n.key; next = n.next; mark = n.mark; owner = n.owner; length = length }

-- a node but for its length, which no turn and no walk along the chain looks at
abbrev pub without_length : Node → Node
without_length n = with_length n 0

-- Head's key is 0 and its next 1, Tail's key 65,535 and its next 1; every length is 0
abbrev pub head_node : Node
head_node = new_node 0 tail 0

abbrev pub tail_node : Node
tail_node = new_node 65535 tail 0

-- all other nodes of a fresh arena: zeros
abbrev pub unused_node : Node
unused_node = new_node 0 0 0
