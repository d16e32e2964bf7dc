-- What the search reads, a node's next word, and the row that it keeps: for each node, whether it was reached so far.
use Rattle.std.specs.Prelude.{ℕ, ◌+◌, ◌≤◌, ◌<◌, ◌≡◌, List, Bool, true, false, ◌&&◌, ◌||◌, length, get_or, replicate}
use Rattle.words.specs.Records.{node_at}
use Rattle.lazy.specs.Free.{passing, reached}

-- the next word of a node, in the part of an arena that holds the node records
abbrev pub next_at : List ℕ → ℕ → ℕ
next_at nodes node = (node_at nodes node).next

-- a row holds a node: it was reached
abbrev pub holds : List Bool → ℕ → Bool
holds row node = get_or row node false

-- how many of the first nodes it holds
abbrev pub held : ℕ → List Bool → ℕ
held count row = length (passing (holds row) count)

-- it holds every node from one on and below another; four nodes, tested
abbrev pub AllHeld : List Bool → ℕ → ℕ → Type 0
AllHeld row from to = (node : ℕ) → from ≤ node → node < to → holds row node ≡ true

abbrev pub four_held : List Bool → ℕ → Bool
four_held row node = holds row node && holds row (node + 1) && holds row (node + 2) && holds row (node + 3)

-- the row in the beginning: it holds no node
abbrev pub empty_row : ℕ → List Bool
empty_row room = replicate room false

-- a row has room for every node, and with a node it holds the one that follows
pub record Closed (next : ℕ → ℕ) (count : ℕ) (row : List Bool) : Type 0 where
  pub room : count ≤ length row
  pub follows : (node : ℕ) → node < count → holds row node ≡ true → next node < count → holds row (next node) ≡ true

-- after the walks from some roots a row holds what it held before, and what the roots lead to
pub record Reaches (next : ℕ → ℕ) (count : ℕ) (roots : List ℕ) (before after : List Bool) : Type 0 where
  pub closed : Closed next count after
  pub exact : (node : ℕ) → node < count → holds after node ≡ (holds before node || reached next count roots node)
