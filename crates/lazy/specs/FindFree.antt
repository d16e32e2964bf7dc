-- find_free on an arena (document 02, A4).
use Rattle.std.specs.Prelude.{ℕ, List, [], ◌∷◌}
use Rattle.words.specs.Layout.{workers_of, nodes_of}
use Rattle.words.specs.Records.{worker_at}
use Rattle.words.specs.Replies.{Reply, or_none, replied}
use Rattle.words.specs.Header.{header_refusals}
use Rattle.arena.specs.Sets.{node_in}
use Rattle.lazy.specs.Free.{roots_of, found_by}
use Rattle.lazy.specs.declared.Found.{Found}

-- the links and the roots of an arena
abbrev pub next_in : List ℕ → ℕ → ℕ
next_in arena node = (node_in arena node).next

abbrev pub roots_in : List ℕ → List ℕ
roots_in arena = roots_of (worker_at arena) (workers_of arena)

-- what the search comes to on an arena
abbrev pub found_in : List ℕ → Found
found_in arena = found_by (next_in arena) (nodes_of arena) (roots_in arena)

-- in numbers: the lowest-numbered free node, or 65,535 for none, and how many next words were read
abbrev pub found_values : Found → List ℕ
found_values it = or_none it.free ∷ it.reads ∷ []

-- order: 1, 2, 12
unfoldable pub find_free_answer : List ℕ → Reply
find_free_answer arena = replied (header_refusals arena) (found_values (found_in arena))
