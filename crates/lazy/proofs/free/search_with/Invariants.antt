-- The invariant: the row holds what the roots lead to, of the workers passed, and as many links were read as it holds nodes.
use mathlib.Core.Path.{◌≡◌}
use lib.ListN.{length}
use Rattle.words.specs.Layout.{nodes_of}
use Rattle.words.specs.Records.{worker_at}
use Rattle.lazy.specs.Free.{roots_of}
use Rattle.lazy.specs.Row.{next_at, held, empty_row, Reaches}
use Rattle.lazy.proofs.free.search_with.Given as goal

abbrev pub invariant-loop-number : goal.invariant-loop-number
invariant-loop-number l =
    (length l.reached ≡ nodes_of l.arena.words.now)
    × (l.reads ≡ held (nodes_of l.arena.words.now) l.reached)
    × Reaches (next_at l.nodes) (nodes_of l.arena.words.now) (roots_of (worker_at l.arena.words.now) l.number) (empty_row (nodes_of l.arena.words.now)) l.reached
