-- longest_free_run on an arena.
use Rattle.std.specs.Prelude.{ℕ, List, [], ◌∷◌, ◌++◌, not}
use Rattle.worker.specs.Worker.{within}
use Rattle.worker.specs.Refusals.{Test}
use Rattle.worker.specs.declared.Node.{Node}
use Rattle.worker.specs.declared.refusal.Refusal.TheVariants.{BadCall}
use Rattle.words.specs.Layout.{nodes_of}
use Rattle.words.specs.Replies.{Reply, replied}
use Rattle.words.specs.Header.{header_refusals}
use Rattle.arena.specs.Sets.{node_in, set_of}
use Rattle.arena.specs.Snapshot.{chain_broken}
use Rattle.free_cells.specs.declared.FreeRun.{FreeRun}
use Rattle.free_cells.specs.Search.{longest_free}

-- what is given: the first cell, and the length
abbrev pub run_values : FreeRun → List ℕ
run_values run = run.first ∷ run.length ∷ []

-- behind the header test: a last cell that is not 1 to 65,534: 5; a broken chain, as for the roll: 7
unfoldable pub cells_refusals : (ℕ → Node) → ℕ → ℕ → List Test
cells_refusals nodes count last = (not (within 1 65534 last), BadCall) ∷ chain_broken nodes count ∷ []

-- order: 1, 2, 12, 5, 7
unfoldable pub longest_free_run_refusals : List ℕ → ℕ → List Test
longest_free_run_refusals arena last = header_refusals arena ++ cells_refusals (node_in arena) (nodes_of arena) last

-- the longest run of the cells from 1 to the last that lie in no label of the set
unfoldable pub longest_free_run_answer : List ℕ → ℕ → Reply
longest_free_run_answer arena last = replied (longest_free_run_refusals arena last) (run_values (longest_free (set_of arena) last))
