-- Which nodes are free, the lowest of them, and how many are not (document 01: the hunt; document 02, A4).
use Rattle.std.specs.Prelude.{ℕ, zero, suc, ◌<◌, Bool, false, cond, ◌&&◌, ◌||◌, length, ltb, eqb, Option, Some, None}
use Rattle.std.specs.List.{filter}
use mathlib.Core.List.{List, [], ◌∷◌, Memᴰ}
use Rattle.worker.specs.Node.{head, tail}
use Rattle.worker.specs.declared.Worker.{Worker}
use Rattle.lazy.specs.declared.Found.{Found}

-- the roots: node 0, node 1, and the pred, curr and spare of every worker
unfoldable pub roots_of : (ℕ → Worker) → ℕ → List ℕ
roots_of workers zero = head ∷ tail ∷ []
roots_of workers (suc count) =
    (workers count).pred ∷ (workers count).curr ∷ (workers count).spare ∷ roots_of workers count

-- the lowest of so many nodes from `node` on that does not pass a test
unfoldable pub lowest_from : (ℕ → Bool) → ℕ → ℕ → Option ℕ
lowest_from test zero node = None
lowest_from test (suc left) node = let onward = lowest_from test left (suc node) in cond (test node) onward (Some node)

-- the first so many nodes, from the highest
unfoldable pub nodes_below : ℕ → List ℕ
nodes_below zero = []
nodes_below (suc count) = count ∷ nodes_below count

-- those of them that pass a test
abbrev pub passing : (ℕ → Bool) → ℕ → List ℕ
passing test count = filter test (nodes_below count)

module _ (next : ℕ → ℕ) (count : ℕ) where
  -- a run of next links leads from a node to another: a run of no links counts, a number of N or more is no node and leads nowhere
  pub data Run : ℕ → ℕ → Type 0 where
    here : {node : ℕ} → node < count → Run node node
    on : {from node : ℕ} → from < count → Run (next from) node → Run from node

  -- some run leads to a node from one of the roots
  abbrev pub Reached : List ℕ → ℕ → Type 0
  Reached roots node = (root : ℕ) × Memᴰ root roots × Run root node

  -- a node is free when none does
  pub record IsFree (roots : List ℕ) (node : ℕ) : Type 0 where
    pub below : node < count
    pub unreached : Reached roots node → ⊥

  -- The same, tested: a run of at most so many links. Longer runs than N reach nothing more (`FreeLaws.run_leads`).
  unfoldable pub leads : ℕ → ℕ → ℕ → Bool
  leads zero from node = eqb from node
  leads (suc links) from node =
      let onward = leads links (next from) node in eqb from node || (ltb from count && onward)

  -- reached, tested: of a node, the same as `Reached` (`FreeLaws.reached_exact`)
  unfoldable pub reached : List ℕ → ℕ → Bool
  reached [] node = false
  reached (root ∷ roots) node = let others = reached roots node in leads count root node || others

  -- the lowest-numbered free node
  unfoldable pub lowest_free : List ℕ → Option ℕ
  lowest_free roots = lowest_from (reached roots) count 0

  -- the nodes that are not free (`FreeLaws.not_free_exact`)
  unfoldable pub not_free : List ℕ → List ℕ
  not_free roots = passing (reached roots) count

  -- what the search comes to: the lowest-numbered free node, and one next word read for each node that is not free
  abbrev pub found_by : List ℕ → Found
  found_by roots = record { free = lowest_free roots; reads = length (not_free roots) }
