-- What the tests on counts say of the numbers.
use Prim.Native.Nat.{ℕ, ◌≤◌}
use mathlib.Core.Path.{◌≡◌}
use mathlib.Core.Bool.{true, and-eq-true_iff}
use borrow.Author.Tests.{le-leb}
use Rattle.worker.specs.Worker.{within}
use Rattle.worker.proofs.Laws.{range_bounds}
use Rattle.words.specs.Layout.{good_counts}

pub record Counts (workers nodes : ℕ) : Type 0 where
  pub some_workers : 1 ≤ workers
  pub few_workers : workers ≤ 8
  pub some_nodes : 3 ≤ nodes
  pub few_nodes : nodes ≤ 1024

pub counts : (workers nodes : ℕ) → good_counts workers nodes ≡ true → Counts workers nodes
counts workers nodes e =
    let both = (and-eq-true_iff (within 1 8 workers) (within 3 1024 nodes)).0 e in
    let w = range_bounds 1 8 workers both.0 in
    let n = range_bounds 3 1024 nodes both.1 in
    record { some_workers = w.0; few_workers = w.1; some_nodes = n.0; few_nodes = n.1 }

-- and the other way round
pub counts_good : {workers nodes : ℕ} → Counts workers nodes → good_counts workers nodes ≡ true
counts_good k = rw (le-leb _ _ k.some_workers, le-leb _ _ k.few_workers, le-leb _ _ k.some_nodes, le-leb _ _ k.few_nodes)
