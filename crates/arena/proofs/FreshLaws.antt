-- Laws of a fresh arena.
use Prim.Native.Nat.{ℕ, ◌+◌, ◌*◌, ◌-◌, ◌≤◌, zero-le}
use mathlib.Core.Path.{◌≡◌, refl}
use mathlib.Core.List.{List, [], ◌++◌}
use mathlib.Core.Bool.{true}
use native.Mathlib.Omega.{arith}
use native.Mathlib.Nat.{zero-add}
use lib.ListN.{length, drop, set, replicate, length-append, replicate-append-replicate}
use lib.Seq.{sets, sets-eq}
use borrow.Author.Tests.{not-false, ltb-false}
use Rattle.worker.specs.Worker.{idle_worker}
use Rattle.worker.specs.Node.{head, tail, tail_node, unused_node}
use Rattle.words.specs.Layout.{header_width, layout2, worker_from, slot, node_key, node_next, node_width, header_words, total, good_counts}
use Rattle.words.specs.Records.{worker_words, node_words}
use Rattle.words.specs.Replies.{accepted, replied}
use Rattle.words.specs.Header.{header_refusals}
use Rattle.words.proofs.Bounds.{counts}
use Rattle.words.proofs.Laid.{laid_long, passes}
use Rattle.words.proofs.Judged.{none_holds}
use Rattle.words.proofs.Runs.{sets_append, length_copies, flat_copies}
use Rattle.arena.specs.Init.{fresh_workers, fresh_nodes, fresh_words, init_refusals}

-- the nodes begin where the workers end
pub nodes_place : (workers nodes : ℕ) → length (header_words workers nodes 0 ++ fresh_workers workers) ≡ worker_from workers
unfolding header_words fresh_workers
nodes_place workers nodes = simp (length_copies workers (worker_words idle_worker)) (omega arith)

-- header, workers and nodes, written one after the other, are a fresh arena
pub fresh_runs : (arena : List ℕ) (workers nodes : ℕ) →
    sets (sets (sets arena 0 (header_words workers nodes 0)) header_width (fresh_workers workers)) (worker_from workers) (fresh_nodes nodes)
    ≡ sets arena 0 (fresh_words workers nodes)
unfolding fresh_words header_words
fresh_runs arena workers nodes =
    let header = header_words workers nodes 0 in
    rw (
      sets_append (header ++ fresh_workers workers) (fresh_nodes nodes) arena 0,
      zero-add,
      nodes_place workers nodes,
      sets_append header (fresh_workers workers) arena 0,
    )

pub fresh_nodes_length : (nodes : ℕ) → 2 ≤ nodes → length (fresh_nodes nodes) ≡ node_width * nodes
unfolding fresh_nodes
fresh_nodes_length nodes some = simp (length_copies (nodes - 2) (node_words unused_node)) (omega arith)

pub fresh_length : (workers nodes : ℕ) → 2 ≤ nodes → length (fresh_words workers nodes) ≡ total workers nodes
unfolding fresh_words fresh_workers header_words
fresh_length workers nodes h =
    simp (length-append, length_copies workers (worker_words idle_worker), fresh_nodes_length nodes h) (omega arith)

-- zeros, and the three words of Head and Tail that are none, are the fresh nodes
module _ (nodes : ℕ) (some : 2 ≤ nodes) where
  abbrev laid : List ℕ
  laid =
      set (set (set (replicate (node_width * nodes) 0) (slot node_width head node_next) tail) (slot node_width tail node_key) tail_node.key)
      (slot node_width tail node_next) tail

  pub fresh_laid : laid ≡ fresh_nodes nodes
  unfolding fresh_nodes
  fresh_laid =
      let others = nodes - 2 in
      let words : 5 * nodes ≡ 10 + 5 * others = omega arith in
      rw (words, ← replicate-append-replicate {A = ℕ} 10 (5 * others) 0, flat_copies others 5 0)

-- what an init that is not refused may count on
pub init_passed : (arena : List ℕ) (workers nodes : ℕ) → accepted [] ≡ replied (init_refusals arena workers nodes) [] →
    (good_counts workers nodes ≡ true) × (total workers nodes ≤ length arena)
unfolding init_refusals
init_passed arena workers nodes e =
    let none = none_holds (init_refusals arena workers nodes) [] e in
    (not-false _ none.0, ltb-false _ _ none.1.0)

pub init_words : (arena : List ℕ) (workers nodes : ℕ) → accepted [] ≡ replied (init_refusals arena workers nodes) [] →
    sets arena 0 (fresh_words workers nodes) ≡ fresh_words workers nodes ++ drop (total workers nodes) arena
init_words arena workers nodes e =
    let p = init_passed arena workers nodes e in
    let k = counts workers nodes p.0 in
    let l = fresh_length workers nodes (omega arith) in
    rw (sets-eq (fresh_words workers nodes) arena 0 (omega arith), zero-add, l)

-- a fresh arena passes the header test, whatever words stand behind it
pub fresh_header : (workers nodes : ℕ) (past : List ℕ) → good_counts workers nodes ≡ true →
    replied (header_refusals (fresh_words workers nodes ++ past)) [] ≡ accepted []
unfolding fresh_words fresh_workers header_words
fresh_header workers nodes past good =
    let known = counts workers nodes good in
    let idle = length_copies workers (worker_words idle_worker) in
    let long = fresh_nodes_length nodes (omega (arith, known)) in
    passes (fresh_words workers nodes ++ past)
    (laid_long layout2 node_width workers nodes 0 (fresh_workers workers) (fresh_nodes nodes) past idle long)
    (workers, nodes, 0, good, zero-le, refl)
