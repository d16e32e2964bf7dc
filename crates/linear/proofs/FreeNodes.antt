-- A free node that the search finds is not live.
use Prim.Native.Nat.{ℕ, zero, suc, ◌≤◌, ◌<◌}
use mathlib.Core.Path.{◌≡◌, ap, ◌∙◌}
use mathlib.Core.List.{[], ◌∷◌, Memᴰ}
use native.Mathlib.Omega.{arith}
use native.Mathlib.Decide.{ℕ_discrete, dec_lt}
use Rattle.worker.specs.Worker.{idle_worker}
use Rattle.worker.specs.declared.Worker.{Worker}
use Rattle.std.specs.Prelude.{Some}
use Rattle.lazy.specs.Free.{roots_of, Run, here as stays, on as goes, lowest_free}
use Rattle.lazy.proofs.FreeLaws.{lowest_found}
use Rattle.linear.proofs.Reach.{Reach, here, on}
use Rattle.linear.proofs.State.{State}
use Rattle.linear.proofs.Promises.{Holds, in_pred, in_curr, in_spare, Root, head, tail, held, Live}
use Rattle.linear.proofs.Invariant.{Inv}

-- what an idle worker holds is 65,535, the number of no node
pub idle_holds : {w : Worker} {n : ℕ} → w ≡ idle_worker → Holds w n → n ≡ 65535
idle_holds idle (in_pred e) = e ∙ ap (λ (w : Worker). w.pred) idle
idle_holds idle (in_curr e) = e ∙ ap (λ (w : Worker). w.curr) idle
idle_holds idle (in_spare e) = e ∙ ap (λ (w : Worker). w.spare) idle

module _ (worker : ℕ → Worker) where
  -- a root is still one with one more worker
  root_stays : (count : ℕ) {n : ℕ} → Memᴰ n (roots_of worker count) → Memᴰ n (roots_of worker (suc count))
  unfolding roots_of
  root_stays count m = Memᴰ.tail (Memᴰ.tail (Memᴰ.tail m))

  -- Head and Tail are roots
  two_roots : (count : ℕ) {n : ℕ} → Memᴰ n (0 ∷ 1 ∷ []) → Memᴰ n (roots_of worker count)
  unfolding roots_of
  two_roots zero m = m
  two_roots (suc count) m = root_stays count (two_roots count m)

  -- so is what a worker holds
  held_root : (count v : ℕ) {n : ℕ} → v < count → Holds (worker v) n → Memᴰ n (roots_of worker count)
  unfolding roots_of
  held_root zero v there h = absurd (omega arith)
  held_root (suc count) v {n} there h =
      elim (ℕ_discrete v count) [ yes q ↦ last (rw q at h) | no q ↦ root_stays count (held_root count v (omega arith) h) ]
    where
      last : Holds (worker count) n → Memᴰ n (roots_of worker (suc count))
      last (in_pred e) = Memᴰ.head e
      last (in_curr e) = Memᴰ.tail (Memᴰ.head e)
      last (in_spare e) = Memᴰ.tail (Memᴰ.tail (Memᴰ.head e))

-- where links lead from nodes to nodes, what they reach from a node, a run leads to
run_of : {next : ℕ → ℕ} {count a b : ℕ} → ((n : ℕ) → n < count → next n < count) → a < count → Reach next a b → Run next count a b
run_of inside there (here e) = rw (← e) (stays there)
run_of {a} inside there (on r) = goes there (run_of inside (inside a there) r)

-- a live node is reached, and a free one is not
pub free_not_live : {nodes : ℕ} {s : State} → Inv nodes s → (workers : ℕ) → ((v : ℕ) → workers ≤ v → s.worker v ≡ idle_worker) →
    {n : ℕ} → lowest_free s.next nodes (roots_of s.worker workers) ≡ Some n → (n < nodes) × (Live nodes s n → ⊥)
free_not_live {nodes} {s} inv workers idle e =
    let found = (lowest_found s.next nodes (roots_of s.worker workers) e).0 in (
      found.below,
      λ live.
          let root = among live.root in
          found.unreached (live.from, root.0, run_of inv.shape.inside root.1 live.run),
    )
  where
    among : {m : ℕ} → Root nodes s m → Memᴰ m (roots_of s.worker workers) × (m < nodes)
    among (head z) = (two_roots s.worker workers (Memᴰ.head z), omega (arith, inv.shape.room))
    among (tail z) = (two_roots s.worker workers (Memᴰ.tail (Memᴰ.head z)), omega (arith, inv.shape.room))
    among (held v h l) =
        elim (dec_lt v workers) [
          | yes there ↦ (held_root s.worker workers v there h, l)
          | no gone ↦ absurd (omega (arith, idle_holds (idle v (omega arith)) h, inv.shape.cap))
        ]
