-- The state after a worker's step: which nodes are live, how they stand, and what the other workers see.
use Prim.Native.Nat.{ℕ, suc, ◌≤◌, ◌<◌}
use mathlib.Core.Path.{◌≡◌, refl, sym, ap, subst, ◌∙◌}
use mathlib.Core.Logic.{◌⊎◌, inl, inr, ⊎_elim, ◌≢◌}
use native.Mathlib.Omega.{arith}
use borrow.Author.Tests.{eq-eqb, ne_eqb}
use Rattle.worker.specs.declared.Worker.{Worker}
use Rattle.worker.specs.declared.report.Step.{Step}
use Rattle.worker.specs.declared.report.Effect.{Effect}
use Rattle.words.specs.Layout.{node_key, node_next}
use Rattle.linear.proofs.Reach.{here, along, same?}
use Rattle.linear.proofs.State.{State, word_after, stepped}
use Rattle.linear.proofs.Promises.{Holds, in_curr, Root, head, tail, held, Live}
use Rattle.linear.proofs.Invariant.{Stands, dead, chained, new, Nodes, Inv, live_held, live_next, live_chain, live_tail, live_in, not_tail}
use Rattle.linear.proofs.Effects.{Known, old, top, far, link, Act, quiet, owns, fills, links, marks, unlinks, Fills, at_node, off_node, written, inside_after, label_after, key_after, leads_after, rises_after, run_after, dead_after, touched_after, owner_after, linked}

-- what the worker holds after its step it held, or read, or has filled; and a node that it has filled is its new one at 15
pub record Places (nodes : ℕ) (s : State) (w : ℕ) (step : Step) : Type 0 where
  pub known : (m : ℕ) → Holds step.worker m → Known nodes s w m ⊎ Fills step.effect m
  pub fresh : (m : ℕ) → Fills step.effect m → (step.worker.stage ≡ 15) × (m ≡ step.worker.spare)

-- what the others see of a step of worker w
pub record View (nodes : ℕ) (s t : State) (w : ℕ) : Type 0 where
  pub others : (v : ℕ) → v ≢ w → t.worker v ≡ s.worker v
  pub labels : (n : ℕ) → Live nodes s n → (t.key n ≡ s.key n) × (t.length n ≡ s.length n)
  pub touched : (n : ℕ) → Live nodes s n →
      ((t.next n ≡ s.next n) × (t.mark n ≡ s.mark n)) ⊎ ((s.owner n ≡ suc w) × Holds (s.worker w) n)
  pub taken : (n : ℕ) → Live nodes s n → (t.owner n ≡ s.owner n) ⊎ ((s.owner n ≡ 0) ⊎ (s.owner n ≡ suc w))
  pub leads : (m : ℕ) → Live nodes t m → Known nodes s w (t.next m)
  pub places : (m : ℕ) → Holds (t.worker w) m → Known nodes s w m ⊎ (Live nodes s m → ⊥)

module _ {nodes : ℕ} {s : State} (inv : Inv nodes s) (w : ℕ) {step : Step} (act : Act nodes s w step.effect)
    (placed : Places nodes s w step) where
  abbrev t : State
  t = stepped s w step

  live_known : {m : ℕ} → Known nodes s w m → m < nodes → Live nodes s m
  live_known (old h) l = live_held w h l
  live_known {m} (top e) l = live_chain (here (sym e))
  live_known (far h) l = absurd (omega arith)
  live_known (link k a e) l = rw e (live_next a)

  pub others_after : (v : ℕ) → v ≢ w → t.worker v ≡ s.worker v
  others_after v d = rw (ne_eqb v w d)

  pub own_after : t.worker w ≡ step.worker
  own_after = rw (eq-eqb w w refl)

  filled_known : (e : Effect) → Act nodes s w e → {m : ℕ} → Fills e m →
      Known nodes s w (word_after e m node_next (s.next m)) × (m < nodes) × (Live nodes s m → ⊥)
      × (word_after e m node_key (s.key m) < s.key (word_after e m node_next (s.next m)))
  filled_known e (quiet c) f = absurd f
  filled_known e (owns c o) f = absurd f
  filled_known e (marks c r p) f = absurd f
  filled_known e (fills c i free r p) {m} f =
      (old (in_curr (at_node m _ _ _ f)), rw f i, rw f free, rw (at_node m _ _ (s.key m) f, at_node m _ _ (s.next m) f) p.above)
  filled_known e (links c r p) f = absurd f
  filled_known e (unlinks c r p) f = absurd f

  -- a node that is live or filled leads to a live one
  onward : (m : ℕ) → Live nodes s m ⊎ Fills step.effect m → Live nodes s (t.next m)
  onward m (inl l) = live_known (leads_after inv w act l) (inside_after inv w act m (live_in inv.shape l))
  onward m (inr f) = let filled = filled_known step.effect act f in live_known filled.0 (inside_after inv w act m filled.1)

  -- nothing comes to life but the node that is filled
  pub live_after : {n : ℕ} → Live nodes t n → Live nodes s n ⊎ Fills step.effect n
  live_after l = along (λ m. Live nodes s m ⊎ Fills step.effect m) (λ m h. inl (onward m h)) (from l.root) l.run
    where
      mine : {m : ℕ} → m < nodes → Known nodes s w m ⊎ Fills step.effect m → Live nodes s m ⊎ Fills step.effect m
      mine i (inl k) = inl (live_known k i)
      mine i (inr f) = inr f

      from : {m : ℕ} → Root nodes t m → Live nodes s m ⊎ Fills step.effect m
      from (head e) = inl (live_chain (here (sym e)))
      from (tail e) = inl (rw e live_tail)
      from {m} (held v h i) = go (same? v w)
        where
          go : (v ≡ w) ⊎ (v ≢ w) → Live nodes s m ⊎ Fills step.effect m
          go (inl e) = mine i (placed.known m (rw (e, own_after) at h))
          go (inr d) = inl (live_held v (rw (others_after v d) at h) i)

  pub view_after : View nodes s t w
  view_after =
      record {
        others = others_after;
        labels = λ n l. label_after inv w act l;
        touched = λ n l. touched_after inv w act l;
        taken = λ n l. owner_after inv w act l;
        leads = λ m l. leads m (live_after l);
        places = λ m h. places m (placed.known m (rw own_after at h));
      }
    where
      leads : (m : ℕ) → Live nodes s m ⊎ Fills step.effect m → Known nodes s w (t.next m)
      leads m (inl l) = leads_after inv w act l
      leads m (inr f) = (filled_known step.effect act f).0

      places : (m : ℕ) → Known nodes s w m ⊎ Fills step.effect m → Known nodes s w m ⊎ (Live nodes s m → ⊥)
      places m (inl k) = inl k
      places m (inr f) = inr (filled_known step.effect act f).2

  small_after : (e : Effect) → Act nodes s w e → (n : ℕ) → word_after e n node_key (s.key n) ≤ 65535
  small_after e (quiet c) n = inv.shape.small n
  small_after e (owns c o) n = inv.shape.small n
  small_after e (marks c r p) n = inv.shape.small n
  small_after e (fills c i free r p) n = written (λ k. k ≤ 65535) n _ _ _ (λ q. omega arith) (λ d. inv.shape.small n)
  small_after e (links c r p) n = inv.shape.small n
  small_after e (unlinks c r p) n = inv.shape.small n

  not_pred : {p key : ℕ} → s.key p < key → key < 65535 → 1 ≢ p
  not_pred below high e = not_tail inv.shape (omega arith) (sym e)

  tail_after : (e : Effect) → Act nodes s w e → word_after e 1 node_next (s.next 1) ≡ 1
  tail_after e (quiet c) = inv.shape.tail_next
  tail_after e (owns c o) = inv.shape.tail_next
  tail_after e (marks c r p) = inv.shape.tail_next
  tail_after e (fills c i free r p) = off_node 1 _ _ (s.next 1) (λ q. free (subst (Live nodes s) q live_tail)) ∙ inv.shape.tail_next
  tail_after e (links c r p) =
      off_node 1 _ _ _ (not_pred p.gap.neighbours.stay.stays.held.held.found.searching.below r.1) ∙ inv.shape.tail_next
  tail_after e (unlinks c r p) =
      off_node 1 _ _ _ (not_pred p.removed.stays.held.held.found.searching.below r.1) ∙ inv.shape.tail_next

  pub shape_after : Nodes nodes t
  shape_after =
      record {
        room = inv.shape.room;
        cap = inv.shape.cap;
        head_key = key_after inv w act (live_chain (here refl)) ∙ inv.shape.head_key;
        tail_key = key_after inv w act live_tail ∙ inv.shape.tail_key;
        tail_next = tail_after step.effect act;
        inside = inside_after inv w act;
        small = small_after step.effect act;
        rises = λ n l d. rises n d (live_after l);
      }
    where
      rises : (n : ℕ) → n ≢ 1 → Live nodes s n ⊎ Fills step.effect n → t.key n < t.key (t.next n)
      rises n d (inl l) = rw (key_after inv w act l, key_after inv w act (onward n (inl l))) (rises_after inv w act l d)
      rises n d (inr f) = rw (key_after inv w act (onward n (inr f))) (filled_known step.effect act f).3

  pub stands_after : (n : ℕ) → Live nodes t n → Stands t n
  stands_after n live = by (live_after live)
    where
      go : Live nodes s n → Stands s n → Stands t n
      go l (dead d) = dead (dead_after inv w act l d)
      go l (chained r) =
          ⊎_elim chained (λ d. dead (dead_after inv w act l d)) (run_after inv w act (live_chain (here refl)) r)
      go l (new v e q) = at_v (same? v w)
        where
          at_v : (v ≡ w) ⊎ (v ≢ w) → Stands t n
          at_v (inl p) = chained (rw (q ∙ ap (λ u. (s.worker u).spare) p) (linked inv w act (ap (λ u. (s.worker u).stage) (sym p) ∙ e)))
          at_v (inr d) =
              new v (ap (λ (r : Worker). r.stage) (others_after v d) ∙ e) (q ∙ ap (λ (r : Worker). r.spare) (sym (others_after v d)))

      by : Live nodes s n ⊎ Fills step.effect n → Stands t n
      by (inl l) = go l (inv.stands n l)
      by (inr f) =
          let fresh = placed.fresh n f in
          new w (ap (λ (r : Worker). r.stage) own_after ∙ fresh.0) (fresh.1 ∙ ap (λ (r : Worker). r.spare) (sym own_after))
