-- What each effect on the nodes keeps. A turn has at most one, and each needs of its worker only what `Act` says.
use Prim.Native.Nat.{ℕ, suc, ◌≤◌, ◌<◌}
use mathlib.Core.Path.{◌≡◌, refl, sym, ap, ◌∙◌}
use mathlib.Core.Logic.{◌⊎◌, inl, inr, ⊎_elim, ◌≢◌}
use mathlib.Core.Bool.{cond}
use native.Mathlib.Omega.{arith}
use lib.Dec.{eqb}
use borrow.Author.Tests.{eq-eqb, ne_eqb}
use Rattle.worker.specs.declared.report.Effect.{Effect}
use Rattle.worker.specs.declared.report.Effect.TheVariants.{Nothing, SetOwner, SetNext, SetMark, Fill}
use Rattle.words.specs.Layout.{node_key, node_next, node_mark, node_owner, node_length}
use Rattle.linear.proofs.Reach.{Reach, here, on, join, carry, same?, Skip, skip, skip_back}
use Rattle.linear.proofs.State.{State, shape_of, word_after}
use Rattle.linear.proofs.Promises.{Holds, in_pred, in_curr, in_spare, Live, Searching, Found, Gap, Filled, Hit, Bypassed}
use Rattle.linear.proofs.Invariant.{Inv, Range, live_held, live_next, live_chain, not_tail, on_chain}

-- a word at node n, where node p was written
pub at_node : (n p v old : ℕ) → n ≡ p → cond (eqb n p) v old ≡ v
at_node n p v old e = rw (eq-eqb n p e)

pub off_node : (n p v old : ℕ) → n ≢ p → cond (eqb n p) v old ≡ old
off_node n p v old d = rw (ne_eqb n p d)

pub written : (P : ℕ → Type 0) (n p v old : ℕ) → (n ≡ p → P v) → (n ≢ p → P old) → P (cond (eqb n p) v old)
written P n p v old at off = go (same? n p)
  where
    go : (n ≡ p) ⊎ (n ≢ p) → P (cond (eqb n p) v old)
    go (inl e) = rw (at_node n p v old e) (at e)
    go (inr d) = rw (off_node n p v old d) (off d)

-- where a number comes from that worker w holds after its turn, or that a live node leads to then
pub data Known (nodes : ℕ) (s : State) (w m : ℕ) : Type 0 where
  old : Holds (s.worker w) m → Known nodes s w m
  top : m ≡ 0 → Known nodes s w m
  far : nodes ≤ m → Known nodes s w m
  link : (k : ℕ) → Live nodes s k → m ≡ s.next k → Known nodes s w m

-- the effects, with what a worker must know to have them: a node is taken that nobody owns, or given up by its owner; a free node is
-- filled; the new node is linked in; a node is marked; a marked node is unlinked
pub data Act (nodes : ℕ) (s : State) (w : ℕ) : Effect → Type 0 where
  quiet : (s.worker w).stage ≢ 15 → Act nodes s w Nothing
  owns : {n owner : ℕ} → (s.worker w).stage ≢ 15 → (s.owner n ≡ 0) ⊎ (s.owner n ≡ suc w) → Act nodes s w (SetOwner n owner)
  fills : {n : ℕ} → (s.worker w).stage ≢ 15 → n < nodes → (Live nodes s n → ⊥) → Range (s.worker w).key →
      Gap nodes (shape_of s) w (s.worker w).key (s.worker w).pred (s.worker w).curr →
      Act nodes s w (Fill n (s.worker w).key (s.worker w).curr (s.worker w).length)
  links : (s.worker w).stage ≡ 15 → Range (s.worker w).key →
      Filled nodes s w (s.worker w).key (s.worker w).pred (s.worker w).curr (s.worker w).spare →
      Act nodes s w (SetNext (s.worker w).pred (s.worker w).spare)
  marks : (s.worker w).stage ≢ 15 → Range (s.worker w).key →
      Hit nodes (shape_of s) w (s.worker w).key (s.worker w).pred (s.worker w).curr → Act nodes s w (SetMark (s.worker w).curr)
  unlinks : (s.worker w).stage ≢ 15 → Range (s.worker w).key →
      Bypassed nodes (shape_of s) w (s.worker w).key (s.worker w).pred (s.worker w).curr (s.worker w).spare →
      Act nodes s w (SetNext (s.worker w).pred (s.worker w).spare)

-- the node that an effect fills
abbrev pub Fills : Effect → ℕ → Type 0
Fills Nothing m = ⊥
Fills (SetOwner n owner) m = ⊥
Fills (SetNext n next) m = ⊥
Fills (SetMark n) m = ⊥
Fills (Fill n key next length) m = m ≡ n

module _ {nodes : ℕ} {s : State} (inv : Inv nodes s) (w : ℕ) where
  curr_live : {e pred : ℕ} → Searching nodes (shape_of s) w e pred (s.worker w).curr → Live nodes s (s.worker w).curr
  curr_live f = live_held w (in_curr refl) f.curr_in

  -- where a removed node leads, there is a node
  pub spare_in : {e pred curr spare : ℕ} → Bypassed nodes (shape_of s) w e pred curr spare → spare < nodes
  spare_in {curr = curr} f = rw f.after (inv.shape.inside curr f.removed.stays.held.held.found.searching.curr_in)

  -- links stay among the nodes
  pub inside_after : {e : Effect} → Act nodes s w e → (n : ℕ) → n < nodes → word_after e n node_next (s.next n) < nodes
  inside_after (quiet c) n l = inv.shape.inside n l
  inside_after (owns c o) n l = inv.shape.inside n l
  inside_after (marks c r f) n l = inv.shape.inside n l
  inside_after (fills c i free r f) n l =
      written (λ m. m < nodes) n _ _ _ (λ e. f.neighbours.stay.stays.held.held.found.searching.curr_in)
      (λ d. inv.shape.inside n l)
  inside_after (links c r f) n l = written (λ m. m < nodes) n _ _ _ (λ e. f.spare_in) (λ d. inv.shape.inside n l)
  inside_after (unlinks c r f) n l = written (λ m. m < nodes) n _ _ _ (λ e. spare_in f) (λ d. inv.shape.inside n l)

  -- a live node keeps its key and its length
  pub label_after : {e : Effect} → Act nodes s w e → {n : ℕ} → Live nodes s n →
      (word_after e n node_key (s.key n) ≡ s.key n) × (word_after e n node_length (s.length n) ≡ s.length n)
  label_after (quiet c) l = (refl, refl)
  label_after (owns c o) l = (refl, refl)
  label_after (marks c r f) l = (refl, refl)
  label_after (fills c i free r f) {n} l =
      let d : n ≢ _ = λ e. free (rw e at l) in (off_node n _ _ (s.key n) d, off_node n _ _ (s.length n) d)
  label_after (links c r f) l = (refl, refl)
  label_after (unlinks c r f) l = (refl, refl)

  pub key_after : {e : Effect} → Act nodes s w e → {n : ℕ} → Live nodes s n → word_after e n node_key (s.key n) ≡ s.key n
  key_after act l = (label_after act l).0

  -- a live node leads to a live one, or to one that the worker holds
  pub leads_after : {e : Effect} → Act nodes s w e → {n : ℕ} → Live nodes s n → Known nodes s w (word_after e n node_next (s.next n))
  leads_after (quiet c) {n} l = link n l refl
  leads_after (owns c o) {n} l = link n l refl
  leads_after (marks c r f) {n} l = link n l refl
  leads_after (fills c i free r f) {n} l = link n l (off_node n _ _ _ (λ e. free (rw e at l)))
  leads_after (links c r f) {n} l = written (Known nodes s w) n _ _ _ (λ e. old (in_spare refl)) (λ d. link n l refl)
  leads_after (unlinks c r f) {n} l = written (Known nodes s w) n _ _ _ (λ e. old (in_spare refl)) (λ d. link n l refl)

  -- keys still rise
  pub rises_after : {e : Effect} → Act nodes s w e → {n : ℕ} → Live nodes s n → n ≢ 1 →
      s.key n < s.key (word_after e n node_next (s.next n))
  rises_after (quiet c) l d = inv.shape.rises _ l d
  rises_after (owns c o) l d = inv.shape.rises _ l d
  rises_after (marks c r f) l d = inv.shape.rises _ l d
  rises_after (fills c i free r f) {n} l d = rw (off_node n _ _ (s.next n) (λ e. free (rw e at l))) (inv.shape.rises n l d)
  rises_after (links c r f) {n} l d =
      written (λ m. s.key n < s.key m) n _ _ _
      (λ e. rw (e, f.has_key) f.gap.neighbours.stay.stays.held.held.found.searching.below) (λ o. inv.shape.rises n l d)
  rises_after (unlinks c r f) {n} l d =
      let found = f.removed.stays.held.held.found in
      let up = inv.shape.rises _ (curr_live found.searching) (not_tail inv.shape (omega (arith, f.removed.hit))) in
      written (λ m. s.key n < s.key m) n _ _ _
      (λ e. rw (e, f.after) (omega (arith, found.above, found.searching.below))) (λ o. inv.shape.rises n l d)

  -- pred comes before curr
  pub two_nodes : {e pred curr : ℕ} → Found nodes (shape_of s) w e pred curr → pred ≢ curr
  two_nodes f e = let same : s.key _ ≡ s.key _ = ap s.key e in omega (arith, f.above, f.searching.below)

  -- linking and unlinking: one of the two functions goes past a node
  link_skip : {e pred curr spare : ℕ} → Filled nodes s w e pred curr spare →
      Skip (λ n. cond (eqb n pred) spare (s.next n)) s.next pred spare
  link_skip {pred = pred} {spare = spare} f =
      record {
        to = at_node pred pred spare (s.next pred) refl;
        past = f.gap.neighbours.leads ∙ sym f.has_next ∙ sym (off_node spare pred spare (s.next spare) (λ e. f.not_pred (sym e)));
        apart = f.not_pred;
        off = λ n d. sym (off_node n pred spare (s.next n) d);
      }

  unlink_skip : {e pred curr spare : ℕ} → Bypassed nodes (shape_of s) w e pred curr spare →
      Skip s.next (λ n. cond (eqb n pred) spare (s.next n)) pred curr
  unlink_skip {pred = pred} {spare = spare} f =
      record {
        to = f.removed.leads;
        past = at_node pred pred spare (s.next pred) refl ∙ f.after;
        apart = two_nodes f.removed.stays.held.held.found;
        off = λ n d. off_node n pred spare (s.next n) d;
      }

  -- a run of links from a live node is kept, but one to a node that is marked
  pub run_after : {e : Effect} → Act nodes s w e → {a n : ℕ} → Live nodes s a → Reach s.next a n →
      Reach (λ m. word_after e m node_next (s.next m)) a n ⊎ (s.mark n ≢ 0)
  run_after (quiet c) l q = inl q
  run_after (owns c o) l q = inl q
  run_after (marks c r f) l q = inl q
  run_after (fills {n = x} c i free r f) l q =
      inl (carry (Live nodes s) (λ m. live_next) (λ m live. off_node m x (s.worker w).curr (s.next m) (λ e. free (rw e at live))) l q)
  run_after (links c r f) l q = inl (skip_back (link_skip f) q)
  run_after (unlinks c r f) l q = ⊎_elim (λ e. inr (rw e f.removed.marked)) inr_left (skip (unlink_skip f) q)
    where
      inr_left : {A B : Type 0} → A → A ⊎ B
      inr_left a = inl a

  -- and on the chain there is nothing else but the node that was linked in
  pub chain_before : {e : Effect} → Act nodes s w e → {n : ℕ} → Reach (λ m. word_after e m node_next (s.next m)) 0 n →
      Reach s.next 0 n ⊎ (((s.worker w).stage ≡ 15) × (n ≡ (s.worker w).spare))
  chain_before (quiet c) q = inl q
  chain_before (owns c o) q = inl q
  chain_before (marks c r f) q = inl q
  chain_before (fills {n = x} c i free r f) q =
      let same : (m : ℕ) → Live nodes s m → cond (eqb m x) (s.worker w).curr (s.next m) ≡ s.next m =
      λ m live. off_node m x (s.worker w).curr (s.next m) (λ e. free (rw e at live)) in
      inl (carry (Live nodes s) (λ m live. rw (same m live) (live_next live)) (λ m live. sym (same m live)) (live_chain (here refl)) q)
  chain_before (links c r f) q = ⊎_elim (λ e. inr (c, e)) inl (skip (link_skip f) q)
  chain_before (unlinks c r f) q = inl (skip_back (unlink_skip f) q)

  -- a marked node stays marked
  pub dead_after : {e : Effect} → Act nodes s w e → {n : ℕ} → Live nodes s n → s.mark n ≢ 0 → word_after e n node_mark (s.mark n) ≢ 0
  dead_after (quiet c) l d = d
  dead_after (owns c o) l d = d
  dead_after (marks c r f) {n} l d = written (λ m. m ≢ 0) n _ _ _ (λ e. omega arith) (λ o. d)
  dead_after (fills c i free r f) {n} l d = rw (off_node n _ _ (s.mark n) (λ e. free (rw e at l))) d
  dead_after (links c r f) l d = d
  dead_after (unlinks c r f) l d = d

  -- only its owner changes a node's link and mark
  pub touched_after : {e : Effect} → Act nodes s w e → {n : ℕ} → Live nodes s n →
      ((word_after e n node_next (s.next n) ≡ s.next n) × (word_after e n node_mark (s.mark n) ≡ s.mark n))
      ⊎ ((s.owner n ≡ suc w) × Holds (s.worker w) n)
  touched_after (quiet c) l = inl (refl, refl)
  touched_after (owns c o) l = inl (refl, refl)
  touched_after (marks c r f) {n} l =
      ⊎_elim (λ e. inr (rw e f.neighbours.stay.stays.held.owns, in_curr e)) (λ d. inl (refl, off_node n _ _ _ d))
      (same? n (s.worker w).curr)
  touched_after (fills c i free r f) {n} l =
      let d : n ≢ _ = λ e. free (rw e at l) in inl (off_node n _ _ (s.next n) d, off_node n _ _ (s.mark n) d)
  touched_after (links c r f) {n} l =
      ⊎_elim (λ e. inr (rw e f.gap.neighbours.stay.stays.held.held.owns, in_pred e)) (λ d. inl (off_node n _ _ _ d, refl))
      (same? n (s.worker w).pred)
  touched_after (unlinks c r f) {n} l =
      ⊎_elim (λ e. inr (rw e f.removed.stays.held.held.owns, in_pred e)) (λ d. inl (off_node n _ _ _ d, refl))
      (same? n (s.worker w).pred)

  -- a node is taken only from nobody, and given up only by its owner
  pub owner_after : {e : Effect} → Act nodes s w e → {n : ℕ} → Live nodes s n →
      (word_after e n node_owner (s.owner n) ≡ s.owner n) ⊎ ((s.owner n ≡ 0) ⊎ (s.owner n ≡ suc w))
  owner_after (quiet c) l = inl refl
  owner_after (owns {n = x} c o) {n} l = ⊎_elim (λ e. inr (rw e o)) (λ d. inl (off_node n _ _ _ d)) (same? n x)
  owner_after (marks c r f) l = inl refl
  owner_after (fills c i free r f) {n} l = inl (off_node n _ _ (s.owner n) (λ e. free (rw e at l)))
  owner_after (links c r f) l = inl refl
  owner_after (unlinks c r f) l = inl refl

  -- the new node of a worker at 15 is linked in, and the chain leads to it
  pub linked : {e : Effect} → Act nodes s w e → (s.worker w).stage ≡ 15 →
      Reach (λ m. word_after e m node_next (s.next m)) 0 (s.worker w).spare
  linked (quiet c) at = absurd (c at)
  linked (owns c o) at = absurd (c at)
  linked (marks c r f) at = absurd (c at)
  linked (fills c i free r f) at = absurd (c at)
  linked (links c r f) at =
      let stays = f.gap.neighbours.stay.stays in
      let chain = on_chain inv w (in_pred refl) stays.held.held.found.searching.pred_in stays.unmarked (λ h. f.not_pred) in
      join (skip_back (link_skip f) chain) (on (here (at_node (s.worker w).pred (s.worker w).pred (s.worker w).spare _ refl)))
  linked (unlinks c r f) at = absurd (c at)
