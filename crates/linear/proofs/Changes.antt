-- What an effect does to the set, and to what is ahead of a look-up.
use Prim.Native.Nat.{ℕ}
use mathlib.Core.Path.{◌≡◌, refl, sym, ap, subst, ◌∙◌}
use mathlib.Core.Logic.{◌⊎◌, inl, inr, ⊎_elim, ⊎_map, ◌≢◌}
use native.Mathlib.Omega.{arith}
use Rattle.worker.specs.declared.report.Step.{Step}
use Rattle.worker.specs.declared.report.Effect.{Effect}
use Rattle.words.specs.Layout.{node_mark}
use Rattle.linear.proofs.Reach.{Reach, here, same?}
use Rattle.linear.proofs.State.{State, shape_of, word_after, stepped}
use Rattle.linear.proofs.Promises.{in_pred, in_curr, in_spare, Live, PredStays, Filled, Hit}
use Rattle.linear.proofs.Invariant.{In, Ahead, Inv, Range, live_held, live_chain, not_head, not_tail, once, absent, on_chain}
use Rattle.linear.proofs.Effects.{Act, quiet, owns, fills, links, marks, unlinks, at_node, off_node, label_after, key_after, run_after, chain_before, dead_after, linked}

-- the effects that keep the set, the one that adds to it, and the one that takes from it
abbrev pub Keeps : {nodes : ℕ} {s : State} {w : ℕ} {e : Effect} → Act nodes s w e → Type 0
Keeps (quiet c) = Unit {0}
Keeps (owns c o) = Unit {0}
Keeps (fills c i free r f) = Unit {0}
Keeps (links c r f) = ⊥
Keeps (marks c r f) = ⊥
Keeps (unlinks c r f) = Unit {0}

abbrev pub Adds : {nodes : ℕ} {s : State} {w : ℕ} {e : Effect} → Act nodes s w e → Type 0
Adds (quiet c) = ⊥
Adds (owns c o) = ⊥
Adds (fills c i free r f) = ⊥
Adds (links c r f) = Unit {0}
Adds (marks c r f) = ⊥
Adds (unlinks c r f) = ⊥

abbrev pub Takes : {nodes : ℕ} {s : State} {w : ℕ} {e : Effect} → Act nodes s w e → Type 0
Takes (quiet c) = ⊥
Takes (owns c o) = ⊥
Takes (fills c i free r f) = ⊥
Takes (links c r f) = ⊥
Takes (marks c r f) = Unit {0}
Takes (unlinks c r f) = ⊥

-- one of two holds, where the other does not
the_first : {A B : Type 0} → (B → ⊥) → A ⊎ B → A
the_first not = ⊎_elim (λ a. a) (λ b. absurd (not b))

module _ {nodes : ℕ} {s : State} {w : ℕ} where
  -- an effect that adds no key is not one of stage 15
  not_linking : {e : Effect} (act : Act nodes s w e) → Keeps act ⊎ Takes act → (s.worker w).stage ≢ 15
  not_linking (quiet c) k = c
  not_linking (owns c o) k = c
  not_linking (fills c i free r f) k = c
  not_linking (links c r f) k = absurd (⊎_elim (λ x. x) (λ x. x) k)
  not_linking (marks c r f) k = c
  not_linking (unlinks c r f) k = c

  -- where a key is added, the worker is at 15
  pub linking : {e : Effect} (act : Act nodes s w e) → Adds act →
      Filled nodes s w (s.worker w).key (s.worker w).pred (s.worker w).curr (s.worker w).spare × ((s.worker w).stage ≡ 15)
  linking (quiet c) k = absurd k
  linking (owns c o) k = absurd k
  linking (fills c i free r f) k = absurd k
  linking (links c r f) k = (f, c)
  linking (marks c r f) k = absurd k
  linking (unlinks c r f) k = absurd k

  -- and nowhere else
  adding : {e : Effect} (act : Act nodes s w e) → (s.worker w).stage ≡ 15 → Adds act
  adding (quiet c) at = c at
  adding (owns c o) at = c at
  adding (fills c i free r f) at = c at
  adding (links c r f) at = tt
  adding (marks c r f) at = c at
  adding (unlinks c r f) at = c at

  -- where a key is taken, curr is then marked
  marking : {e : Effect} (act : Act nodes s w e) → Takes act →
      Range (s.worker w).key
      × Hit nodes (shape_of s) w (s.worker w).key (s.worker w).pred (s.worker w).curr
      × (word_after e (s.worker w).curr node_mark (s.mark (s.worker w).curr) ≢ 0)
  marking (quiet c) k = absurd k
  marking (owns c o) k = absurd k
  marking (fills c i free r f) k = absurd k
  marking (links c r f) k = absurd k
  marking (marks c r f) k = (r, f, rw (at_node (s.worker w).curr _ 1 (s.mark _) refl) (omega arith))
  marking (unlinks c r f) k = absurd k

  -- the effect takes this key
  abbrev Taken : {e : Effect} → Act nodes s w e → ℕ → Type 0
  Taken act key = Takes act × (Keeps act ⊎ Adds act → ⊥) × (key ≡ (s.worker w).key)

  -- a live node keeps its mark, but one whose key is taken
  mark_after : {e : Effect} (act : Act nodes s w e) {n : ℕ} → Live nodes s n →
      (word_after e n node_mark (s.mark n) ≡ s.mark n) ⊎ Taken act (s.key n)
  mark_after (quiet c) l = inl refl
  mark_after (owns c o) l = inl refl
  mark_after (fills c i free r f) {n} l = inl (off_node n _ _ (s.mark n) (λ e. free (rw e at l)))
  mark_after (links c r f) l = inl refl
  mark_after (marks c r f) {n} l =
      ⊎_elim (λ e. inr (tt, ⊎_elim (λ x. x) (λ x. x), rw e f.hit)) (λ d. inl (off_node n _ _ _ d)) (same? n (s.worker w).curr)
  mark_after (unlinks c r f) l = inl refl

module _ {nodes : ℕ} {s : State} (inv : Inv nodes s) (w : ℕ) (step : Step) (act : Act nodes s w step.effect) where
  -- a run from a live node to one without a mark is kept
  run_kept : {a n : ℕ} → Live nodes s a → s.mark n ≡ 0 → Reach s.next a n → Reach (stepped s w step).next a n
  run_kept live unmarked run = the_first (λ marked. marked unmarked) (run_after inv w act live run)

  -- a key of the set that is ahead of a live node stays so, unless it is taken
  ahead_kept : {from key : ℕ} → Live nodes s from → (i : In s key) → Reach s.next from i.node →
      Ahead (stepped s w step) from key ⊎ Taken act key
  ahead_kept {from} {key} live i run = ⊎_map ahead (λ taken. rw i.has_key at taken) (mark_after act (live_chain i.chain))
    where
      ahead : (stepped s w step).mark i.node ≡ s.mark i.node → Ahead (stepped s w step) from key
      ahead same =
          let inside : In (stepped s w step) key =
          record {
            node = i.node;
            chain = run_kept (live_chain (here refl)) i.unmarked i.chain;
            not_head = i.not_head;
            not_tail = i.not_tail;
            unmarked = same ∙ i.unmarked;
            has_key = key_after inv w act (live_chain i.chain) ∙ i.has_key;
          } in
          record { inside = inside; run = run_kept live i.unmarked run }

  -- so a key of the set stays in it, as it is ahead of Head
  kept : {key : ℕ} → In s key → In (stepped s w step) key ⊎ Taken act key
  kept i = ⊎_map (λ ahead. ahead.inside) (λ taken. taken) (ahead_kept (live_chain (here refl)) i i.chain)

  -- a key that is in the set now was in it, if its node was on the chain
  abbrev before : {key : ℕ} (i : In (stepped s w step) key) → Reach s.next 0 i.node → In s key
  before i chain =
      record {
        node = i.node;
        chain = chain;
        not_head = i.not_head;
        not_tail = i.not_tail;
        unmarked = the_first (λ marked. dead_after inv w act (live_chain chain) marked i.unmarked) (same? (s.mark i.node) 0);
        has_key = sym (key_after inv w act (live_chain chain)) ∙ i.has_key;
      }

  -- and there it was, if no key is added
  chained_before : Keeps act ⊎ Takes act → {key : ℕ} (i : In (stepped s w step) key) → Reach s.next 0 i.node
  chained_before k i = the_first (λ new. not_linking act k new.0) (chain_before inv w act i.chain)

  -- where the set is kept, it has the same keys
  pub keeps_set : Keeps act → ((key : ℕ) → In s key → In (stepped s w step) key) × ((key : ℕ) → In (stepped s w step) key → In s key)
  keeps_set k = (λ key i. the_first (λ taken. taken.1 (inl k)) (kept i), λ key i. before i (chained_before (inl k) i))

  -- where a key is added, the new node has it, and what nodes keep of its length
  new_label : Adds act →
      ((stepped s w step).key (s.worker w).spare ≡ (s.worker w).key)
      × ((stepped s w step).length (s.worker w).spare ≡ (s.worker w).length)
  new_label k =
      let new = (linking act k).0 in
      let label = label_after inv w act (live_held w (in_spare refl) new.spare_in) in
      (label.0 ∙ new.has_key, label.1 ∙ new.has_length)

  -- where a key is added, it is new, and there now, and the other keys stay
  pub adds_key : Adds act →
      (In s (s.worker w).key → ⊥) × In (stepped s w step) (s.worker w).key
      × ((key : ℕ) → In s key → In (stepped s w step) key)
      × ((key : ℕ) → In (stepped s w step) key → In s key ⊎ (key ≡ (s.worker w).key))
  adds_key k = (was_not, is_now, λ key i. the_first (λ taken. taken.1 (inr k)) (kept i), was)
    where
      new : Filled nodes s w (s.worker w).key (s.worker w).pred (s.worker w).curr (s.worker w).spare
      new = (linking act k).0

      stays : PredStays nodes (shape_of s) w (s.worker w).key (s.worker w).pred (s.worker w).curr
      stays = new.gap.neighbours.stay.stays

      chain : Reach s.next 0 (s.worker w).pred
      chain = on_chain inv w (in_pred refl) stays.held.held.found.searching.pred_in stays.unmarked (λ at. new.not_pred)

      spare_live : Live nodes s (s.worker w).spare
      spare_live = live_held w (in_spare refl) new.spare_in

      was_not : In s (s.worker w).key → ⊥
      was_not = absent inv.shape chain stays.held.held.found.searching.below (rw new.gap.neighbours.leads new.gap.above)

      is_now : In (stepped s w step) (s.worker w).key
      is_now =
          record {
            node = (s.worker w).spare;
            chain = linked inv w act (linking act k).1;
            not_head = new.alone.not_head;
            not_tail = new.alone.not_tail;
            unmarked = the_first (λ taken. taken.1 (inr k)) (mark_after act spare_live) ∙ new.has_mark;
            has_key = (new_label k).0;
          }

      was : (key : ℕ) → In (stepped s w step) key → In s key ⊎ (key ≡ (s.worker w).key)
      was key i =
          ⊎_map (before i) (λ at. sym i.has_key ∙ ap (stepped s w step).key at.1 ∙ (new_label k).0)
          (chain_before inv w act i.chain)

  -- where a key is taken, it was there, and is not now, and the other keys stay
  pub takes_key : Takes act →
      In s (s.worker w).key
      × ((key : ℕ) → key ≢ (s.worker w).key → In s key → In (stepped s w step) key)
      × ((key : ℕ) → In (stepped s w step) key → In s key × (key ≢ (s.worker w).key))
  takes_key k = (
    was,
    λ key other i. the_first (λ taken. other taken.2) (kept i),
    λ key i. (before i (chained_before (inr k) i), λ e. gone (rw e at i)),
  )
    where
      was : In s (s.worker w).key
      was =
          let range = (marking act k).0 in
          let hit = (marking act k).1.hit in
          let stay = (marking act k).1.neighbours.stay in
          let curr_in = stay.stays.held.held.found.searching.curr_in in
          record {
            node = (s.worker w).curr;
            chain = on_chain inv w (in_curr refl) curr_in stay.unmarked (λ at. absurd (not_linking act (inr k) at));
            not_head = not_head inv.shape (rw hit range.0);
            not_tail = not_tail inv.shape (rw hit range.1);
            unmarked = stay.unmarked;
            has_key = hit;
          }

      gone : In (stepped s w step) (s.worker w).key → ⊥
      gone i =
          let j = before i (chained_before (inr k) i) in
          let at_curr : i.node ≡ (s.worker w).curr = once inv.shape j.chain was.chain (j.has_key ∙ sym was.has_key) in
          (marking act k).2 (ap (stepped s w step).mark (sym at_curr) ∙ i.unmarked)

  -- a key that stays in the set stays with its length: its node is the same
  pub length_kept : {key : ℕ} (i : In s key) (j : In (stepped s w step) key) → (stepped s w step).length j.node ≡ s.length i.node
  length_kept i j = ⊎_elim same (λ new. absurd (not_new new)) (chain_before inv w act j.chain)
    where
      same : Reach s.next 0 j.node → (stepped s w step).length j.node ≡ s.length i.node
      same chain =
          let at : j.node ≡ i.node = once inv.shape chain i.chain ((before j chain).has_key ∙ sym i.has_key) in
          (label_after inv w act (live_chain chain)).1 ∙ ap s.length at

      not_new : ((s.worker w).stage ≡ 15) × (j.node ≡ (s.worker w).spare) → ⊥
      not_new new =
          let adds = adding act new.0 in
          let own = sym j.has_key ∙ ap (stepped s w step).key new.1 ∙ (new_label adds).0 in
          (adds_key adds).0 (subst (In s) own i)

  -- and a key that is added has what nodes keep of its length
  pub length_added : Adds act → (j : In (stepped s w step) (s.worker w).key) →
      (stepped s w step).length j.node ≡ (s.worker w).length
  length_added k j =
      ⊎_elim (λ chain. absurd ((adds_key k).0 (before j chain))) (λ new. ap (stepped s w step).length new.1 ∙ (new_label k).1)
      (chain_before inv w act j.chain)

  -- what is ahead of a live node stays ahead, or the key leaves the set
  pub ahead_after : {from key : ℕ} → Live nodes s from → Ahead s from key →
      Ahead (stepped s w step) from key ⊎ (In (stepped s w step) key → ⊥)
  ahead_after live ahead =
      ⊎_map (λ kept. kept) (λ taken i. ((takes_key taken.0).2 _ i).1 taken.2) (ahead_kept live ahead.inside ahead.run)
