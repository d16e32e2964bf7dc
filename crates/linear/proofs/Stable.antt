-- What is promised of a worker stays true while the nodes that it holds stay as it needs them: so under the turns of the others.
use Prim.Native.Nat.{ℕ, suc, ◌<◌}
use mathlib.Core.Path.{◌≡◌, refl, sym, ◌∙◌}
use mathlib.Core.Logic.{◌⊎◌, inl, inr, ⊎_elim, ◌≢◌}
use native.Mathlib.Omega.{arith}
use Rattle.worker.proofs.Tables.{AllFrom, end, ◌then◌, row_at}
use Rattle.linear.proofs.Reach.{same?}
use Rattle.linear.proofs.State.{State, Shape, shape_of}
use Rattle.linear.proofs.Promises.{Holds, in_pred, in_curr, in_spare, Live, Private, Searching, Passing, Found, PredHeld, CurrHeld, BothHeld, PredStays, BothStay, Neighbours, Gap, Filled, Hit, Removed, Bypassed, Looking, LookingBelow, LookingAt, Promise, promises, Standing}
use Rattle.linear.proofs.Invariant.{live_held}
use Rattle.linear.proofs.Effects.{Known, old, top, far, link}
use Rattle.linear.proofs.After.{View}

-- from nodes a to nodes b, for one worker with key e, pred and curr
module _ {nodes : ℕ} {a : Shape} (b : Shape) (me e pred curr : ℕ) where
  looking_kept : Looking nodes a me e pred curr → Looking nodes b me e pred curr
  looking_kept f = record { curr_in = f.curr_in }

  module _ (keys : (n : ℕ) → (n ≡ pred) ⊎ (n ≡ curr) → n < nodes → b.key n ≡ a.key n) where
    pub searching_kept : Searching nodes a me e pred curr → Searching nodes b me e pred curr
    searching_kept f =
        record { pred_in = f.pred_in; curr_in = f.curr_in; below = rw (keys pred (inl refl) f.pred_in) f.below }

    curr_key : Searching nodes a me e pred curr → b.key curr ≡ a.key curr
    curr_key f = keys curr (inr refl) f.curr_in

    passing_kept : Passing nodes a me e pred curr → Passing nodes b me e pred curr
    passing_kept f = record { searching = searching_kept f.searching; below = rw (curr_key f.searching) f.below }

    pub found_kept : Found nodes a me e pred curr → Found nodes b me e pred curr
    found_kept f = record { searching = searching_kept f.searching; above = rw (curr_key f.searching) f.above }

    looking_below_kept : LookingBelow nodes a me e pred curr → LookingBelow nodes b me e pred curr
    looking_below_kept f = record { curr_in = f.curr_in; below = rw (keys curr (inr refl) f.curr_in) f.below }

    looking_at_kept : LookingAt nodes a me e pred curr → LookingAt nodes b me e pred curr
    looking_at_kept f = record { curr_in = f.curr_in; hit = keys curr (inr refl) f.curr_in ∙ f.hit }

    module _ (owners : (n : ℕ) → (n ≡ pred) ⊎ (n ≡ curr) → n < nodes → a.owner n ≡ suc me → b.owner n ≡ suc me) where
      pub pred_held_kept : PredHeld nodes a me e pred curr → PredHeld nodes b me e pred curr
      pred_held_kept f =
          record { found = found_kept f.found; owns = owners pred (inl refl) f.found.searching.pred_in f.owns }

      pub curr_held_kept : CurrHeld nodes a me e pred curr → CurrHeld nodes b me e pred curr
      curr_held_kept f =
          record { found = found_kept f.found; owns = owners curr (inr refl) f.found.searching.curr_in f.owns }

      pub both_held_kept : BothHeld nodes a me e pred curr → BothHeld nodes b me e pred curr
      both_held_kept f =
          record { held = pred_held_kept f.held; owns = owners curr (inr refl) f.held.found.searching.curr_in f.owns }

      module _ (owned : (n : ℕ) → (n ≡ pred) ⊎ (n ≡ curr) → n < nodes → a.owner n ≡ suc me →
          (b.next n ≡ a.next n) × (b.mark n ≡ a.mark n)) where
        pred_owned : BothHeld nodes a me e pred curr → (b.next pred ≡ a.next pred) × (b.mark pred ≡ a.mark pred)
        pred_owned f = owned pred (inl refl) f.held.found.searching.pred_in f.held.owns

        curr_owned : BothHeld nodes a me e pred curr → (b.next curr ≡ a.next curr) × (b.mark curr ≡ a.mark curr)
        curr_owned f = owned curr (inr refl) f.held.found.searching.curr_in f.owns

        held_key : BothHeld nodes a me e pred curr → b.key curr ≡ a.key curr
        held_key f = curr_key f.held.found.searching

        pred_stays_kept : PredStays nodes a me e pred curr → PredStays nodes b me e pred curr
        pred_stays_kept f = record { held = both_held_kept f.held; unmarked = (pred_owned f.held).1 ∙ f.unmarked }

        both_stay_kept : BothStay nodes a me e pred curr → BothStay nodes b me e pred curr
        both_stay_kept f =
            record { stays = pred_stays_kept f.stays; unmarked = (curr_owned f.stays.held).1 ∙ f.unmarked }

        neighbours_kept : Neighbours nodes a me e pred curr → Neighbours nodes b me e pred curr
        neighbours_kept f = record { stay = both_stay_kept f.stay; leads = (pred_owned f.stay.stays.held).0 ∙ f.leads }

        pub gap_kept : Gap nodes a me e pred curr → Gap nodes b me e pred curr
        gap_kept f =
            record { neighbours = neighbours_kept f.neighbours; above = rw (held_key f.neighbours.stay.stays.held) f.above }

        hit_kept : Hit nodes a me e pred curr → Hit nodes b me e pred curr
        hit_kept f =
            record { neighbours = neighbours_kept f.neighbours; hit = held_key f.neighbours.stay.stays.held ∙ f.hit }

        removed_kept : Removed nodes a me e pred curr → Removed nodes b me e pred curr
        removed_kept f =
            let held = f.stays.held in
            record {
              stays = pred_stays_kept f.stays;
              leads = (pred_owned held).0 ∙ f.leads;
              hit = held_key held ∙ f.hit;
              marked = rw (curr_owned held).1 f.marked;
            }

        bypassed_kept : {spare : ℕ} → Bypassed nodes a me e pred curr spare → Bypassed nodes b me e pred curr spare
        bypassed_kept f =
            record { removed = removed_kept f.removed; after = f.after ∙ sym (curr_owned f.removed.stays.held).0 }

module _ {nodes : ℕ} {s t : State} {w : ℕ} (view : View nodes s t w) (v : ℕ) (other : v ≢ w) where
  -- a node that v has as pred or curr is live
  live_place : {n : ℕ} → (n ≡ (s.worker v).pred) ⊎ (n ≡ (s.worker v).curr) → n < nodes → Live nodes s n
  live_place (inl e) l = live_held v (in_pred e) l
  live_place (inr e) l = live_held v (in_curr e) l

  keys : (n : ℕ) → (n ≡ (s.worker v).pred) ⊎ (n ≡ (s.worker v).curr) → n < nodes → t.key n ≡ s.key n
  keys n h l = (view.labels n (live_place h l)).0

  -- a node that v owns stays so, and is not touched
  owners : (n : ℕ) → (n ≡ (s.worker v).pred) ⊎ (n ≡ (s.worker v).curr) → n < nodes → s.owner n ≡ suc v → t.owner n ≡ suc v
  owners n h l e = go (view.taken n (live_place h l))
    where
      go : (t.owner n ≡ s.owner n) ⊎ ((s.owner n ≡ 0) ⊎ (s.owner n ≡ suc w)) → t.owner n ≡ suc v
      go (inl same) = same ∙ e
      go (inr (inl free)) = omega arith
      go (inr (inr his)) = absurd (other (omega arith))

  owned : (n : ℕ) → (n ≡ (s.worker v).pred) ⊎ (n ≡ (s.worker v).curr) → n < nodes → s.owner n ≡ suc v →
      (t.next n ≡ s.next n) × (t.mark n ≡ s.mark n)
  owned n h l e =
      ⊎_elim (λ same. same) (λ his. let owner : s.owner n ≡ suc w = his.0 in absurd (other (omega arith)))
      (view.touched n (live_place h l))

  -- what nobody else could come to, nobody else comes to
  private_kept : {n : ℕ} → n < nodes → Holds (s.worker v) n → Private nodes s v n → Private nodes t v n
  private_kept {n} l h p =
      record {
        unlinked = λ m live. not_known (view.leads m live);
        unheld = λ u m d held. by u m d (same? u w) held;
        not_head = p.not_head;
        not_tail = p.not_tail;
      }
    where
      not_known : {m : ℕ} → Known nodes s w m → m ≢ n
      not_known (old held) = p.unheld w _ (λ e. other (sym e)) held
      not_known (top zero) = λ e. p.not_head (sym e ∙ zero)
      not_known (far out) = omega arith
      not_known (link k live same) = λ e. p.unlinked k live (sym same ∙ e)

      mine : {m : ℕ} → Known nodes s w m ⊎ (Live nodes s m → ⊥) → m ≢ n
      mine (inl known) = not_known known
      mine (inr free) = λ e. free (rw e (live_held v h l))

      by : (u m : ℕ) → u ≢ v → (u ≡ w) ⊎ (u ≢ w) → Holds (t.worker u) m → m ≢ n
      by u m d (inl e) held = mine (view.places m (rw e at held))
      by u m d (inr e) held = p.unheld u m d (rw (view.others u e) at held)

  abbrev e : ℕ
  e = (s.worker v).key

  abbrev pred : ℕ
  pred = (s.worker v).pred

  abbrev curr : ℕ
  curr = (s.worker v).curr

  abbrev spare : ℕ
  spare = (s.worker v).spare

  filled_kept : Filled nodes s v e pred curr spare → Filled nodes t v e pred curr spare
  filled_kept f =
      let mine : Holds (s.worker v) spare = in_spare refl in
      let label = view.labels spare (live_held v mine f.spare_in) in
      let kept : (t.next spare ≡ s.next spare) × (t.mark spare ≡ s.mark spare) =
      ⊎_elim (λ same. same) (λ his. absurd (f.alone.unheld w spare (λ q. other (sym q)) his.1 refl))
      (view.touched spare (live_held v mine f.spare_in)) in
      record {
        gap = gap_kept (shape_of t) v e pred curr keys owners owned f.gap;
        spare_in = f.spare_in;
        alone = private_kept f.spare_in mine f.alone;
        not_pred = f.not_pred;
        not_curr = f.not_curr;
        has_key = label.0 ∙ f.has_key;
        has_next = kept.0 ∙ f.has_next;
        has_mark = kept.1 ∙ f.has_mark;
        has_length = rw (view.others v other) (label.1 ∙ f.has_length);
      }

  -- every promise of the table is kept
  abbrev Kept : ℕ → Promise → Type 0
  Kept stage P = P nodes s v e pred curr spare → P nodes t v e pred curr spare

  rows_kept : AllFrom Kept 0 promises
  unfolding promises
  rows_kept =
      (λ f. f)
      then (λ f. f)
      then (λ f. f)
      then searching_kept (shape_of t) v e pred curr keys
      then passing_kept (shape_of t) v e pred curr keys
      then searching_kept (shape_of t) v e pred curr keys
      then found_kept (shape_of t) v e pred curr keys
      then pred_held_kept (shape_of t) v e pred curr keys owners
      then both_held_kept (shape_of t) v e pred curr keys owners
      then pred_stays_kept (shape_of t) v e pred curr keys owners owned
      then both_stay_kept (shape_of t) v e pred curr keys owners owned
      then both_held_kept (shape_of t) v e pred curr keys owners
      then curr_held_kept (shape_of t) v e pred curr keys owners
      then neighbours_kept (shape_of t) v e pred curr keys owners owned
      then gap_kept (shape_of t) v e pred curr keys owners owned
      then filled_kept
      then hit_kept (shape_of t) v e pred curr keys owners owned
      then removed_kept (shape_of t) v e pred curr keys owners owned
      then bypassed_kept (shape_of t) v e pred curr keys owners owned
      then both_held_kept (shape_of t) v e pred curr keys owners
      then curr_held_kept (shape_of t) v e pred curr keys owners
      then (λ f. f)
      then (λ f. f)
      then looking_kept (shape_of t) v e pred curr
      then looking_below_kept (shape_of t) v e pred curr keys
      then looking_at_kept (shape_of t) v e pred curr keys
      then end

  -- so is what is known of the worker
  pub standing_kept : Standing nodes s v (s.worker v) → Standing nodes t v (t.worker v)
  standing_kept f =
      rw (view.others v other)
      (record {
        promise = row_at Kept (s.worker v).stage promises (λ n state me e pred curr spare. ⊥) rows_kept (λ m out no. no) f.promise;
        sane_record = f.sane_record;
      })
