-- The stage table, row by row: the turns of add and remove that decide no answer, and the idle one.
use Prim.Native.Nat.{ℕ, suc, ◌-◌, ◌<◌}
use mathlib.Core.Path.{◌≡◌, refl, sym, subst, ◌∙◌}
use mathlib.Core.Logic.{inl, inr, ◌≢◌}
use mathlib.Core.Bool.{Bool, true, false, cond}
use native.Mathlib.Omega.{arith}
use lib.Dec.{eqb, ltb}
use borrow.Author.Tests.{eqb-true, ltb-true, ltb-false}
use Rattle.worker.specs.Worker.{within, idle_worker}
use Rattle.worker.specs.Report.{numbered_answer}
use Rattle.worker.specs.Stages.{with_stage, reports, goes, to, unlocks, with_pred, with_curr, with_spare}
use Rattle.worker.specs.Turn.{belongs}
use Rattle.worker.specs.declared.Worker.{Worker}
use Rattle.worker.specs.declared.report.Report.TheVariants.{Idle, Waits, Finished}
use Rattle.worker.specs.declared.report.Effect.TheVariants.{SetOwner, SetNext}
use Rattle.linear.specs.History.{is_decision}
use Rattle.linear.proofs.State.{State, shape_of, stepped}
use Rattle.linear.proofs.Promises.{in_pred, in_curr, BothHeld, CurrHeld, promises, promise_at}
use Rattle.linear.proofs.Invariant.{Inv, promised, sane_at, live_held}
use Rattle.linear.proofs.Effects.{top, far, link, quiet, unlinks, at_node, off_node, written, two_nodes}
use Rattle.linear.proofs.Stable.{found_kept, pred_held_kept, both_held_kept}
use Rattle.linear.proofs.Course.{rests, ends, as_kept, Row}
use Rattle.linear.proofs.TurnKinds.{Promised, Sane, whole, updates, any_call, steps, pred_known, curr_known, spare_known, sane_parts, key_in_range, searches, walks, finds_out, waits, owns_row}

module _ {nodes : ℕ} {s : State} (inv : Inv nodes s) (me : ℕ) where
  abbrev w : Worker
  w = s.worker me

  pub row_0 : w.stage ≡ 0 → Row nodes s me (reports w Idle)
  unfolding promises
  row_0 at =
      record {
        act = quiet (omega arith);
        grows = as_kept tt refl;
        placed = steps inv me _ _ (λ k f. f) (pred_known inv me) (curr_known inv me) (spare_known inv me);
        standing =
            record {
              promise =
                  subst (λ k. promise_at k nodes (stepped s me (reports w Idle)) me w.key w.pred w.curr w.spare) (sym at) tt;
              sane_record = λ busy. absurd (busy at);
            };
        course = rests tt at;
      }

  pub row_1 : w.stage ≡ 1 → Row nodes s me (to (with_pred w 0) 2)
  unfolding promises belongs is_decision
  row_1 at =
      walks inv me at (omega arith) 2 0 w.curr w.spare refl (top refl) (curr_known inv me) (spare_known inv me) refl
      (sane_at inv me at (omega arith)) refl

  pub row_2 : w.stage ≡ 2 → Row nodes s me (to (with_curr w (s.next w.pred)) 3)
  unfolding promises belongs is_decision
  row_2 at =
      let first : w.pred ≡ 0 = promised inv me at in
      let inside : w.pred < nodes = omega (arith, inv.shape.room) in
      let below : s.key w.pred < w.key = rw (first, inv.shape.head_key) (key_in_range inv me at (omega arith)).0 in
      walks inv me at (omega arith) 3 w.pred (s.next w.pred) w.spare refl (pred_known inv me)
      (link w.pred (live_held me (in_pred refl) inside) refl) (spare_known inv me)
      (record { pred_in = inside; curr_in = inv.shape.inside w.pred inside; below = below }) (sane_at inv me at (omega arith)) refl

  pub row_3 : (below : Bool) → ltb (s.key w.curr) w.key ≡ below → w.stage ≡ 3 → Row nodes s me (to w (cond below 4 6))
  unfolding promises belongs is_decision
  row_3 true t at =
      finds_out inv me at (omega arith) 4 refl (record { searching = promised inv me at; below = ltb-true _ _ t })
      (sane_at inv me at (omega arith)) refl
  row_3 false t at =
      finds_out inv me at (omega arith) 6 refl (record { searching = promised inv me at; above = ltb-false _ _ t })
      (sane_at inv me at (omega arith)) refl

  pub row_4 : w.stage ≡ 4 → Row nodes s me (to (with_pred w w.curr) 5)
  unfolding promises belongs is_decision
  row_4 at =
      let f = promised inv me at in
      walks inv me at (omega arith) 5 w.curr w.curr w.spare refl (curr_known inv me) (curr_known inv me) (spare_known inv me)
      (record { pred_in = f.searching.curr_in; curr_in = f.searching.curr_in; below = f.below }) (sane_at inv me at (omega arith)) refl

  pub row_5 : w.stage ≡ 5 → Row nodes s me (to (with_curr w (s.next w.curr)) 3)
  unfolding promises belongs is_decision
  row_5 at =
      let f = promised inv me at in
      walks inv me at (omega arith) 3 w.pred (s.next w.curr) w.spare refl (pred_known inv me)
      (link w.curr (live_held me (in_curr refl) f.curr_in) refl) (spare_known inv me)
      (record { pred_in = f.pred_in; curr_in = inv.shape.inside w.curr f.curr_in; below = f.below })
      (sane_at inv me at (omega arith)) refl

  pub row_6 : (unowned : Bool) → eqb (s.owner w.pred) 0 ≡ unowned → w.stage ≡ 6 →
      Row nodes s me (cond unowned (goes w 7 (SetOwner w.pred (suc me))) (reports w (Waits w.pred (s.owner w.pred - 1))))
  unfolding promises belongs is_decision
  row_6 true t at =
      owns_row inv me at (omega arith) 7 w.pred (suc me) refl (inl (eqb-true _ _ t))
      (record {
        found = found_kept _ me w.key w.pred w.curr (λ n h l. refl) (promised inv me at);
        owns = at_node w.pred w.pred (suc me) _ refl;
      })
      (sane_at inv me at (omega arith)) refl
  row_6 false t at = waits inv me at refl (promised inv me at) refl

  pub row_7 : (unowned : Bool) → eqb (s.owner w.curr) 0 ≡ unowned → w.stage ≡ 7 →
      Row nodes s me (cond unowned (goes w 8 (SetOwner w.curr (suc me))) (reports w (Waits w.curr (s.owner w.curr - 1))))
  unfolding promises belongs is_decision
  row_7 true t at =
      let f = promised inv me at in
      owns_row inv me at (omega arith) 8 w.curr (suc me) refl (inl (eqb-true _ _ t))
      (record {
        held =
            pred_held_kept _ me w.key w.pred w.curr (λ n h l. refl)
            (λ n h l o. written (λ a. a ≡ suc me) n w.curr (suc me) (s.owner n) (λ e. refl) (λ d. o)) f;
        owns = at_node w.curr w.curr (suc me) _ refl;
      })
      (sane_at inv me at (omega arith)) refl
  row_7 false t at = waits inv me at refl (promised inv me at) refl

  pub row_8 : (unmarked : Bool) → eqb (s.mark w.pred) 0 ≡ unmarked → w.stage ≡ 8 → Row nodes s me (to w (cond unmarked 9 11))
  unfolding promises belongs is_decision
  row_8 true t at =
      finds_out inv me at (omega arith) 9 refl (record { held = promised inv me at; unmarked = eqb-true _ _ t })
      (sane_at inv me at (omega arith)) refl
  row_8 false t at = finds_out inv me at (omega arith) 11 refl (promised inv me at) (sane_at inv me at (omega arith)) refl

  pub row_9 : (unmarked : Bool) → eqb (s.mark w.curr) 0 ≡ unmarked → w.stage ≡ 9 → Row nodes s me (to w (cond unmarked 10 11))
  unfolding promises belongs is_decision
  row_9 true t at =
      finds_out inv me at (omega arith) 10 refl (record { stays = promised inv me at; unmarked = eqb-true _ _ t })
      (sane_at inv me at (omega arith)) refl
  row_9 false t at = finds_out inv me at (omega arith) 11 refl (promised inv me at).held (sane_at inv me at (omega arith)) refl

  pub row_10 : (leads : Bool) → eqb (s.next w.pred) w.curr ≡ leads → w.stage ≡ 10 → Row nodes s me (to w (cond leads 13 11))
  unfolding promises belongs is_decision
  row_10 true t at =
      finds_out inv me at (omega arith) 13 refl (record { stay = promised inv me at; leads = eqb-true _ _ t })
      (sane_at inv me at (omega arith)) refl
  row_10 false t at = finds_out inv me at (omega arith) 11 refl (promised inv me at).stays.held (sane_at inv me at (omega arith)) refl

  -- pred is given up, and curr is still held
  gives_up_pred : {n : ℕ} → w.stage ≡ n → n ≢ 15 → (m : ℕ) → within 1 21 m ≡ true →
      (f : BothHeld nodes (shape_of s) me w.key w.pred w.curr) →
      (CurrHeld nodes (shape_of (stepped s me (goes w m (SetOwner w.pred 0)))) me w.key w.pred w.curr →
      Promised inv me (goes w m (SetOwner w.pred 0))) → Sane inv me (with_stage w m) → is_decision n w.answer ≡ false →
      Row nodes s me (goes w m (SetOwner w.pred 0))
  gives_up_pred at off m early f into good silent =
      owns_row inv me at off m w.pred 0 early (inr f.held.owns)
      (into (record {
        found = found_kept _ me w.key w.pred w.curr (λ n h l. refl) f.held.found;
        owns = off_node w.curr w.pred 0 _ (λ e. two_nodes inv me f.held.found (sym e)) ∙ f.owns;
      }))
      good silent

  pub row_11 : w.stage ≡ 11 → Row nodes s me (unlocks w w.pred 12)
  unfolding promises belongs is_decision
  row_11 at = gives_up_pred at (omega arith) 12 refl (promised inv me at) (λ f. f) (sane_at inv me at (omega arith)) refl

  pub row_12 : w.stage ≡ 12 → Row nodes s me (unlocks w w.curr 1)
  unfolding promises belongs is_decision
  row_12 at = owns_row inv me at (omega arith) 1 w.curr 0 refl (inr (promised inv me at).owns) tt (sane_at inv me at (omega arith)) refl

  pub row_17 : w.stage ≡ 17 → Row nodes s me (to (with_spare w (s.next w.curr)) 18)
  unfolding promises belongs is_decision
  row_17 at =
      let f = promised inv me at in
      let inside = f.stays.held.held.found.searching.curr_in in
      walks inv me at (omega arith) 18 w.pred w.curr (s.next w.curr) refl (pred_known inv me) (curr_known inv me)
      (link w.curr (live_held me (in_curr refl) inside) refl) (record { removed = f; after = refl })
      (sane_at inv me at (omega arith)) refl

  pub row_18 : w.stage ≡ 18 → Row nodes s me (goes w 19 (SetNext w.pred w.spare))
  unfolding promises belongs is_decision
  row_18 at =
      let f = promised inv me at in
      let q = sane_parts inv me at (omega arith) in
      searches inv me at 19 w.pred w.curr w.spare refl (unlinks (omega arith) (key_in_range inv me at (omega arith)) f) tt
      (λ k f. f)
      (pred_known inv me) (curr_known inv me) (spare_known inv me)
      (both_held_kept _ me w.key w.pred w.curr (λ n h l. refl) (λ n h l o. o) f.removed.stays.held)
      (whole _ _ _ (updates w.operation (inr (eqb-true _ _ q.0))) q.1 q.2) refl

  pub row_19 : w.stage ≡ 19 → Row nodes s me (unlocks w w.pred 20)
  unfolding promises belongs is_decision
  row_19 at = gives_up_pred at (omega arith) 20 refl (promised inv me at) (λ f. f) (sane_at inv me at (omega arith)) refl

  pub row_20 : w.stage ≡ 20 → Row nodes s me (unlocks w w.curr 21)
  unfolding promises belongs is_decision
  row_20 at =
      let q = sane_parts inv me at (omega arith) in
      owns_row inv me at (omega arith) 21 w.curr 0 refl (inr (promised inv me at).owns) tt
      (whole _ _ _ (any_call w.operation q.0) q.1 q.2) refl

  pub row_21 : w.stage ≡ 21 → Row nodes s me (reports idle_worker (Finished (numbered_answer w.answer)))
  unfolding promises
  row_21 at =
      record {
        act = quiet (omega arith);
        grows = as_kept tt refl;
        placed = steps inv me _ _ (λ k f. f) (far inv.shape.cap) (far inv.shape.cap) (far inv.shape.cap);
        standing = record { promise = tt; sane_record = λ busy. absurd (busy refl) };
        course = ends tt at refl refl;
      }
