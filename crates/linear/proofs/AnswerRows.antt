-- The stage table, row by row: the turns that decide an answer or take a node, and those of a look-up.
use Prim.Native.Nat.{ℕ, ◌<◌}
use mathlib.Core.Path.{◌≡◌, refl, sym, ap, subst, ◌∙◌}
use mathlib.Core.Logic.{◌⊎◌, inl, inr, ◌≢◌}
use mathlib.Core.Bool.{Bool, true, false, cond}
use native.Mathlib.Omega.{arith}
use lib.Dec.{eqb, ltb}
use borrow.Author.Tests.{eqb-true, eqb-false, ltb-true, ltb-false, eq-eqb}
use Rattle.worker.specs.Worker.{add}
use Rattle.worker.specs.Report.{answer_number}
use Rattle.worker.specs.Stages.{goes, growing, to, denies, takes, with_curr, with_spare, with_stage, with_answer}
use Rattle.worker.specs.Turn.{belongs}
use Rattle.worker.specs.declared.Worker.{Worker}
use Rattle.worker.specs.declared.report.Answer.TheVariants.{Yes, No}
use Rattle.worker.specs.declared.report.Report.TheVariants.{Moved}
use Rattle.std.specs.Prelude.{Option, Some, None}
use Rattle.worker.specs.declared.report.Step.{Step}
use Rattle.worker.specs.declared.report.Effect.TheVariants.{SetNext, SetMark, Fill}
use Rattle.worker.specs.declared.report.Growth.TheVariants.{OneMore, OneLess}
use Rattle.linear.specs.History.{is_decision}
use Rattle.linear.proofs.Reach.{here}
use Rattle.linear.proofs.State.{State, shape_of, stepped}
use Rattle.linear.proofs.Promises.{Holds, in_pred, in_curr, in_spare, Live, Private, Neighbours, Gap, promises}
use Rattle.linear.proofs.Invariant.{In, Inv, Range, promised, sane_at, live_held, live_next, live_chain, live_tail, on_chain, not_head, not_tail, absent, nothing_ahead, ahead_next}
use Rattle.linear.proofs.Effects.{Known, old, top, link, Act, quiet, fills, links, marks, at_node, off_node, two_nodes}
use Rattle.linear.proofs.Stable.{both_held_kept, gap_kept}
use Rattle.linear.proofs.After.{Places, live_after, own_after, others_after}
use Rattle.linear.proofs.Course.{goes_in, goes_out, present, missing, late, as_kept, as_added, as_taken, Row}
use Rattle.linear.proofs.TurnKinds.{whole, removing, updates, any_look_up, curr_known, sane_parts, key_in_range, goes_row, finds_out, looks_on, settles_row}

-- without an answer, neither 13 nor 23 decides
undecided_13 : (answer : ℕ) → eqb answer 0 ≡ true → is_decision 13 answer ≡ false
unfolding is_decision
undecided_13 answer e = rw (eqb-true answer 0 e)

undecided_23 : (answer : ℕ) → eqb answer 0 ≡ true → is_decision 23 answer ≡ false
unfolding is_decision
undecided_23 answer e = rw (eqb-true answer 0 e)

module _ {nodes : ℕ} {s : State} (inv : Inv nodes s) (me : ℕ) where
  abbrev w : Worker
  w = s.worker me

  -- an unmarked node with the key that the worker holds is in the set
  pub in_set : {n : ℕ} → Holds w n → n < nodes → s.mark n ≡ 0 → s.key n ≡ w.key → w.stage ≢ 15 → Range w.key → In s w.key
  in_set {n} h l unmarked hit off range =
      record {
        node = n;
        chain = on_chain inv me h l unmarked (λ e. absurd (off e));
        not_head = not_head inv.shape (omega arith);
        not_tail = not_tail inv.shape (omega arith);
        unmarked = unmarked;
        has_key = hit;
      }

  -- a key between those of two neighbours on the chain is not in the set
  not_in_set : (f : Neighbours nodes (shape_of s) me w.key w.pred w.curr) → w.stage ≢ 15 → w.key < s.key w.curr →
      In s w.key → ⊥
  not_in_set f off above =
      let stays = f.stay.stays in
      let searching = stays.held.held.found.searching in
      absent inv.shape (on_chain inv me (in_pred refl) searching.pred_in stays.unmarked (λ e. absurd (off e))) searching.below
      (rw f.leads above)

  pub row_13 : (adding found : Bool) → eqb w.operation add ≡ adding → eqb (s.key w.curr) w.key ≡ found → w.stage ≡ 13 →
      Row nodes s me (cond adding (cond found (denies w 19) (to w 14)) (cond found (to w 16) (denies w 19)))
  unfolding promises belongs is_decision
  row_13 true true a t at =
      let f = promised inv me at in
      let q = sane_parts inv me at (omega arith) in
      let held = f.stay.stays.held in
      settles_row inv me at 19 2 (quiet (omega arith)) (λ k f. f) (as_kept tt refl) held (whole _ _ true q.0 q.1 refl)
      (present tt
      (in_set (in_curr refl) held.held.found.searching.curr_in f.stay.unmarked (eqb-true _ _ t) (omega arith)
      (key_in_range inv me at (omega arith)))
      (inl (eqb-true _ _ a, refl)))
      refl (eqb-true _ _ q.2) (omega arith) refl
  row_13 true false a t at =
      let f = promised inv me at in
      let q = sane_parts inv me at (omega arith) in
      finds_out inv me at (omega arith) 14 refl
      (record { neighbours = f; above = omega (arith, f.stay.stays.held.held.found.above, eqb-false (s.key w.curr) w.key t) })
      (whole _ _ _ a q.1 q.2) (undecided_13 w.answer q.2)
  row_13 false true a t at =
      let q = sane_parts inv me at (omega arith) in
      finds_out inv me at (omega arith) 16 refl (record { neighbours = promised inv me at; hit = eqb-true _ _ t })
      (whole _ _ _ (eq-eqb w.operation 2 (removing w.operation q.0 a)) q.1 q.2) (undecided_13 w.answer q.2)
  row_13 false false a t at =
      let f = promised inv me at in
      let q = sane_parts inv me at (omega arith) in
      settles_row inv me at 19 2 (quiet (omega arith)) (λ k f. f) (as_kept tt refl) f.stay.stays.held (whole _ _ true q.0 q.1 refl)
      (missing tt
      (not_in_set f (omega arith)
      (omega (arith, f.stay.stays.held.held.found.above, eqb-false (s.key w.curr) w.key t)))
      (inr (removing w.operation q.0 a, refl)))
      refl (eqb-true _ _ q.2) (omega arith) refl

  -- the worker's new node, once it is filled
  module _ {x : ℕ} (at : w.stage ≡ 14) (inside : x < nodes) (free : Live nodes s x → ⊥) where
    abbrev filling : Step
    filling = goes (with_spare w x) 15 (Fill x w.key w.curr w.length)

    gap : Gap nodes (shape_of s) me w.key w.pred w.curr
    unfolding promises
    gap = promised inv me at

    fill : Act nodes s me (Fill x w.key w.curr w.length)
    fill = fills (omega arith) inside free (key_in_range inv me at (omega arith)) gap

    fill_places : Places nodes s me filling
    fill_places = record { known = known; fresh = λ m e. (refl, e) }
      where
        known : (m : ℕ) → Holds (with_stage (with_spare w x) 15) m → Known nodes s me m ⊎ (m ≡ x)
        known m (in_pred e) = inl (old (in_pred e))
        known m (in_curr e) = inl (old (in_curr e))
        known m (in_spare e) = inr e

    -- live nodes are other ones
    apart : {n : ℕ} → Live nodes s n → n ≢ x
    apart live e = free (rw e at live)

    place_apart : {n : ℕ} → (n ≡ w.pred) ⊎ (n ≡ w.curr) → n < nodes → n ≢ x
    place_apart (inl e) l = apart (live_held me (in_pred e) l)
    place_apart (inr e) l = apart (live_held me (in_curr e) l)

    curr_live : Live nodes s w.curr
    curr_live = live_held me (in_curr refl) gap.neighbours.stay.stays.held.held.found.searching.curr_in

    fill_private : Private nodes (stepped s me filling) me x
    fill_private =
        record {
          unlinked = λ m live. unlinked m (live_after inv me fill fill_places live);
          unheld =
              λ u m d held e.
              apart (live_held u (subst (λ (r : Worker). Holds r m) (others_after inv me fill fill_places u d) held) (rw e inside)) e;
          not_head = λ e. apart (live_chain (here refl)) (sym e);
          not_tail = λ e. apart live_tail (sym e);
        }
      where
        unlinked : (m : ℕ) → Live nodes s m ⊎ (m ≡ x) → (stepped s me filling).next m ≢ x
        unlinked m (inl live) = rw (off_node m x w.curr (s.next m) (apart live)) (apart (live_next live))
        unlinked m (inr e) = rw (at_node m x w.curr (s.next m) e) (apart curr_live)

    row_fill : Row nodes s me filling
    unfolding promises belongs is_decision fill
    row_fill =
        let q = sane_parts inv me at (omega arith) in
        goes_row inv me at (with_stage (with_spare w x) 15) (Moved 15) fill tt fill_places
        (record {
          gap =
              gap_kept _ me w.key w.pred w.curr (λ n h l. off_node n x w.key (s.key n) (place_apart h l))
              (λ n h l o. off_node n x 0 (s.owner n) (place_apart h l) ∙ o)
              (λ n h l o. (off_node n x w.curr (s.next n) (place_apart h l), off_node n x 0 (s.mark n) (place_apart h l))) gap;
          spare_in = inside;
          alone = fill_private;
          not_pred = place_apart (inl refl) gap.neighbours.stay.stays.held.held.found.searching.pred_in;
          not_curr = apart curr_live;
          has_key = at_node x x w.key _ refl;
          has_next = at_node x x w.curr _ refl;
          has_mark = at_node x x 0 _ refl;
          has_length =
              at_node x x w.length _ refl
              ∙ ap (λ (r : Worker). r.length) (sym (own_after inv me fill fill_places));
        })
        (sane_at inv me at (omega arith)) (record { busy = omega arith; operation = refl; key = refl; length = refl }) refl
        (rw (eqb-true w.answer 0 q.2)) refl (λ later. absurd (omega arith))

  -- what the search for a free node finds
  abbrev pub FreeFound : Option ℕ → Type 0
  FreeFound None = Unit {0}
  FreeFound (Some n) = (n < nodes) × (Live nodes s n → ⊥)

  pub row_14 : (found : Option ℕ) → FreeFound found → w.stage ≡ 14 → Row nodes s me (takes w found)
  unfolding promises belongs is_decision
  row_14 None f at =
      let gap = promised inv me at in
      let q = sane_parts inv me at (omega arith) in
      settles_row inv me at 19 3 (quiet (omega arith)) (λ k f. f) (as_kept tt refl) gap.neighbours.stay.stays.held
      (whole _ _ true (updates w.operation (inl (eqb-true _ _ q.0))) q.1 refl)
      (missing tt (not_in_set gap.neighbours (omega arith) gap.above) (inl (eqb-true _ _ q.0, refl)))
      refl (eqb-true _ _ q.2) (omega arith) refl
  row_14 (Some n) f at = row_fill at f.0 f.1

  pub row_15 : w.stage ≡ 15 → Row nodes s me (growing (goes (with_answer w 1) 19 (SetNext w.pred w.spare)) OneMore)
  unfolding promises belongs is_decision
  row_15 at =
      let f = promised inv me at in
      let q = sane_parts inv me at (omega arith) in
      settles_row inv me at 19 1 (links at (key_in_range inv me at (omega arith)) f) (λ k f. f) (as_added tt refl)
      (both_held_kept _ me w.key w.pred w.curr (λ n h l. refl) (λ n h l o. o) f.gap.neighbours.stay.stays.held)
      (whole _ _ true (updates w.operation (inl (eqb-true _ _ q.0))) q.1 refl) (goes_in tt (eqb-true _ _ q.0) refl) refl
      (eqb-true _ _ q.2)
      (omega arith) refl

  pub row_16 : w.stage ≡ 16 → Row nodes s me (growing (goes (with_answer w 1) 17 (SetMark w.curr)) OneLess)
  unfolding promises belongs is_decision
  row_16 at =
      let f = promised inv me at in
      let q = sane_parts inv me at (omega arith) in
      let stays = f.neighbours.stay.stays in
      settles_row inv me at 17 1 (marks (omega arith) (key_in_range inv me at (omega arith)) f) (λ k f. f) (as_taken tt refl)
      (record {
        stays =
            record {
              held = both_held_kept _ me w.key w.pred w.curr (λ n h l. refl) (λ n h l o. o) stays.held;
              unmarked = off_node w.pred w.curr 1 _ (two_nodes inv me stays.held.held.found) ∙ stays.unmarked;
            };
        leads = f.neighbours.leads;
        hit = f.hit;
        marked = rw (at_node w.curr w.curr 1 (s.mark w.curr) refl) (omega arith);
      })
      (whole _ _ true q.0 q.1 refl) (goes_out tt (eqb-true _ _ q.0) refl) refl (eqb-true _ _ q.2) (omega arith) refl

  pub row_22 : w.stage ≡ 22 → Row nodes s me (to (with_curr w 0) 23)
  unfolding promises belongs is_decision
  row_22 at =
      looks_on inv me at (omega arith) 23 0 (omega arith) (top refl) (record { curr_in = omega (arith, inv.shape.room) })
      (sane_at inv me at (omega arith)) refl (omega arith) (λ ahead. ahead)

  pub row_23 : (below equal : Bool) → ltb (s.key w.curr) w.key ≡ below → eqb (s.key w.curr) w.key ≡ equal → w.stage ≡ 23 →
      Row nodes s me (cond below (to w 24) (cond equal (to w 25) (denies w 21)))
  unfolding promises belongs is_decision
  row_23 true equal t u at =
      looks_on inv me at (omega arith) 24 w.curr (omega arith) (curr_known inv me)
      (record { curr_in = (promised inv me at).curr_in; below = ltb-true _ _ t })
      (sane_at inv me at (omega arith)) (undecided_23 w.answer (sane_parts inv me at (omega arith)).2) (omega arith) (λ ahead. ahead)
  row_23 false true t u at =
      looks_on inv me at (omega arith) 25 w.curr (omega arith) (curr_known inv me)
      (record { curr_in = (promised inv me at).curr_in; hit = eqb-true _ _ u })
      (sane_at inv me at (omega arith)) (undecided_23 w.answer (sane_parts inv me at (omega arith)).2) (omega arith) (λ ahead. ahead)
  row_23 false false t u at =
      let q = sane_parts inv me at (omega arith) in
      let above : w.key < s.key w.curr = omega
      (arith, ltb-false (s.key w.curr) w.key t, eqb-false (s.key w.curr) w.key u) in
      settles_row inv me at 21 2 (quiet (omega arith)) (λ k f. f) (as_kept tt refl) tt
      (whole _ _ true (any_look_up w.operation (eqb-true _ _ q.0)) q.1 refl)
      (late tt (eqb-true _ _ q.0) refl (omega arith)
      (nothing_ahead inv.shape (live_held me (in_curr refl) (promised inv me at).curr_in) (inl above)))
      refl (eqb-true _ _ q.2) (omega arith) refl

  pub row_24 : w.stage ≡ 24 → Row nodes s me (to (with_curr w (s.next w.curr)) 23)
  unfolding promises belongs is_decision
  row_24 at =
      let f = promised inv me at in
      looks_on inv me at (omega arith) 23 (s.next w.curr) (omega arith) (link w.curr (live_held me (in_curr refl) f.curr_in) refl)
      (record { curr_in = inv.shape.inside w.curr f.curr_in }) (sane_at inv me at (omega arith)) refl (omega arith)
      (ahead_next inv.shape f.below)

  pub row_25 : (unmarked : Bool) → eqb (s.mark w.curr) 0 ≡ unmarked → w.stage ≡ 25 →
      Row nodes s me (to (with_answer w (cond unmarked (answer_number Yes) (answer_number No))) 21)
  unfolding promises belongs is_decision
  row_25 true t at =
      let f = promised inv me at in
      let q = sane_parts inv me at (omega arith) in
      settles_row inv me at 21 1 (quiet (omega arith)) (λ k f. f) (as_kept tt refl) tt
      (whole _ _ true (any_look_up w.operation (eqb-true _ _ q.0)) q.1 refl)
      (present tt (in_set (in_curr refl) f.curr_in (eqb-true _ _ t) f.hit (omega arith) (key_in_range inv me at (omega arith)))
      (inr (eqb-true _ _ q.0, refl)))
      refl (eqb-true _ _ q.2) (omega arith) refl
  row_25 false t at =
      let f = promised inv me at in
      let q = sane_parts inv me at (omega arith) in
      settles_row inv me at 21 2 (quiet (omega arith)) (λ k f. f) (as_kept tt refl) tt
      (whole _ _ true (any_look_up w.operation (eqb-true _ _ q.0)) q.1 refl)
      (late tt (eqb-true _ _ q.0) refl (omega arith)
      (nothing_ahead inv.shape (live_held me (in_curr refl) f.curr_in) (inr (f.hit, eqb-false (s.mark w.curr) 0 t))))
      refl (eqb-true _ _ q.2) (omega arith) refl
