-- Under the invariant no worker's turn is refused for its record, or for a link that it follows.
use Prim.Native.Nat.{ℕ, ◌<◌}
use mathlib.Core.Path.{◌≡◌, refl}
use mathlib.Core.Bool.{Bool, true, false, cond, not, ◌&&◌, ◌||◌, and-eq-true_iff}
use native.Mathlib.Omega.{arith}
use native.Mathlib.Decide.{ℕ_discrete, dec_lt}
use lib.ListN.{get_or-eq_default}
use lib.Dec.{leb, ltb, eqb}
use borrow.Author.Tests.{eq-eqb, ne_eqb, lt-ltb, le-ltb, lt-leb, not-true}
use Rattle.worker.specs.Worker.{within, is_key, last_stage}
use Rattle.worker.specs.Stages.{with_stage}
use Rattle.worker.specs.Turn.{belongs, kept, placed, astray, busy_refusals, turn_refusals}
use Rattle.worker.specs.declared.Worker.{Worker}
use Rattle.worker.proofs.Laws.{in_range, range_bounds}
use Rattle.worker.proofs.RefusalLaws.{NoneHolds}
use Rattle.worker.proofs.Tables.{AllFrom, end, ◌then◌, row_at}
use Rattle.lazy.specs.Turn.{seen_of}
use Rattle.linear.proofs.State.{State, seen_in}
use Rattle.linear.proofs.Promises.{Promise, promises, has_answer, sane}
use Rattle.linear.proofs.Invariant.{Inv}
use Rattle.linear.proofs.Effects.{spare_in}

-- a sane record passes the tests on its operation, key and answer
whole_record : (w : Worker) → sane w.stage w.operation w.key w.answer ≡ true →
    (belongs w.stage w.operation ≡ true) × (kept w ≡ true)
unfolding kept
whole_record w e =
    let both = (and-eq-true_iff _ _).0 e in
    let call : (belongs w.stage w.operation ≡ true) × (is_key w.key ≡ true) = (and-eq-true_iff _ _).0 both.0 in
    (call.0, rw call.1 (answered (within 19 21 w.stage) refl both.1))
  where
    answered : (late : Bool) → within 19 21 w.stage ≡ late →
        cond (has_answer w.stage) (within 1 3 w.answer) (eqb w.answer 0) ≡ true → not late || within 1 3 w.answer ≡ true
    answered false at given = refl
    answered true at given =
        let bounds = range_bounds 19 21 w.stage at in rw (in_range 17 21 w.stage (omega arith) bounds.1) at given

module _ {nodes : ℕ} {s : State} (inv : Inv nodes s) where
  -- no promise is kept at a stage above 25
  pub stage_below : (w : ℕ) → (s.worker w).stage < 26
  unfolding promises
  stage_below w =
      elim (dec_lt (s.worker w).stage 26) [
        | yes below ↦ below
        | no above ↦
            absurd (rw (get_or-eq_default promises _ {n = (s.worker w).stage} (omega arith)) at (inv.works w).promise)
      ]

  -- the tests on a number of a node, and on the link of that node
  below : {n : ℕ} → n < nodes → ltb n nodes ≡ true
  below {n} there = lt-ltb n nodes there

  leads : {n : ℕ} → n < nodes → leb nodes (s.next n) ≡ false
  leads {n} there = lt-leb nodes (s.next n) (inv.shape.inside n there)

  module _ (workers w : ℕ) where
    -- the worker's record
    abbrev me : Worker
    me = s.worker w

    -- where the promise of a stage is kept, the numbers that it reads pass the tests, and so do the links that it follows
    abbrev Fits : ℕ → Promise → Type 0
    Fits stage P =
        P nodes s w me.key me.pred me.curr me.spare →
        placed (with_stage me stage) nodes && not (astray (with_stage me stage) (seen_in workers nodes s w)) ≡ true

    -- so it is at every stage
    rows_fit : AllFrom Fits 0 promises
    unfolding promises placed astray seen_of
    rows_fit =
        (λ f. refl)
        then (λ f. refl)
        then (λ f. let there : me.pred < nodes = omega (arith, inv.shape.room) in rw (below there, leads there))
        then (λ f. rw (below f.curr_in))
        then (λ f. rw (below f.searching.curr_in))
        then (λ f. rw (below f.curr_in, leads f.curr_in))
        then (λ f. rw (below f.searching.pred_in))
        then (λ f. rw (below f.found.searching.curr_in))
        then (λ f. rw (below f.held.found.searching.pred_in))
        then (λ f. rw (below f.held.held.found.searching.curr_in))
        then (λ f. rw (below f.stays.held.held.found.searching.pred_in, below f.stays.held.held.found.searching.curr_in))
        then (λ f. rw (below f.held.found.searching.pred_in))
        then (λ f. rw (below f.found.searching.curr_in))
        then (λ f. rw (below f.stay.stays.held.held.found.searching.curr_in))
        then (λ f. rw (below f.neighbours.stay.stays.held.held.found.searching.curr_in))
        then (λ f. rw (below f.gap.neighbours.stay.stays.held.held.found.searching.pred_in, below f.spare_in))
        then (λ f. rw (below f.neighbours.stay.stays.held.held.found.searching.curr_in))
        then (λ f. let there = f.stays.held.held.found.searching.curr_in in rw (below there, leads there))
        then (λ f. rw (below f.removed.stays.held.held.found.searching.pred_in, below (spare_in inv w f)))
        then (λ f. rw (below f.held.found.searching.pred_in))
        then (λ f. rw (below f.found.searching.curr_in))
        then (λ f. refl)
        then (λ f. refl)
        then (λ f. rw (below f.curr_in))
        then (λ f. rw (below f.curr_in, leads f.curr_in))
        then (λ f. rw (below f.curr_in))
        then end

    -- so no such test of the turn holds
    pub passes : NoneHolds (turn_refusals (s.worker w) (seen_in workers nodes s w))
    unfolding turn_refusals busy_refusals seen_of
    passes =
        elim (ℕ_discrete me.stage 0) [
          | yes idle ↦ rw (eq-eqb me.stage 0 idle) tt
          | no busy ↦
              let last = le-ltb last_stage me.stage (omega (arith, stage_below w)) in
              let whole = whole_record me ((inv.works w).sane_record busy) in
              let fits = row_at Fits me.stage promises _ rows_fit (λ m out broken. absurd broken) (inv.works w).promise in
              let places : (placed me nodes ≡ true) × (not (astray me (seen_in workers nodes s w)) ≡ true) = (and-eq-true_iff _ _).0 fits in
              rw (ne_eqb me.stage 0 busy) (last, (rw whole.0, (rw whole.1, (rw places.0, (not-true _ places.1, tt)))))
        ]
