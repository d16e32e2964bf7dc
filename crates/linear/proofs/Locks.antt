-- Who has a node's lock: what a turn at each stage makes of the locks, and what it waits for.
use Prim.Native.Nat.{ℕ, suc, ◌-◌, ◌<◌}
use mathlib.Core.Path.{◌≡◌, refl, sym, subst, ◌∙◌}
use mathlib.Core.Logic.{◌⊎◌, inl, inr, ⊎_elim, ◌≢◌}
use mathlib.Core.Bool.{Bool, true, false, cond, ◌&&◌, ◌||◌, true≢false, and-eq-true_iff}
use native.Mathlib.Omega.{arith}
use lib.ListN.{get_or}
use lib.Dec.{ltb, eqb}
use borrow.Author.Tests.{eqb-false}
use Rattle.worker.specs.Worker.{add, within}
use Rattle.worker.specs.Report.{report_values}
use Rattle.worker.specs.Stages.{with_answer, reports, goes, to, takes, stage_table, step_of}
use Rattle.worker.specs.declared.Worker.{Worker}
use Rattle.std.specs.Prelude.{Option, Some, None}
use Rattle.worker.specs.declared.report.Report.{Report}
use Rattle.worker.specs.declared.report.Report.TheVariants.{Idle, Waits}
use Rattle.worker.specs.declared.report.Step.{Step}
use Rattle.worker.specs.declared.report.Growth.{Growth}
use Rattle.worker.specs.declared.report.Effect.{Effect}
use Rattle.worker.specs.declared.report.Effect.TheVariants.{Nothing, SetOwner}
use Rattle.worker.proofs.Tables.{AllFrom, end, ◌then◌, row_at}
use Rattle.words.specs.Layout.{node_owner}
use Rattle.lazy.specs.Turn.{seen_of}
use Rattle.linear.specs.Entries.{is_waits, turn_reported}
use Rattle.linear.proofs.Reach.{same?}
use Rattle.linear.proofs.State.{State, word_after, seen_in, turn_step}
use Rattle.linear.proofs.Promises.{promises}
use Rattle.linear.proofs.Invariant.{Inv, promised}
use Rattle.linear.proofs.Effects.{at_node, off_node}
use Rattle.linear.proofs.Passes.{stage_below}

-- the stages at which a worker has the lock of pred, and of curr
abbrev pub has_pred : ℕ → Bool
has_pred stage = within 7 11 stage || within 13 19 stage

abbrev pub has_curr : ℕ → Bool
has_curr stage = within 8 20 stage

-- at a stage, with pred and curr, a worker has the lock of a node
pub data Has (stage pred curr node : ℕ) : Type 0 where
  as_pred : has_pred stage ≡ true → node ≡ pred → Has stage pred curr node
  as_curr : has_curr stage ≡ true → node ≡ curr → Has stage pred curr node

abbrev pub Locks : Worker → ℕ → Type 0
Locks w node = Has w.stage w.pred w.curr node

has_none : {stage pred curr node : ℕ} → has_pred stage ≡ false → has_curr stage ≡ false → Has stage pred curr node → ⊥
has_none p c (as_pred h e) = true≢false (sym h ∙ p)
has_none p c (as_curr h e) = true≢false (sym h ∙ c)

-- an idle worker has no lock
pub has_busy : {stage pred curr node : ℕ} → Has stage pred curr node → stage ≢ 0
has_busy {pred = pred} {curr = curr} {node = node} h idle = has_none refl refl (subst (λ k. Has k pred curr node) idle h)

-- a test does not come out both ways
moving : {A : Type 0} {waits : Bool} → waits ≡ false → waits ≡ true → A
moving moves waiting = absurd (true≢false (sym waiting ∙ moves))

module _ {nodes : ℕ} {s : State} (inv : Inv nodes s) (me : ℕ) where
  abbrev w : Worker
  w = s.worker me

  -- the owner word of a node after an effect
  abbrev owner_after : Effect → ℕ → ℕ
  owner_after e node = word_after e node node_owner (s.owner node)

  -- what a step makes of a node's lock: nobody has it then, or the worker has it, or it stays with whoever has it
  pub data Lock (step : Step) (node : ℕ) : Type 0 where
    unowned : owner_after step.effect node ≡ 0 → Lock step node
    taken : owner_after step.effect node ≡ suc me → Locks step.worker node → Lock step node
    stays : owner_after step.effect node ≡ s.owner node → (Locks w node → Locks step.worker node) → Lock step node

  -- what the worker waits for: a node that another worker owns, with a key above those of all nodes whose locks it has
  pub record Wants (node owner : ℕ) : Type 0 where
    pub busy : w.stage ≢ 0
    pub owned : s.owner node ≡ suc owner
    pub above : (n : ℕ) → Locks w n → s.key n < s.key node

  -- it is what the report of a turn that waits says; and such a turn has no effect
  pub record Locking (step : Step) : Type 0 where
    pub locks : (node : ℕ) → Lock step node
    pub waits : is_waits (turn_reported step.report) ≡ true →
        Wants (get_or (report_values step.report) 1 0) (get_or (report_values step.report) 2 0)
    pub still : is_waits (turn_reported step.report) ≡ true → step.effect ≡ Nothing

  at_stage : {n : ℕ} → w.stage ≡ n → {node : ℕ} → Locks w node → Has n w.pred w.curr node
  at_stage at {node} h = subst (λ k. Has k w.pred w.curr node) at h

  -- a turn of a worker that has no lock, and takes none
  pub without : {n : ℕ} → has_pred n ≡ false → has_curr n ≡ false → (new : Worker) (report : Report) →
      is_waits (turn_reported report) ≡ false → w.stage ≡ n → Locking (reports new report)
  without p c new report moves at =
      record { locks = λ node. stays refl (λ h. absurd (has_none p c (at_stage at h))); waits = moving moves; still = moving moves }

  -- a turn that leaves pred and curr as they are, and has the locks of both then
  both : {growth : Growth} (new : Worker) (report : Report) (e : Effect) → ((node : ℕ) → (owner_after e node ≡ 0) ⊎ (owner_after e node ≡ s.owner node)) →
      is_waits (turn_reported report) ≡ false → new.pred ≡ w.pred → new.curr ≡ w.curr →
      has_pred new.stage && has_curr new.stage ≡ true → Locking (record { worker = new; report = report; effect = e; growth = growth })
  both new report e owners moves p c has =
      let (first, second) = (and-eq-true_iff _ _).0 has in
      record {
        locks = λ node. ⊎_elim unowned (λ same. stays same (kept first second)) (owners node);
        waits = moving moves;
        still = moving moves;
      }
    where
      kept : {node : ℕ} → has_pred new.stage ≡ true → has_curr new.stage ≡ true → Locks w node → Locks new node
      kept first second (as_pred h q) = as_pred first (q ∙ sym p)
      kept first second (as_curr h q) = as_curr second (q ∙ sym c)

  -- and no effect
  keeps : (answer m : ℕ) → has_pred m && has_curr m ≡ true → Locking (to (with_answer w answer) m)
  keeps answer m has = both _ _ _ (λ node. inr refl) refl refl refl has

  -- a lock is taken or given up: what becomes of it, and that the others stay
  sets : {node owner : ℕ} {growth : Growth} (new : Worker) (report : Report) → is_waits (turn_reported report) ≡ false →
      Lock (record { worker = new; report = report; effect = SetOwner node owner; growth = growth }) node →
      ((n : ℕ) → n ≢ node → Locks w n → Locks new n) →
      Locking (record { worker = new; report = report; effect = SetOwner node owner; growth = growth })
  sets {node} {owner} new report moves this others =
      record {
        locks =
            λ n. ⊎_elim (λ e. rw e this) (λ d. stays (off_node n node owner (s.owner n) d) (others n d))
            (same? n node);
        waits = moving moves;
        still = moving moves;
      }

  -- a turn that waits for a node with an owner
  wants : (node : ℕ) → w.stage ≢ 0 → eqb (s.owner node) 0 ≡ false → ((n : ℕ) → Locks w n → s.key n < s.key node) →
      Locking (reports w (Waits node (s.owner node - 1)))
  wants node busy some above =
      record {
        locks = λ n. stays refl (λ h. h);
        waits = λ waiting. record { busy = busy; owned = omega (arith, eqb-false (s.owner node) 0 some); above = above };
        still = λ waiting. refl;
      }

  -- 6 and 7: the lock is taken, or the turn waits
  row_6 : (free : Bool) → eqb (s.owner w.pred) 0 ≡ free → w.stage ≡ 6 →
      Locking (cond free (goes w 7 (SetOwner w.pred (suc me))) (reports w (Waits w.pred (s.owner w.pred - 1))))
  row_6 true t at =
      sets _ _ refl (taken (at_node w.pred w.pred (suc me) _ refl) (as_pred refl refl))
      (λ n d h. absurd (has_none refl refl (at_stage at h)))
  row_6 false t at = wants w.pred (omega (arith, at)) t (λ n h. absurd (has_none refl refl (at_stage at h)))

  row_7 : (free : Bool) → eqb (s.owner w.curr) 0 ≡ free → w.stage ≡ 7 →
      Locking (cond free (goes w 8 (SetOwner w.curr (suc me))) (reports w (Waits w.curr (s.owner w.curr - 1))))
  unfolding promises
  row_7 true t at =
      sets _ _ refl (taken (at_node w.curr w.curr (suc me) _ refl) (as_curr refl refl)) (λ n d h. kept (at_stage at h))
    where
      kept : {n : ℕ} → Has 7 w.pred w.curr n → Has 8 w.pred w.curr n
      kept (as_pred h e) = as_pred refl e
      kept (as_curr h e) = absurd (true≢false (sym h))
  row_7 false t at = wants w.curr (omega (arith, at)) t (λ n h. above (at_stage at h))
    where
      above : {n : ℕ} → Has 7 w.pred w.curr n → s.key n < s.key w.curr
      above (as_pred h e) = let f = (promised inv me at).found in rw e (omega (arith, f.above, f.searching.below))
      above (as_curr h e) = absurd (true≢false (sym h))

  -- 11 and 19: the lock of pred is given up; 12 and 20: that of curr, the last one
  gives_pred : (answer : ℕ) {m : ℕ} → has_curr m ≡ true → Locking (goes (with_answer w answer) m (SetOwner w.pred 0))
  gives_pred answer {m} c = sets _ _ refl (unowned (at_node w.pred w.pred 0 _ refl)) (λ n. kept)
    where
      kept : {n : ℕ} → n ≢ w.pred → Locks w n → Has m w.pred w.curr n
      kept d (as_pred h e) = absurd (d e)
      kept d (as_curr h e) = as_curr c e

  gives_curr : {n m : ℕ} → has_pred n ≡ false → w.stage ≡ n → Locking (goes w m (SetOwner w.curr 0))
  gives_curr {n} {m} p at = sets _ _ refl (unowned (at_node w.curr w.curr 0 _ refl)) (λ k d h. kept d (at_stage at h))
    where
      kept : {k : ℕ} → k ≢ w.curr → Has n w.pred w.curr k → Has m w.pred w.curr k
      kept d (as_pred h e) = absurd (true≢false (sym h ∙ p))
      kept d (as_curr h e) = absurd (d e)

  -- 8, 9 and 10: both are held, however the test comes out
  checks : (holds : Bool) (m n : ℕ) → has_pred m && has_curr m ≡ true → has_pred n && has_curr n ≡ true → Locking (to w (cond holds m n))
  checks true m n this other = keeps w.answer m this
  checks false m n this other = keeps w.answer n other

  -- 13 and 23: a step that is chosen by a test
  either : (test : Bool) {this other : Step} → Locking this → Locking other → Locking (cond test this other)
  either true this other = this
  either false this other = other

  -- 14: the node that is filled has no owner
  row_14 : (found : Option ℕ) → Locking (takes w found)
  row_14 None = both _ _ _ (λ node. inr refl) refl refl refl refl
  row_14 (Some x) =
      both _ _ _ (λ node. ⊎_elim (λ e. inl (at_node node x 0 _ e)) (λ d. inr (off_node node x 0 _ d)) (same? node x)) refl refl refl refl

  -- what stands in the table at each stage
  abbrev Rows : ℕ → Step → Type 0
  Rows stage step = w.stage ≡ stage → Locking step

  module _ (workers : ℕ) where
    rows : AllFrom Rows 0 (stage_table w (suc me) (seen_in workers nodes s me))
    unfolding seen_of
    rows =
        without refl refl _ _ refl
        then without refl refl _ _ refl
        then without refl refl _ _ refl
        then without refl refl _ _ refl
        then without refl refl _ _ refl
        then without refl refl _ _ refl
        then row_6 _ refl
        then row_7 _ refl
        then (λ at. checks (eqb (s.mark w.pred) 0) 9 11 refl refl)
        then (λ at. checks (eqb (s.mark w.curr) 0) 10 11 refl refl)
        then (λ at. checks (eqb (s.next w.pred) w.curr) 13 11 refl refl)
        then (λ at. gives_pred w.answer refl)
        then gives_curr refl
        then (λ at.
        let found = eqb (s.key w.curr) w.key in
        either (eqb w.operation add) (either found (keeps 2 19 refl) (keeps w.answer 14 refl))
        (either found (keeps w.answer 16 refl) (keeps 2 19 refl)))
        then (λ at. row_14 (seen_in workers nodes s me).free)
        then (λ at. both _ _ _ (λ node. inr refl) refl refl refl refl)
        then (λ at. both _ _ _ (λ node. inr refl) refl refl refl refl)
        then (λ at. both _ _ _ (λ node. inr refl) refl refl refl refl)
        then (λ at. both _ _ _ (λ node. inr refl) refl refl refl refl)
        then (λ at. gives_pred w.answer refl)
        then gives_curr refl
        then without refl refl _ _ refl
        then without refl refl _ _ refl
        then (λ at.
        either (ltb (s.key w.curr) w.key) (without refl refl _ _ refl at)
        (either (eqb (s.key w.curr) w.key) (without refl refl _ _ refl at) (without refl refl _ _ refl at)))
        then without refl refl _ _ refl
        then without refl refl _ _ refl
        then end

    pub turn_locks : Locking (turn_step workers nodes s me)
    unfolding step_of
    turn_locks =
        row_at Rows w.stage (stage_table w (suc me) (seen_in workers nodes s me)) (reports w Idle) rows
        (λ m out at. absurd (omega (arith, stage_below inv me))) refl
