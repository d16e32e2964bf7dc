-- The kinds of turns: those that decide nothing, those that wait, take or give up a lock, and those that decide an answer.
use Prim.Native.Nat.{ℕ, suc, ◌≤◌}
use mathlib.Core.Path.{◌≡◌, refl, sym, subst, ◌∙◌}
use mathlib.Core.Logic.{◌⊎◌, inl, inr, ◌≢◌}
use mathlib.Core.Bool.{Bool, true, false, cond, ◌&&◌, and-eq-true_iff}
use native.Mathlib.Omega.{arith}
use lib.Dec.{eqb}
use borrow.Author.Tests.{eqb-false}
use Rattle.worker.specs.Worker.{add, remove, contains, is_key, within}
use Rattle.worker.specs.Stages.{with_curr, reports, changed, goes, growing, to, with_stage, with_answer}
use Rattle.worker.specs.Turn.{belongs}
use Rattle.worker.specs.declared.Worker.{Worker}
use Rattle.worker.specs.declared.report.Report.{Report}
use Rattle.worker.specs.declared.report.Report.TheVariants.{Moved, Waits}
use Rattle.worker.specs.declared.report.Step.{Step}
use Rattle.worker.specs.declared.report.Effect.{Effect}
use Rattle.worker.specs.declared.report.Effect.TheVariants.{SetOwner}
use Rattle.worker.specs.declared.report.Growth.{Growth}
use Rattle.worker.specs.declared.report.Growth.TheVariants.{Stays}
use Rattle.worker.proofs.Laws.{range_bounds, in_range}
use Rattle.linear.specs.Entries.{is_finished, turn_reported}
use Rattle.linear.specs.History.{is_decision}
use Rattle.linear.proofs.State.{State, stepped}
use Rattle.linear.proofs.Promises.{Holds, in_pred, in_curr, in_spare, promise_at, has_answer, sane}
use Rattle.linear.proofs.Invariant.{Ahead, Inv, Range, key_range, sane_at}
use Rattle.linear.proofs.Effects.{Known, old, Act, quiet, owns, Fills}
use Rattle.linear.proofs.After.{Places}
use Rattle.linear.proofs.Changes.{Keeps}
use Rattle.linear.proofs.Course.{spot, Continues, Verdict, goes_on, settles, Grows, as_kept, Row}

-- the three parts of a record's test
pub parts : (a b c : Bool) → a && b && c ≡ true → (a ≡ true) × (b ≡ true) × (c ≡ true)
parts a b c e =
    let both = (and-eq-true_iff (a && b) c).0 e in
    let first = (and-eq-true_iff a b).0 both.0 in (first.0, first.1, both.1)

pub whole : (a b c : Bool) → a ≡ true → b ≡ true → c ≡ true → a && b && c ≡ true
whole a b c x y z = rw (x, y, z)

-- an operation that is add or remove, and not add
pub removing : (operation : ℕ) → within add remove operation ≡ true → eqb operation add ≡ false → operation ≡ remove
removing operation e d =
    let bounds = range_bounds add remove operation e in omega (arith, eqb-false operation 1 d)

-- add and remove are updates, and each operation is one of a call
pub updates : (operation : ℕ) → (operation ≡ add) ⊎ (operation ≡ remove) → within add remove operation ≡ true
updates operation (inl e) = rw e
updates operation (inr e) = rw e

pub any_call : (operation : ℕ) → within add remove operation ≡ true → within add contains operation ≡ true
any_call operation e =
    let bounds = range_bounds add remove operation e in in_range add contains operation bounds.0 (omega arith)

pub any_look_up : (operation : ℕ) → operation ≡ contains → within add contains operation ≡ true
any_look_up operation e = rw e

module _ {nodes : ℕ} {s : State} (inv : Inv nodes s) (me : ℕ) where
  abbrev w : Worker
  w = s.worker me

  pub pred_known : Known nodes s me w.pred
  pred_known = old (in_pred refl)

  pub curr_known : Known nodes s me w.curr
  curr_known = old (in_curr refl)

  pub spare_known : Known nodes s me w.spare
  spare_known = old (in_spare refl)

  -- a record whose three numbers are known, where no node is filled
  pub steps : {e : Effect} {growth : Growth} (new : Worker) (report : Report) → ((m : ℕ) → Fills e m → ⊥) →
      Known nodes s me new.pred → Known nodes s me new.curr → Known nodes s me new.spare →
      Places nodes s me (record { worker = new; report = report; effect = e; growth = growth })
  steps {e} new report unfilled p c q = record { known = λ m h. inl (known m h); fresh = λ m f. absurd (unfilled m f) }
    where
      known : (m : ℕ) → Holds new m → Known nodes s me m
      known m (in_pred same) = rw same p
      known m (in_curr same) = rw same c
      known m (in_spare same) = rw same q

  -- the test on the record, by its parts
  pub sane_parts : {n : ℕ} → w.stage ≡ n → n ≢ 0 →
      (belongs n w.operation ≡ true) × (is_key w.key ≡ true) ×
      (cond (has_answer n) (within 1 3 w.answer) (eqb w.answer 0) ≡ true)
  sane_parts at busy = parts _ _ _ (sane_at inv me at busy)

  pub key_in_range : {n : ℕ} → w.stage ≡ n → n ≢ 0 → Range w.key
  key_in_range at busy = key_range w.key (sane_parts at busy).1

  -- what a step promises of its worker, and that the record is sane
  abbrev pub Promised : Step → Type 0
  Promised step =
      promise_at step.worker.stage nodes (stepped s me step) me step.worker.key step.worker.pred step.worker.curr
      step.worker.spare

  abbrev pub Sane : Worker → Type 0
  Sane new = sane new.stage new.operation new.key new.answer ≡ true

  -- a turn that decides nothing, with its report
  pub goes_row : {n : ℕ} → w.stage ≡ n → (new : Worker) (report : Report) {e : Effect} (act : Act nodes s me e) → Keeps act →
      Places nodes s me (record { worker = new; report = report; effect = e; growth = Stays }) →
      Promised (record { worker = new; report = report; effect = e; growth = Stays }) → Sane new →
      Continues w new → eqb new.answer 0 ≡ eqb w.answer 0 → is_decision n new.answer ≡ false →
      is_finished (turn_reported report) ≡ false →
      (22 ≤ new.stage → (22 ≤ n) × (Ahead s (cond (eqb n 22) 0 w.curr) w.key → Ahead s (spot new) w.key)) →
      Row nodes s me (record { worker = new; report = report; effect = e; growth = Stays })
  goes_row at new report act keeps placed promise good continues same silent unfinished onward =
      record {
        act = act;
        grows = as_kept keeps refl;
        placed = placed;
        standing = record { promise = promise; sane_record = λ busy. good };
        course =
            goes_on keeps continues same (rw at silent) unfinished
            (λ later.
            subst (λ k. (22 ≤ k) × (Ahead s (cond (eqb k 22) 0 w.curr) w.key → Ahead s (spot new) w.key)) (sym at) (onward later));
      }

  -- a turn that goes to a stage, where pred, curr and spare are p, c and q then
  moves : {n : ℕ} → w.stage ≡ n → (m p c q : ℕ) {e : Effect} (act : Act nodes s me e) → Keeps act → ((k : ℕ) → Fills e k → ⊥) →
      Known nodes s me p → Known nodes s me c → Known nodes s me q →
      Promised (goes (changed w m p c q w.answer) m e) → Sane (changed w m p c q w.answer) → m ≢ 0 → is_decision n w.answer ≡ false →
      (22 ≤ m → (22 ≤ n) × (Ahead s (cond (eqb n 22) 0 w.curr) w.key → Ahead s (cond (eqb m 22) 0 c) w.key)) →
      Row nodes s me (goes (changed w m p c q w.answer) m e)
  moves at m p c q act keeps unfilled kp kc kq promise good busy silent onward =
      goes_row at (changed w m p c q w.answer) (Moved m) act keeps (steps _ _ unfilled kp kc kq) promise good
      (record { busy = busy; operation = refl; key = refl; length = refl }) refl silent refl onward

  -- the same below 22, so that no look-up is concerned
  pub searches : {n : ℕ} → w.stage ≡ n → (m p c q : ℕ) → within 1 21 m ≡ true → {e : Effect} (act : Act nodes s me e) → Keeps act →
      ((k : ℕ) → Fills e k → ⊥) → Known nodes s me p → Known nodes s me c → Known nodes s me q →
      Promised (goes (changed w m p c q w.answer) m e) → Sane (changed w m p c q w.answer) → is_decision n w.answer ≡ false →
      Row nodes s me (goes (changed w m p c q w.answer) m e)
  searches at m p c q early act keeps unfilled kp kc kq promise good silent =
      let bounds = range_bounds 1 21 m early in
      moves at m p c q act keeps unfilled kp kc kq promise good (omega arith) silent (λ later. absurd (omega arith))

  -- and nothing is written
  pub walks : {n : ℕ} → w.stage ≡ n → n ≢ 15 → (m p c q : ℕ) → within 1 21 m ≡ true → Known nodes s me p → Known nodes s me c →
      Known nodes s me q →
      Promised (to (changed w m p c q w.answer) m) → Sane (changed w m p c q w.answer) → is_decision n w.answer ≡ false →
      Row nodes s me (to (changed w m p c q w.answer) m)
  walks at off m p c q early = searches at m p c q early (quiet (λ e. off (sym at ∙ e))) tt (λ k f. f)

  -- with pred, curr and spare as they were
  pub finds_out : {n : ℕ} → w.stage ≡ n → n ≢ 15 → (m : ℕ) → within 1 21 m ≡ true → Promised (to w m) → Sane (with_stage w m) →
      is_decision n w.answer ≡ false → Row nodes s me (to w m)
  finds_out at off m early promise good silent =
      walks at off m w.pred w.curr w.spare early pred_known curr_known spare_known promise good silent

  -- a turn that waits changes nothing
  pub waits : {n : ℕ} → w.stage ≡ n → within 1 14 n ≡ true → {node holder : ℕ} →
      promise_at n nodes (stepped s me (reports w (Waits node holder))) me w.key w.pred w.curr w.spare →
      is_decision n w.answer ≡ false →
      Row nodes s me (reports w (Waits node holder))
  waits {n} at early {node} {holder} promise silent =
      let bounds = range_bounds 1 14 n early in
      goes_row at w (Waits node holder) (quiet (omega arith)) tt (steps _ _ (λ k f. f) pred_known curr_known spare_known)
      (subst (λ k. promise_at k nodes (stepped s me (reports w (Waits node holder))) me w.key w.pred w.curr w.spare) (sym at) promise)
      ((inv.works me).sane_record (omega arith)) (record { busy = omega arith; operation = refl; key = refl; length = refl }) refl silent refl
      (λ later. absurd (omega arith))

  -- a lock is taken or given up, with pred, curr and spare as they were
  pub owns_row : {n : ℕ} → w.stage ≡ n → n ≢ 15 → (m node owner : ℕ) → within 1 21 m ≡ true →
      (s.owner node ≡ 0) ⊎ (s.owner node ≡ suc me) →
      Promised (goes w m (SetOwner node owner)) → Sane (with_stage w m) → is_decision n w.answer ≡ false →
      Row nodes s me (goes w m (SetOwner node owner))
  owns_row at off m node owner early may promise good silent =
      searches at m w.pred w.curr w.spare early (owns (λ e. off (sym at ∙ e)) may) tt
      (λ k f. f) pred_known curr_known spare_known promise good silent

  -- a look-up goes on, to another node or not
  pub looks_on : {n : ℕ} → w.stage ≡ n → n ≢ 15 → (m c : ℕ) → m ≢ 0 → Known nodes s me c →
      Promised (to (with_curr w c) m) → Sane (with_stage w m) → is_decision n w.answer ≡ false → 22 ≤ n →
      (Ahead s (cond (eqb n 22) 0 w.curr) w.key → Ahead s (cond (eqb m 22) 0 c) w.key) →
      Row nodes s me (to (with_curr w c) m)
  looks_on at off m c busy kc promise good silent looks onward =
      moves at m w.pred c w.spare (quiet (λ e. off (sym at ∙ e))) tt (λ k f. f) pred_known kc spare_known promise good busy silent
      (λ later. (looks, onward))

  -- a turn that decides the answer
  pub settles_row : {n : ℕ} → w.stage ≡ n → (m answer : ℕ) {e : Effect} (act : Act nodes s me e) → ((k : ℕ) → Fills e k → ⊥) →
      {growth : Growth} → Grows act growth →
      Promised (growing (goes (with_answer w answer) m e) growth) → Sane (with_stage (with_answer w answer) m) →
      Verdict act (with_stage (with_answer w answer) m) → within 1 21 m ≡ true →
      w.answer ≡ 0 → answer ≢ 0 → is_decision n answer ≡ true → Row nodes s me (growing (goes (with_answer w answer) m e) growth)
  settles_row at m answer act unfilled grows promise good verdict early undecided decided settled =
      let bounds = range_bounds 1 21 m early in
      record {
        act = act;
        grows = grows;
        placed = steps _ _ unfilled pred_known curr_known spare_known;
        standing = record { promise = promise; sane_record = λ busy. good };
        course =
            settles verdict (record { busy = omega arith; operation = refl; key = refl; length = refl }) undecided decided
            (subst (λ k. is_decision k answer ≡ true) (sym at) settled) refl;
      }
