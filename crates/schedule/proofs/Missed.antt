-- What a turn does to the set, told by whether it takes a key out, and the first time at which a key is absent.
use Prim.Native.Nat.{ℕ, zero, suc, ◌+◌, ◌-◌, ◌≤◌, ◌<◌}
use mathlib.Core.Path.{◌≡◌, refl, sym, ap, subst, ◌∙◌}
use mathlib.Core.Logic.{◌≢◌, inl, inr, ⊎_elim}
use mathlib.Core.List.{List}
use mathlib.Core.Bool.{Bool, true, false, cond, not, ◌&&◌, and-false}
use mathlib.Mathlib.Data.Bool.Basic.{dichotomy, or_inr}
use native.Mathlib.Omega.{arith}
use native.Mathlib.Decide.{ℕ_discrete}
use lib.ListN.{length, get_or, set, length-set}
use lib.Seq.{get_or-set_same, get_or-set_other}
use lib.Dec.{eqb}
use borrow.Author.Tests.{eq-eqb, ne_eqb}
use Rattle.worker.specs.Worker.{remove}
use Rattle.worker.specs.Report.{answer_number}
use Rattle.worker.specs.declared.Worker.{Worker}
use Rattle.worker.specs.declared.report.Answer.TheVariants.{Yes}
use Rattle.worker.specs.declared.report.Report.{Report}
use Rattle.worker.specs.declared.report.Step.{Step}
use Rattle.words.specs.Records.{worker_at}
use Rattle.linear.specs.Times.{first}
use Rattle.linear.specs.Entries.{turn_reported}
use Rattle.linear.specs.History.{is_decision, absent_at}
use Rattle.linear.proofs.TimeLaws.{first_found}
use Rattle.linear.proofs.State.{State, stepped}
use Rattle.linear.proofs.After.{own_after}
use Rattle.linear.proofs.Course.{Row, is_moved, goes_in, goes_out, present, missing, late, Course, rests, goes_on, settles, ends}
use Rattle.linear.proofs.Keys.{has_kept, has_added, has_taken}
use Rattle.linear.proofs.Timeline.{Schedule, has, arena, state, entry, outcome, own_worker, turn_known, always}
use Rattle.linear.proofs.MoreTimes.{first_kept, first_same, first_now}
use Rattle.schedule.specs.Book.{looks_up, missed, takes_out}

-- a word that may have been written, at another place and at its own
length_either : (test : Bool) (words : List ℕ) (v time : ℕ) → length (cond test (set words v time) words) ≡ length words
length_either true words v time = length-set words v time
length_either false words v time = refl

elsewhere : (test : Bool) (words : List ℕ) (u v time : ℕ) → u ≢ v → get_or (cond test (set words v time) words) u 0 ≡ get_or words u 0
elsewhere true words u v time other = get_or-set_other words v u time 0 other
elsewhere false words u v time other = refl

right_here : (test : Bool) (words : List ℕ) (v time : ℕ) → v < length words →
    get_or (cond test (set words v time) words) v 0 ≡ cond test time (get_or words v 0)
right_here true words v time there = get_or-set_same words v time 0 there
right_here false words v time there = refl

-- the time that a worker has after a key left the set
module _ (worker : ℕ → Worker) (key time : ℕ) (absent : List ℕ) where
  -- the test of a worker, after those before it
  abbrev misses : ℕ → Bool
  misses v = looks_up (worker v) key && eqb (get_or (missed worker v key time absent) v 0) 0

  pub missed_length : (workers : ℕ) → length (missed worker workers key time absent) ≡ length absent
  unfolding missed
  missed_length zero = refl
  missed_length (suc v) = length_either (misses v) (missed worker v key time absent) v time ∙ missed_length v

  missed_past : (workers u : ℕ) → workers ≤ u → get_or (missed worker workers key time absent) u 0 ≡ get_or absent u 0
  unfolding missed
  missed_past zero u past = refl
  missed_past (suc v) u past = elsewhere (misses v) (missed worker v key time absent) u v time (omega arith) ∙ missed_past v u (omega arith)

  pub missed_at : (workers u : ℕ) → u < workers → u < length absent →
      get_or (missed worker workers key time absent) u 0
      ≡ cond (looks_up (worker u) key && eqb (get_or absent u 0) 0) time (get_or absent u 0)
  unfolding missed
  missed_at zero u there inside = absurd (omega arith)
  missed_at (suc v) u there inside =
      elim (ℕ_discrete u v) [
        | yes e ↦
            rw e
            (right_here (misses v) (missed worker v key time absent) v time (omega (arith, missed_length v))
            ∙ rw (missed_past v v (omega arith)))
        | no d ↦ elsewhere (misses v) (missed worker v key time absent) u v time d ∙ missed_at v u (omega arith) inside
      ]

-- no key is taken out by a turn that decides nothing, of another operation than remove, or with another answer than yes
module _ (before : Worker) (answer : ℕ) where
  undecided : is_decision before.stage answer ≡ false → takes_out before answer ≡ false
  undecided e = rw e

  no_remove : before.operation ≢ remove → takes_out before answer ≡ false
  no_remove other = rw (ne_eqb before.operation remove other, and-false)

  no_yes : answer ≢ answer_number Yes → takes_out before answer ≡ false
  no_yes other = rw (ne_eqb answer (answer_number Yes) other, and-false)

  at_stage : {stage : ℕ} → before.stage ≡ stage → is_decision stage answer ≡ false → takes_out before answer ≡ false
  at_stage e fails = undecided (rw e fails)

module _ (r : Schedule) where
  -- a turn keeps what is in the set, or it moves and takes out the worker's key
  pub data Change (now : ℕ) (before : Worker) (answer : ℕ) (report : Report) : Type 0 where
    stays : takes_out before answer ≡ false → ((key : ℕ) → has r now key ≡ true → has r (suc now) key ≡ true) → Change now before answer report
    leaves : is_moved report ≡ true → takes_out before answer ≡ true →
        ((key : ℕ) → has r (suc now) key ≡ (not (eqb key before.key) && has r now key)) → Change now before answer report

  change : (now w : ℕ) (step : Step) (row : Row r.nodes (state r now) w step) → state r (suc now) ≡ stepped (state r now) w step →
      Change now ((state r now).worker w) step.worker.answer step.report
  unfolding is_decision
  change now w step row next = go row.course
    where
      before : Worker
      before = (state r now).worker w

      answer : ℕ
      answer = step.worker.answer

      same : takes_out before answer ≡ false → ((key : ℕ) → has r (suc now) key ≡ has r now key) → Change now before answer step.report
      same none kept = stays none (λ key there. kept key ∙ there)

      go : Course row.act step.worker step.report → Change now before answer step.report
      go (rests keeps idle) = same (at_stage before answer idle refl) (has_kept r now w step row.act next keeps)
      go (goes_on keeps continues kept silent unfinished onward) =
          same (undecided before answer silent) (has_kept r now w step row.act next keeps)
      go (ends keeps stage idle done) = same (at_stage before answer stage refl) (has_kept r now w step row.act next keeps)
      go (settles (present keeps inside (inl is)) continues none some settled moves) =
          same (no_remove before answer (omega (arith, is.0))) (has_kept r now w step row.act next keeps)
      go (settles (present keeps inside (inr is)) continues none some settled moves) =
          same (no_remove before answer (omega (arith, is.0))) (has_kept r now w step row.act next keeps)
      go (settles (missing keeps out (inl is)) continues none some settled moves) =
          same (no_remove before answer (omega (arith, is.0))) (has_kept r now w step row.act next keeps)
      go (settles (missing keeps out (inr is)) continues none some settled moves) =
          same (no_yes before answer (omega (arith, is.1))) (has_kept r now w step row.act next keeps)
      go (settles (late keeps asks denies stage out) continues none some settled moves) =
          same (no_remove before answer (omega (arith, asks))) (has_kept r now w step row.act next keeps)
      go (settles (goes_in it operation is) continues none some settled moves) =
          stays (no_remove before answer (omega (arith, operation)))
          (λ key there. (has_added r now w step row.act next it).1 key ∙ or_inr (eqb key before.key) _ there)
      go (settles (goes_out it operation is) continues none some settled moves) =
          leaves moves (rw (settled, eq-eqb _ _ operation, eq-eqb _ _ is)) (has_taken r now w step row.act next it).1

  -- the same of the records in the arenas
  pub turn_change : (now : ℕ) (step : Step) → outcome r now ≡ turn_reported step.report →
      Row r.nodes (state r now) (entry r now).worker step →
      state r (suc now) ≡ stepped (state r now) (entry r now).worker step →
      Change now (worker_at (arena r now) (entry r now).worker) (worker_at (arena r (suc now)) (entry r now).worker).answer step.report
  turn_change now step event row next =
      let w = (entry r now).worker in
      let known = turn_known r now event in
      subst (λ old. Change now old (worker_at (arena r (suc now)) w).answer step.report) (own_worker r now w known)
      (subst (λ (new : Worker). Change now ((state r now).worker w) new.answer step.report)
      (sym (ap (λ (s : State). s.worker w) next ∙ own_after (always r now) w row.act row.placed)
      ∙ own_worker r (suc now) w known)
      (change now w step row next))

  -- the first time from a start on, up to now, at which a key is absent
  abbrev pub absent_by : ℕ → ℕ → ℕ → ℕ
  absent_by key start now = first (absent_at r.initial r.entries key) start (suc now - start)

  module _ (key start now : ℕ) (some : start ≢ 0) (begun : start ≤ now) where
    more : suc (suc now) - start ≡ suc (suc now - start)
    more = omega arith

    place : start + (suc now - start) ≡ suc now
    place = omega arith

    pub absent_kept : absent_by key start now ≢ 0 → absent_by key start (suc now) ≡ absent_by key start now
    absent_kept found = rw more (first_kept _ start (suc now - start) some found)

    absent_same : has r (suc now) key ≡ true → absent_by key start (suc now) ≡ absent_by key start now
    unfolding absent_at
    absent_same there = rw more (first_same _ start (suc now - start) some (rw (place, there)))

    pub absent_now : absent_by key start now ≡ 0 → has r (suc now) key ≡ false → absent_by key start (suc now) ≡ suc now
    unfolding absent_at
    absent_now none gone = rw more (first_now _ start (suc now - start) some none (rw (place, gone))) ∙ place

    -- a key that was absent at no time is there now
    present_now : absent_by key start now ≡ 0 → has r now key ≡ true
    unfolding absent_at
    present_now none =
        ⊎_elim
        (λ gone.
        let found = first_found (absent_at r.initial r.entries key) start (suc now - start) {some = now} begun
        (omega arith) (rw gone) in
        absurd (omega (arith, found.1)))
        (λ there. there) (dichotomy (has r now key))

    -- so where what is in the set stays there, the time stays
    pub absent_stays : (has r now key ≡ true → has r (suc now) key ≡ true) → absent_by key start (suc now) ≡ absent_by key start now
    absent_stays kept =
        elim (ℕ_discrete (absent_by key start now) 0) [
          | yes none ↦ absent_same (kept (present_now none))
          | no found ↦ absent_kept found
        ]

  -- at the start alone
  pub absent_first : (key start : ℕ) → absent_by key start start ≡ cond (has r start key) 0 start
  unfolding first absent_at
  absent_first key start = let one : suc start - start ≡ 1 = omega arith in rw one (go (has r start key))
    where
      go : (there : Bool) → cond (not there) start 0 ≡ cond there 0 start
      go true = refl
      go false = refl
