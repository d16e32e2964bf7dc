-- What a turn writes into the flat words is what it does to the record of its call.
use Prim.Native.Nat.{ℕ, suc, ◌*◌, ◌<◌}
use mathlib.Core.Path.{◌≡◌, refl, sym, ap, subst, ◌∙◌}
use mathlib.Core.Logic.{◌≢◌, inr}
use mathlib.Core.List.{List, ◌++◌, map}
use mathlib.Core.Bool.{Bool, true, false, cond, ◌&&◌, true≢false}
use mathlib.Mathlib.Data.Bool.Basic.{and_elim_left}
use native.Mathlib.Omega.{arith}
use native.Mathlib.Decide.{ℕ_discrete}
use native.Mathlib.Numerals.{sub-one}
use lib.ListN.{length, get_or, drop}
use borrow.Author.Tests.{eq-eqb, ne_eqb, eqb-true}
use Rattle.worker.specs.Worker.{contains}
use Rattle.worker.specs.declared.Worker.{Worker}
use Rattle.worker.specs.declared.report.Report.{Report}
use Rattle.worker.specs.declared.report.Report.TheVariants as report
use Rattle.worker.specs.declared.report.Step.{Step}
use Rattle.words.specs.Records.{worker_at}
use Rattle.linear.specs.Entries.{turn_reported, is_started, is_finished}
use Rattle.linear.specs.History.{arena_at, finishes_at, decides_at, is_decision, is_late, answer_of, point_of}
use Rattle.linear.proofs.TimeLaws.{first_none}
use Rattle.linear.proofs.MoreTimes.{passing_same}
use Rattle.linear.proofs.State.{State, stepped}
use Rattle.linear.proofs.After.{own_after}
use Rattle.linear.proofs.Course.{Row, is_moved, Course, rests, goes_on, settles, ends}
use Rattle.linear.proofs.Timeline.{Schedule, arena, state, entry, outcome, run_starts_at, finishing, decisive, own_worker, turn_known, idle_unfinished, always}
use Rattle.linear.proofs.Phases.{not_decided, not_finished, Phase, runs, closes, finished, phase_at}
use Rattle.linear.proofs.Openings.{not_idle}
use Rattle.linear.proofs.OpenCalls.{open_next, At, open_at}
use Rattle.linear.proofs.Waiting.{starts}
use Rattle.schedule.specs.declared.Call.{Call}
use Rattle.schedule.specs.declared.book.Book.{Book}
use Rattle.words.specs.Flat.{flat_words}
use Rattle.schedule.specs.Run.{record_of, call_width, call_words}
use Rattle.schedule.specs.Book as book
use Rattle.schedule.specs.Book.{call_in, finished_call, decided_call, decision_point, with_finish, with_decision, next_book, next_calls}
use Rattle.schedule.proofs.CallsBy.{finish_by, decision_by, call_by, call_finishes, call_decides, open_unfinished}
use Rattle.schedule.proofs.Missed.{absent_by}
use Rattle.schedule.proofs.Booked.{Booked}
use Rattle.schedule.proofs.Written.{record_by, held, all_still, its_record, written_there}

-- a turn that decides nothing writes nothing
undecided_words : (words : List ℕ) (number : ℕ) (before : Worker) (answer absent time : ℕ) → book.settles before answer ≡ false →
    with_decision words number before answer absent time ≡ words
unfolding with_decision
undecided_words words number before answer absent time silent = rw silent

and_true : (a : Bool) → (a && true) ≡ a
and_true true = refl
and_true false = refl

module _ (r : Schedule) (now : ℕ) (report : Report) (event : outcome r now ≡ turn_reported report) where
  abbrev v : ℕ
  v = (entry r now).worker

  abbrev before : Worker
  before = worker_at (arena r now) v

  abbrev answer : ℕ
  answer = (worker_at (arena r (suc now)) v).answer

  -- the turn finishes or decides the worker's call, as its report and the records before and after it say
  finishing_is : finishing r v (suc now) ≡ is_finished (turn_reported report)
  unfolding finishes_at
  finishing_is = rw (event, eq-eqb v v refl) (and_true (is_finished (turn_reported report)))

  decisive_is : decisive r v (suc now) ≡ book.settles before answer
  unfolding decides_at
  decisive_is = rw (event, eq-eqb v v refl, sub-one)

  -- what does not hold of the worker, nor of others
  nobody : (test : ℕ → ℕ → Bool) → test v (suc now) ≡ false → ((w : ℕ) → v ≢ w → test w (suc now) ≡ false) →
      (w : ℕ) → test w (suc now) ≡ false
  nobody test own others w =
      elim (ℕ_discrete v w) [ yes e ↦ subst (λ u. test u (suc now) ≡ false) e own | no d ↦ others w d ]

  -- it does neither; or it finishes the call of a busy worker; or it moves and decides one that was not decided before
  pub data Kind : Type 0 where
    quiet : is_finished (turn_reported report) ≡ false → book.settles before answer ≡ false → Kind
    finishes : ((state r now).worker v).stage ≢ 0 → is_finished (turn_reported report) ≡ true → book.settles before answer ≡ false → Kind
    decides_it : ((state r now).worker v).stage ≢ 0 → is_moved report ≡ true → book.settles before answer ≡ true →
        ((state r now).worker v).answer ≡ 0 → Kind

  pub kind : (step : Step) → report ≡ step.report → Row r.nodes (state r now) v step →
      state r (suc now) ≡ stepped (state r now) v step → Kind
  unfolding is_decision
  kind step same row next = go row.course
    where
      known : v < r.workers
      known = turn_known r now event

      -- in the states
      settles_is : book.settles before answer ≡ is_decision ((state r now).worker v).stage step.worker.answer
      settles_is =
          ap (λ (w : Worker). is_decision w.stage answer) (sym (own_worker r now v known))
          ∙ ap (λ (w : Worker). is_decision ((state r now).worker v).stage w.answer)
          (sym (own_worker r (suc now) v known)
          ∙ ap (λ (s : State). s.worker v) next ∙ own_after (always r now) v row.act row.placed)

      finished_is : is_finished (turn_reported report) ≡ is_finished (turn_reported step.report)
      finished_is = ap (λ t. is_finished (turn_reported t)) same

      go : Course row.act step.worker step.report → Kind
      go (rests keeps idle) =
          quiet (sym (ap is_finished event) ∙ idle_unfinished r now idle)
          (settles_is ∙ ap (λ stage. is_decision stage step.worker.answer) idle)
      go (goes_on keeps continues kept silent unfinished onward) = quiet (finished_is ∙ unfinished) (settles_is ∙ silent)
      go (settles verdict continues none some settled moves) =
          decides_it (not_idle ((state r now).worker v).stage step.worker.answer settled) (ap is_moved same ∙ moves)
          (settles_is ∙ settled) none
      go (ends keeps stage idle done) =
          finishes (omega (arith, stage)) (finished_is ∙ done) (settles_is ∙ ap (λ stage. is_decision stage step.worker.answer) stage)

  -- the words of the records at the next time, which are as many
  module _ (lent : List ℕ) where
    abbrev pub next_words : List ℕ
    next_words = flat_words call_words (map (record_by r (suc now)) (starts r now)) ++ drop (call_width * length (starts r now)) lent

    held_next : next_words ≡ held r lent (suc now)
    held_next =
        ap (λ xs. flat_words call_words (map (record_by r (suc now)) xs) ++ drop (call_width * length xs) lent)
        (sym (passing_same (run_starts_at r) now (ap is_started event)))

    -- the call that the worker is at
    module _ (at : At r now v) (book₀ : Book) (booked : Booked r now book₀) where
      abbrev begin : ℕ
      begin = suc at.origin

      abbrev its : ℕ
      its = get_or book₀.opened v 0

      own_test : (test : ℕ → ℕ → Bool) {answer : Bool} → test v (suc now) ≡ answer → test (entry r at.origin).worker (suc now) ≡ answer
      own_test test {answer} e = subst (λ w. test w (suc now) ≡ answer) (sym at.own) e

      unfinished : finish_by r now begin ≡ 0
      unfinished = open_unfinished r at.origin at.begun now at.is_open

      -- a finish
      finish_is : is_finished (turn_reported report) ≡ true → book.settles before answer ≡ false →
          finished_call (record_by r now begin) (suc now) ≡ record_by r (suc now) begin
      unfolding call_by
      finish_is done silent =
          sym (ap record_of (call_finishes r now begin at.is_open.begun unfinished (own_test (finishing r) (finishing_is ∙ done))
          (own_test (decisive r) (decisive_is ∙ silent))))

      finish_words : is_finished (turn_reported report) ≡ true → book.settles before answer ≡ false →
          with_finish (held r lent now) its (suc now) ≡ next_words
      finish_words done silent =
          let rest = drop (call_width * length (starts r now)) lent in
          written_there r now at book₀ booked rest (finished_call (call_in (held r lent now) its) (suc now))
          (ap (λ (c : Call). finished_call c (suc now)) (its_record r now at book₀ booked rest) ∙ finish_is done silent)

      -- a decision: none before
      none_before : ((state r now).worker v).answer ≡ 0 → decision_by r now begin ≡ 0
      none_before unanswered = go (phase_at r at.origin at.begun now at.is_open.begun)
        where
          go : Phase r at.origin at.begun now → decision_by r now begin ≡ 0
          go (runs o undecided none look) =
              rw unfinished (first_none _ _ _ (λ t low high. none t (omega arith) (omega (arith, at.is_open.begun))))
          go (closes o decided time past it) = absurd (decided (subst (λ w. ((state r now).worker w).answer ≡ 0) (sym at.own) unanswered))
          go (finished time finish past earlier it done rest none) =
              absurd (true≢false (sym done ∙ at.is_open.unfinished (suc finish) (omega (arith, it.begun)) (omega arith)))

      -- its answer and its point
      answer_is : answer ≡ answer_of r.initial r.entries (entry r at.origin).worker (suc now)
      unfolding answer_of
      answer_is =
          rw (ne_eqb (suc now) 0 (omega arith)) (ap (λ w. (worker_at (arena r (suc now)) w).answer) (sym at.own))

      operation_is : before.operation ≡ (entry r at.origin).act
      operation_is =
          ap (λ (w : Worker). w.operation) (sym (own_worker r now v (turn_known r now event)))
          ∙ subst (λ w. ((state r now).worker w).operation ≡ (entry r at.origin).act) at.own at.is_open.same_operation

      module _ (book₁ : Book) (next : Booked r (suc now) book₁) (unfinished_yet : is_finished (turn_reported report) ≡ false) where
        abbrev absent : ℕ
        absent = get_or book₁.absent v 0

        missed_first : (entry r at.origin).act ≡ contains → absent ≡ absent_by r (entry r at.origin).key begin (suc now)
        missed_first asks =
            subst (λ w. get_or book₁.absent w 0 ≡ absent_by r (entry r at.origin).key begin (suc now)) at.own
            (next.missed_first at.origin at.begun
            (open_next r at.origin at.begun now at.is_open (own_test (finishing r) (finishing_is ∙ unfinished_yet))) asks)

        point_is : decision_point before.operation (answer) absent (suc now)
            ≡ point_of r.initial r.entries (entry r at.origin) begin (suc now) (answer)
        unfolding point_of
        point_is = rw operation_is (go (is_late (entry r at.origin).act (answer)) refl)
          where
            go : (late : Bool) → is_late (entry r at.origin).act (answer) ≡ late →
                cond late absent (suc now) ≡ cond late (absent_by r (entry r at.origin).key begin (suc now)) (suc now)
            go true e = missed_first (eqb-true _ _ (and_elim_left _ _ e))
            go false e = refl

        decision_is : book.settles before answer ≡ true → ((state r now).worker v).answer ≡ 0 →
            decided_call (record_by r now begin) (decision_point before.operation (answer) absent (suc now)) (answer)
            ≡ record_by r (suc now) begin
        unfolding call_by
        decision_is decided unanswered =
            (λ k. record {
              worker = (entry r at.origin).worker;
              operation = (entry r at.origin).act;
              key = (entry r at.origin).key;
              start = begin;
              point = (point_is ∙ ap (point_of r.initial r.entries (entry r at.origin) begin (suc now)) answer_is) k;
              finish = unfinished k;
              answer = answer_is k;
            })
            ∙ sym (ap record_of (call_decides r now begin at.is_open.begun unfinished
            (own_test (finishing r) (finishing_is ∙ unfinished_yet)) (none_before unanswered)
            (own_test (decisive r) (decisive_is ∙ decided))))

        decision_words : book.settles before answer ≡ true → ((state r now).worker v).answer ≡ 0 →
            with_decision (held r lent now) its before answer absent (suc now) ≡ next_words
        unfolding with_decision
        decision_words decided unanswered =
            let rest = drop (call_width * length (starts r now)) lent in
            let point = decision_point before.operation (answer) absent (suc now) in
            rw decided
            (written_there r now at book₀ booked rest (decided_call (call_in (held r lent now) its) point (answer))
            (ap (λ (c : Call). decided_call c point (answer)) (its_record r now at book₀ booked rest)
            ∙ decision_is decided unanswered))

  -- where nothing is finished or decided, the records stay
  quiet_words : (lent : List ℕ) → is_finished (turn_reported report) ≡ false → book.settles before answer ≡ false →
      held r lent now ≡ held r lent (suc now)
  quiet_words lent unfinished silent =
      ap (λ calls. flat_words call_words calls ++ drop (call_width * length (starts r now)) lent)
      (all_still r now (nobody (finishing r) (finishing_is ∙ unfinished) (λ w other. not_finished r w now (inr other)))
      (nobody (decisive r) (decisive_is ∙ silent) (λ w other. not_decided r w now (inr other))))
      ∙ held_next lent

-- so the words that a turn leaves are those of the records at the next time
module _ (r : Schedule) (now : ℕ) (lent : List ℕ) (book₀ : Book) (booked : Booked r now book₀) where
  abbrev pub turned_words : Report → List ℕ
  turned_words report = next_calls (arena r now) (suc now) (entry r now) book₀ (held r lent now) (turn_reported report)

  pub turn_words : (report : Report) (event : outcome r now ≡ turn_reported report) →
      Booked r (suc now) (next_book (arena r now) (suc now) (entry r now) book₀ (turn_reported report)) → Kind r now report event →
      turned_words report ≡ held r lent (suc now)
  unfolding next_calls next_book arena_at
  turn_words report.Idle event next (quiet unfinished silent) = quiet_words r now report.Idle event lent unfinished silent
  turn_words report.Idle event next (finishes busy done silent) = absurd (true≢false (sym done))
  turn_words report.Idle event next (decides_it busy moves decided unanswered) = absurd (true≢false (sym moves))
  turn_words (report.Moved stage) event next (quiet unfinished silent) =
      undecided_words (held r lent now) _ _ _ _ _ silent ∙ quiet_words r now (report.Moved stage) event lent unfinished silent
  turn_words (report.Moved stage) event next (finishes busy done silent) = absurd (true≢false (sym done))
  turn_words (report.Moved stage) event next (decides_it busy moves decided unanswered) =
      decision_words r now (report.Moved stage) event lent (open_at r now (entry r now).worker busy) book₀ booked _ next refl decided unanswered
      ∙ held_next r now (report.Moved stage) event lent
  turn_words (report.Waits node worker) event next (quiet unfinished silent) =
      quiet_words r now (report.Waits node worker) event lent unfinished silent
  turn_words (report.Waits node worker) event next (finishes busy done silent) = absurd (true≢false (sym done))
  turn_words (report.Waits node worker) event next (decides_it busy moves decided unanswered) = absurd (true≢false (sym moves))
  turn_words (report.Finished told) event next (quiet unfinished silent) = absurd (true≢false unfinished)
  turn_words (report.Finished told) event next (finishes busy done silent) =
      finish_words r now (report.Finished told) event lent (open_at r now (entry r now).worker busy) book₀ booked done silent
      ∙ held_next r now (report.Finished told) event lent
  turn_words (report.Finished told) event next (decides_it busy moves decided unanswered) = absurd (true≢false (sym moves))
