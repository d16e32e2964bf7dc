-- At its finish a call's worker reports the answer that was decided: from the decision on, the record keeps it.
use Prim.Native.Nat.{ℕ, zero, suc, ◌+◌, ◌-◌, ◌≤◌, ◌<◌}
use mathlib.Core.Path.{◌≡◌, refl, sym, ap, subst, ◌∙◌}
use mathlib.Core.Logic.{◌⊎◌, inl, inr, ⊎_elim, ◌≢◌}
use mathlib.Core.Bool.{Bool, true, false, cond, true≢false}
use native.Mathlib.Omega.{arith}
use lib.ListN.{get_or}
use lib.Dec.{eqb}
use borrow.Author.Tests.{eqb-true}
use Rattle.worker.specs.Worker.{within}
use Rattle.worker.specs.Report.{numbered_answer}
use Rattle.worker.specs.Stages.{reports, stage_table, step_of}
use Rattle.worker.specs.declared.Worker.{Worker}
use Rattle.worker.specs.declared.report.Report.TheVariants.{Idle, Finished}
use Rattle.worker.specs.Seen.{Seen}
use Rattle.worker.specs.declared.report.Step.{Step}
use Rattle.worker.proofs.Laws.{range_bounds}
use Rattle.worker.proofs.ReportLaws.{numbered_back}
use Rattle.worker.proofs.TurnLaws.{step_row}
use Rattle.linear.specs.Entries.{turn_reported, is_finished}
use Rattle.linear.specs.History.{Call, finish_of, call_at}
use Rattle.linear.specs.Linearizable.{Tells}
use Rattle.linear.proofs.TimeLaws.{first_holds}
use Rattle.linear.proofs.Reach.{same?}
use Rattle.linear.proofs.State.{State, seen_in}
use Rattle.linear.proofs.Promises.{has_answer}
use Rattle.linear.proofs.Invariant.{Inv}
use Rattle.linear.proofs.TurnKinds.{sane_parts}
use Rattle.linear.proofs.Timeline.{Schedule, Begun, For, not_its, its_start, its_turn, entry_for, step_at, state, last, entry, outcome, always, finishing, run_call_at}
use Rattle.linear.proofs.Phases.{not_finished, turn_finishes, Decided, Phase, runs, closes, finished, phase_at}
use Rattle.linear.proofs.Points.{made, answer_at, Fate, waits, acted, looked}

-- a busy worker that has an answer is at 17 to 21, and the answer is one of the three
closing : {nodes : ℕ} {s : State} → Inv nodes s → (v : ℕ) → (s.worker v).stage ≢ 0 → (s.worker v).answer ≢ 0 →
    (has_answer (s.worker v).stage ≡ true) × (within 1 3 (s.worker v).answer ≡ true)
closing {s = s} inv v busy some = go (has_answer (s.worker v).stage) (sane_parts inv v refl busy).2
  where
    go : (late : Bool) → cond late (within 1 3 (s.worker v).answer) (eqb (s.worker v).answer 0) ≡ true →
        (late ≡ true) × (within 1 3 (s.worker v).answer ≡ true)
    go true given = (refl, given)
    go false none = absurd (some (eqb-true _ 0 none))

-- a turn there keeps the answer and does not finish, or it finishes and reports the answer
abbrev Closes : Worker → Step → Type 0
Closes w step =
    ((step.worker.answer ≡ w.answer) × (is_finished (turn_reported step.report) ≡ false))
    ⊎ (step.report ≡ Finished (numbered_answer w.answer))

step_closes : (w : Worker) (owner : ℕ) (seen : Seen) → has_answer w.stage ≡ true → Closes w (step_of w owner seen)
step_closes w owner seen late =
    ⊎_elim (λ e. row e (inl (refl, refl)))
    (λ a. ⊎_elim (λ e. row e (inl (refl, refl)))
    (λ b. ⊎_elim (λ e. row e (inl (refl, refl)))
    (λ c. ⊎_elim (λ e. row e (inl (refl, refl)))
    (λ d. let bounds = range_bounds 17 21 w.stage late in row {stage = 21} (omega arith) (inr refl))
    (same? w.stage 20)) (same? w.stage 19)) (same? w.stage 18)) (same? w.stage 17)
  where
    row : {stage : ℕ} → w.stage ≡ stage → Closes w (get_or (stage_table w owner seen) stage (reports w Idle)) → Closes w (step_of w owner seen)
    row at = subst (Closes w) (sym (step_row w owner seen at))

-- at its finish a call's worker reports the call's answer
abbrev pub Telling : Schedule → Call → Type 0
Telling r call = call.finish ≢ 0 → Tells r.initial r.entries call.worker call.answer call.finish

module _ (r : Schedule) (origin : ℕ) (b : Begun r origin) where
  abbrev v : ℕ
  v = (entry r origin).worker

  abbrev mine : ℕ → Worker
  mine now = (state r now).worker v

  -- the entry that leads to a time is a turn of the worker that finishes with an answer
  abbrev Ends : ℕ → ℕ → Type 0
  Ends answer time = Tells r.initial r.entries v answer time

  -- an entry leaves a worker's answer and does not finish its call, or finishes it and tells the answer
  data Goes (now : ℕ) : Type 0 where
    keeps : finishing r v (suc now) ≡ false → (mine (suc now)).answer ≡ (mine now).answer → Goes now
    tells : finishing r v (suc now) ≡ true → Ends (mine now).answer (suc now) → Goes now

  goes : (now : ℕ) → (mine now).stage ≢ 0 → (mine now).answer ≢ 0 → Goes now
  goes now busy some = go (entry_for r now v)
    where
      late : (has_answer (mine now).stage ≡ true) × (within 1 3 (mine now).answer ≡ true)
      late = closing (always r now) v busy some

      own_turn : (entry r now).worker ≡ v → outcome r now ≡ turn_reported (step_at r now v).report →
          mine (suc now) ≡ (step_at r now v).worker → Closes (mine now) (step_at r now v) → Goes now
      own_turn own event after (inl kept) =
          keeps (turn_finishes r origin b now event own ∙ kept.1) (ap (λ (w : Worker). w.answer) after ∙ kept.0)
      own_turn own event after (inr told) =
          tells (turn_finishes r origin b now event own ∙ ap (λ report. is_finished (turn_reported report)) told)
          (record {
            answer = numbered_answer (mine now).answer;
            own = own;
            event = event ∙ ap turn_reported told;
            numbered = numbered_back (mine now).answer late.1;
          })

      go : For r now v → Goes now
      go (not_its apart same) = keeps (not_finished r v now apart) (ap (λ (w : Worker). w.answer) same)
      go (its_start idle started) = absurd (busy idle)
      go (its_turn own event after) =
          own_turn own event after (step_closes (mine now) (suc v) (seen_in r.workers r.nodes (state r now) v) late.0)

  -- of a call that is decided by the entry after a time, and finishes
  module _ (t finish : ℕ) (it : Decided r origin b t) (later : suc t < finish) (done : finishing r v finish ≡ true)
      (none : (time : ℕ) → suc origin < time → time < finish → finishing r v time ≡ false) where
    -- in between its worker is busy, and has an answer
    between : (now : ℕ) → suc t ≤ now → now < finish → ((mine now).stage ≢ 0) × ((mine now).answer ≢ 0)
    between now low high = go (phase_at r origin b now (omega (arith, it.begun)))
      where
        go : Phase r origin b now → ((mine now).stage ≢ 0) × ((mine now).answer ≢ 0)
        go (runs o unanswered undecided look) = absurd (true≢false (sym it.decided ∙ undecided (suc t) (omega (arith, it.begun)) low))
        go (closes o some time past decided) = (o.busy, some)
        go (finished time end past earlier decided ends rest before) =
            absurd (true≢false (sym ends ∙ none (suc end) (omega (arith, decided.begun)) (omega arith)))

    -- so what is told at the finish is the answer of the time before, and of each time back to the decision
    at_finish : (now : ℕ) → suc now ≡ finish → Goes now → Ends (mine now).answer finish
    at_finish now e (keeps unfinished same) = absurd (true≢false (sym done ∙ subst (λ time. finishing r v time ≡ false) e unfinished))
    at_finish now e (tells finishes told) = subst (Ends (mine now).answer) e told

    before_finish : (now : ℕ) → suc t ≤ now → suc now < finish → Goes now → Ends (mine (suc now)).answer finish →
        Ends (mine now).answer finish
    before_finish now low high (keeps unfinished same) told = subst (λ answer. Ends answer finish) same told
    before_finish now low high (tells finishes early) told =
        absurd (true≢false (sym finishes ∙ none (suc now) (omega (arith, it.begun)) high))

    told_from : (left now : ℕ) → now + suc left ≡ finish → suc t ≤ now → Ends (mine now).answer finish
    told_from zero now end low =
        let busy = between now low (omega arith) in at_finish now (omega arith) (goes now busy.0 busy.1)
    told_from (suc left) now end low =
        let busy = between now low (omega arith) in
        before_finish now low (omega arith) (goes now busy.0 busy.1) (told_from left (suc now) (omega arith) (omega arith))

    decided_told : Ends (mine (suc t)).answer finish
    decided_told = told_from (finish - suc (suc t)) (suc t) (omega arith) (omega arith)

  -- so it is with a call that is decided, by its record
  of_record : (t finish point : ℕ) → Decided r origin b t → (finish ≡ 0) ⊎ (suc t < finish) →
      run_call_at r (suc origin) ≡ made r origin b point finish (answer_at r origin b t) → Telling r (run_call_at r (suc origin))
  unfolding call_at finish_of
  of_record t finish point it later e some =
      let same : finish_of r.initial r.entries v (suc origin) ≡ finish = ap (λ (call : Call). call.finish) e in
      let holds = first_holds (finishing r v) (suc (suc origin)) (last r - suc origin) some in
      subst (λ (call : Call). Tells r.initial r.entries call.worker call.answer call.finish) (sym e)
      (decided_told t finish it (⊎_elim (λ none. absurd (some (same ∙ none))) (λ after. after) later)
      (subst (λ time. finishing r v time ≡ true) same holds.0)
      (λ time low high. holds.1 time low (omega (arith, same))))

  pub told_answer : Fate r origin b → Telling r (run_call_at r (suc origin))
  told_answer (waits e undecided) = λ some. absurd (some (ap (λ (call : Call). call.finish) e))
  told_answer (acted t finish it in_time later does e) = of_record t finish (suc t) it later e
  told_answer (looked t finish point it in_time later asks denies absent low high e) = of_record t finish point it later e
