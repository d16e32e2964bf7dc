-- The record of a call, from the phase that it is in at the end: its point, its finish and its answer.
use Prim.Native.Nat.{ℕ, suc, ◌-◌, ◌≤◌, ◌<◌}
use mathlib.Core.Path.{◌≡◌, refl, sym, ap}
use mathlib.Core.Logic.{◌⊎◌, inl, inr}
use mathlib.Core.Bool.{false, cond, and-false}
use native.Mathlib.Omega.{arith}
use lib.Dec.{eqb}
use borrow.Author.Tests.{ne_eqb, not-true}
use Rattle.worker.specs.Worker.{contains}
use Rattle.worker.specs.Report.{answer_number}
use Rattle.worker.specs.declared.Worker.{Worker}
use Rattle.worker.specs.declared.report.Answer.TheVariants.{No}
use Rattle.linear.specs.Times.{first}
use Rattle.linear.specs.History.{Call, absent_at, finish_of, decision_of, answer_of, point_of, call_at}
use Rattle.linear.proofs.TimeLaws.{first_none, first_is, first_found}
use Rattle.linear.proofs.Simulation.{Does, does_early}
use Rattle.linear.proofs.Timeline.{Begun, has, label, own_worker, Schedule, state, last, entry, decisive, finishing, run_call_at}
use Rattle.linear.proofs.Phases.{Settled, acts, looks_up, Decided, Phase, runs, closes, finished, phase_at}

module _ (r : Schedule) where
  -- the call that the entry after a time starts
  module _ (time : ℕ) (b : Begun r time) where
    abbrev v : ℕ
    v = (entry r time).worker

    abbrev operation : ℕ
    operation = (entry r time).act

    abbrev key : ℕ
    key = (entry r time).key

    abbrev length : ℕ
    length = (entry r time).length

    -- its record, with a point, a finish and an answer
    abbrev pub made : ℕ → ℕ → ℕ → Call
    made point finish answer =
        record {
          worker = v;
          operation = operation;
          key = key;
          length = length;
          start = suc time;
          point = point;
          finish = finish;
          answer = answer;
        }

    made_of : {finish decision answer point : ℕ} → finish_of r.initial r.entries v (suc time) ≡ finish →
        decision_of r.initial r.entries v (suc time) finish ≡ decision →
        answer_of r.initial r.entries v decision ≡ answer →
        point_of r.initial r.entries (entry r time) (suc time) decision answer ≡ point →
        run_call_at r (suc time) ≡ made point finish answer
    unfolding call_at
    made_of f d a p = rw (f, d, a, p)

    -- nothing is decided: the record is open
    open_record : suc time ≤ last r →
        ((t : ℕ) → suc time < t → t ≤ last r → finishing r v t ≡ false) →
        ((t : ℕ) → suc time < t → t ≤ last r → decisive r v t ≡ false) →
        run_call_at r (suc time) ≡ made 0 0 0
    unfolding finish_of decision_of answer_of point_of
    open_record begun unfinished undecided =
        made_of (first_none _ _ _ (λ t low high. unfinished t (omega arith) (omega arith)))
        (first_none _ _ _ (λ t low high. undecided t (omega arith) (omega arith))) refl (rw and-false)

    -- the answer that is decided by the entry after a time
    abbrev pub answer_at : ℕ → ℕ
    answer_at t = ((state r (suc t)).worker v).answer

    -- what becomes of the call up to the end: nothing is decided; or it acts at its own point; or it is a contains that answers no
    pub data Fate : Type 0 where
      waits : run_call_at r (suc time) ≡ made 0 0 0 →
          ((t : ℕ) → suc time < t → t ≤ last r → decisive r v t ≡ false) → Fate
      acted : (t finish : ℕ) → Decided r time b t → t < last r → (finish ≡ 0) ⊎ (suc t < finish) →
          Does (label r t) (label r (suc t)) operation key length (answer_at t) →
          run_call_at r (suc time) ≡ made (suc t) finish (answer_at t) → Fate
      looked : (t finish point : ℕ) → Decided r time b t → t < last r → (finish ≡ 0) ⊎ (suc t < finish) →
          operation ≡ contains → answer_at t ≡ answer_number No → has r point key ≡ false →
          suc time ≤ point → point ≤ suc t → run_call_at r (suc time) ≡ made point finish (answer_at t) → Fate

    -- the record of a call that is decided, with the last of its turns
    module _ (t finish until : ℕ) (it : Decided r time b t) (in_time : t < last r) (later : (finish ≡ 0) ⊎ (suc t < finish))
        (finishes : finish_of r.initial r.entries v (suc time) ≡ finish)
        (ends : cond (eqb finish 0) (last r) finish ≡ until) (enough : suc t ≤ until) where
      decision : decision_of r.initial r.entries v (suc time) finish ≡ suc t
      unfolding decision_of
      decision =
          rw ends
          (first_is (decisive r v) (suc (suc time)) (until - suc time) (suc t) (omega (arith, it.begun)) (omega (arith, it.begun))
          it.decided (λ s low high. it.undecided s (omega arith) (omega arith)))

      answer : answer_of r.initial r.entries v (suc t) ≡ answer_at t
      unfolding answer_of
      answer = rw (ne_eqb (suc t) 0 (omega arith)) (ap (λ (w : Worker). w.answer) (sym (own_worker r (suc t) v b.known)))

      fate_of : Settled r time b t → Fate
      unfolding point_of absent_at
      fate_of (acts does) = acted t finish it in_time later does (made_of finishes decision answer (rw (does_early does)))
      fate_of (looks_up asks denies gone) =
          let found = first_found (absent_at r.initial r.entries key) (suc time) (suc (suc t) - suc time) gone.begun
          (omega (arith, gone.begun, gone.past, it.begun)) (rw gone.absent) in
          looked t finish (first (absent_at r.initial r.entries key) (suc time) (suc (suc t) - suc time)) it in_time
          later asks denies
          (not-true _ found.0) found.1 (omega (arith, found.2, gone.past))
          (made_of finishes decision answer (rw (asks, denies)))

    pub fate : suc time ≤ last r → Fate
    unfolding finish_of
    fate begun = go (phase_at r time b (last r) begun)
      where
        go : Phase r time b (last r) → Fate
        go (runs o none undecided look) = waits (open_record begun o.unfinished undecided) undecided
        go (closes o some t past it) =
            fate_of t 0 (last r) it past (inl refl)
            (first_none _ _ _ (λ s low high. o.unfinished s (omega arith) (omega arith))) refl past it.settled
        go (finished t finish past earlier it done rest none) =
            fate_of t (suc finish) (suc finish) it (omega arith) (inr (omega arith))
            (first_is _ _ _ (suc finish) (omega (arith, it.begun)) (omega arith) done (λ s low high. none s (omega arith) (omega arith)))
            (rw (ne_eqb (suc finish) 0 (omega arith))) (omega arith) it.settled
