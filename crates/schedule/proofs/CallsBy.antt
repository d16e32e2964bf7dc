-- The record of a call as far as it is known at a time, and how it changes with the next entry.
use Prim.Native.Nat.{ℕ, suc, ◌+◌, ◌-◌, ◌≤◌}
use mathlib.Core.Path.{◌≡◌, refl, ap, ◌∙◌}
use mathlib.Core.Logic.{◌≢◌, ◌⊎◌, inl, inr}
use mathlib.Core.Bool.{true, false, cond, and-false}
use native.Mathlib.Omega.{arith}
use lib.Dec.{eqb}
use borrow.Author.Tests.{ne_eqb}
use Rattle.words.specs.declared.entry.Entry.{Entry}
use Rattle.linear.specs.Times.{first}
use Rattle.linear.specs.History.{Call, entry_at, finish_of, decision_of, answer_of, point_of, call_at}
use Rattle.linear.proofs.TimeLaws.{first_none, first_found}
use Rattle.linear.proofs.Timeline.{Schedule, Begun, last, entry, decisive, finishing, run_call_at}
use Rattle.linear.proofs.Phases.{Open, Phase, runs, closes, finished, phase_at}
use Rattle.linear.proofs.MoreTimes.{first_kept, first_same, first_now}

module _ (r : Schedule) where
  -- a call is known by its start; its entry
  abbrev pub opening : ℕ → Entry
  opening start = entry_at r.entries start

  -- its record, with a finish and a decision
  abbrev pub made : ℕ → ℕ → ℕ → Call
  made start finish decision =
      let v = (opening start).worker in
      let answer = answer_of r.initial r.entries v decision in
      record {
        worker = v;
        operation = (opening start).act;
        key = (opening start).key;
        length = (opening start).length;
        start = start;
        point = point_of r.initial r.entries (opening start) start decision answer;
        finish = finish;
        answer = answer;
      }

  -- its finish and its decision among the entries up to now
  abbrev pub finish_by : ℕ → ℕ → ℕ
  finish_by now start = first (finishing r (opening start).worker) (suc start) (now - start)

  abbrev decision_in : ℕ → ℕ → ℕ → ℕ
  decision_in now start finish = first (decisive r (opening start).worker) (suc start) (cond (eqb finish 0) now finish - start)

  abbrev pub decision_by : ℕ → ℕ → ℕ
  decision_by now start = decision_in now start (finish_by now start)

  unfoldable pub call_by : ℕ → ℕ → Call
  call_by now start = made start (finish_by now start) (decision_by now start)

  -- at the end it is the record of the history
  pub call_last : (start : ℕ) → call_by (last r) start ≡ run_call_at r start
  unfolding call_by call_at finish_of decision_of
  call_last start = refl

  -- at its start nothing is known of it but its entry
  abbrev pub new : ℕ → Call
  new start =
      record {
        worker = (opening start).worker;
        operation = (opening start).act;
        key = (opening start).key;
        length = (opening start).length;
        start = start;
        point = 0;
        finish = 0;
        answer = 0;
      }

  undecided : (start : ℕ) → made start 0 0 ≡ new start
  unfolding answer_of point_of
  undecided start = rw and-false

  pub call_new : (start : ℕ) → call_by start start ≡ new start
  unfolding call_by first
  call_new start =
      let none : start - start ≡ 0 = omega arith in
      let unfinished : finish_by start start ≡ 0 = rw none in
      let open_yet : decision_in start start 0 ≡ 0 = rw none in
      rw (unfinished, open_yet) (undecided start)

  -- with the next entry
  module _ (now start : ℕ) (begun : start ≤ now) where
    abbrev v : ℕ
    v = (opening start).worker

    more : suc now - start ≡ suc (now - start)
    more = omega arith

    place : suc start + (now - start) ≡ suc now
    place = omega arith

    finish_same : finishing r v (suc now) ≡ false → finish_by (suc now) start ≡ finish_by now start
    finish_same fails = rw more (first_same (finishing r v) (suc start) (now - start) (omega arith) (rw place fails))

    decision_same : decisive r v (suc now) ≡ false → decision_in (suc now) start 0 ≡ decision_in now start 0
    decision_same fails = rw more (first_same (decisive r v) (suc start) (now - start) (omega arith) (rw place fails))

    -- nothing happens to a call that is finished
    pub call_done : finish_by now start ≢ 0 → call_by (suc now) start ≡ call_by now start
    unfolding call_by
    call_done done =
        let same : finish_by (suc now) start ≡ finish_by now start
        = rw more (first_kept (finishing r v) (suc start) (now - start) (omega arith) done) in
        rw (same, ne_eqb (finish_by now start) 0 done)

    -- one that goes on stays as it is where the entry neither decides nor finishes it
    module _ (runs : finish_by now start ≡ 0) where
      pub call_quiet : finishing r v (suc now) ≡ false → decisive r v (suc now) ≡ false → call_by (suc now) start ≡ call_by now start
      unfolding call_by
      call_quiet unfinished undecided =
          rw (finish_same unfinished, runs) (ap (made start 0) (decision_same undecided))

      -- a finish is written, and no more
      pub call_finishes : finishing r v (suc now) ≡ true → decisive r v (suc now) ≡ false →
          call_by (suc now) start ≡ made start (suc now) (decision_by now start)
      unfolding call_by
      call_finishes done undecided =
          let ends : finish_by (suc now) start ≡ suc now
          = rw more (first_now (finishing r v) (suc start) (now - start) (omega arith) runs (rw place done)) ∙ place in
          rw (ends, ne_eqb (suc now) 0 (omega arith), runs) (ap (made start (suc now)) (decision_same undecided))

      -- a decision
      pub call_decides : finishing r v (suc now) ≡ false → decision_by now start ≡ 0 → decisive r v (suc now) ≡ true →
          call_by (suc now) start ≡ made start 0 (suc now)
      unfolding call_by
      call_decides unfinished none decided =
          let none_yet : decision_in now start 0 ≡ 0 = rw runs at none in
          let decides : decision_in (suc now) start 0 ≡ suc now
          = rw more (first_now (decisive r v) (suc start) (now - start) (omega arith) none_yet (rw place decided)) ∙ place in
          rw (finish_same unfinished, runs) (ap (made start 0) decides)

  -- a call is open or finished
  module _ (origin : ℕ) (b : Begun r origin) where
    pub open_or_done : (now : ℕ) → suc origin ≤ now → Open r origin b now ⊎ (finish_by now (suc origin) ≢ 0)
    open_or_done now begun = go (phase_at r origin b now begun)
      where
        go : Phase r origin b now → Open r origin b now ⊎ (finish_by now (suc origin) ≢ 0)
        go (runs o undecided none look) = inl o
        go (closes o decided time past it) = inl o
        go (finished time finish past earlier it done rest none) =
            let found = first_found (finishing r (entry r origin).worker) (suc (suc origin)) (now - suc origin) {some = suc finish}
            (omega (arith, it.begun)) (omega (arith, it.begun)) done in
            inr (omega (arith, found.1))

    pub open_unfinished : (now : ℕ) → Open r origin b now → finish_by now (suc origin) ≡ 0
    open_unfinished now o = first_none _ _ _ (λ t low high. o.unfinished t (omega arith) (omega (arith, o.begun)))
