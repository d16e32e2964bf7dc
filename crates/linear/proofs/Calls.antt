-- The calls of a list of entries: what becomes of each, and that no two act at one time.
use Prim.Native.Nat.{ℕ, suc, ◌≤◌, ◌<◌}
use mathlib.Core.Path.{◌≡◌, refl, sym, ap, subst, ◌∙◌}
use mathlib.Core.Logic.{◌⊎◌, inl, inr, ⊎_elim, ◌≢◌}
use mathlib.Core.Bool.{true≢false}
use native.Mathlib.Omega.{arith}
use native.Mathlib.Decide.{dec_lt}
use Rattle.worker.specs.Worker.{contains}
use Rattle.worker.specs.Report.{answer_number}
use Rattle.worker.specs.declared.report.Answer.TheVariants.{No}
use Rattle.linear.specs.History.{Call}
use Rattle.linear.specs.Order.{rank}
use Rattle.linear.proofs.Simulation.{Placed, acting, late}
use Rattle.linear.proofs.Timeline.{Begun, label, Schedule, state, last, entry, run_call_at}
use Rattle.linear.proofs.Keys.{none_found}
use Rattle.linear.proofs.Phases.{decider, Decided, Phase, runs, closes, finished, phase_at}
use Rattle.linear.proofs.Points.{Fate, waits, acted, looked}

-- a contains that answers no is not the call whose turn it was
late_rank : (call : Call) {worker operation key length start point finish answer : ℕ} → operation ≡ contains → answer ≡ answer_number No →
    call ≡ record { worker = worker; operation = operation; key = key; length = length; start = start; point = point; finish = finish; answer = answer } →
    rank call ≡ 0 → ⊥
late_rank call {worker} asks denies e zeroth = let is : suc worker ≡ 0 = rw (e, asks, denies) at zeroth in omega arith

module _ (r : Schedule) where
  -- an answer is decided once
  pub decided_once : (time : ℕ) (b : Begun r time) {s t : ℕ} → Decided r time b s → Decided r time b t → s ≡ t
  decided_once time b {s} {t} x y =
      elim (dec_lt s t) [
        | yes l ↦ absurd (true≢false (sym x.decided ∙ y.undecided (suc s) (omega (arith, x.begun)) (omega arith)))
        | no l ↦ elim (dec_lt t s) [
          | yes m ↦ absurd (true≢false (sym y.decided ∙ x.undecided (suc t) (omega (arith, y.begun)) (omega arith)))
          | no m ↦ omega arith
        ]
      ]

  -- two calls of which one starts later are not decided by one turn: the worker was idle between them
  not_both : (s t : ℕ) (b : Begun r s) (c : Begun r t) → s < t → (d : ℕ) → Decided r s b d → Decided r t c d → ⊥
  not_both s t b c before d x y =
      go (phase_at r s b t before)
    where
      idle : ((state r t).worker (entry r s).worker).stage ≡ 0
      idle =
          subst (λ v. ((state r t).worker v).stage ≡ 0)
          (sym (decider r _ d y.decided) ∙ decider r _ d x.decided) c.idle

      go : Phase r s b t → ⊥
      go (runs o none undecided look) = o.busy idle
      go (closes o some time past it) = o.busy idle
      go (finished time finish past earlier it done rest none) = omega (arith, decided_once s b it x, y.begun)

  -- what is told of a call at the end: it is open, without an answer; or it has a point, from its start on and before its finish, where it
  -- is placed rightly
  pub data Told (call : Call) : Type 0 where
    open_yet : call.point ≡ 0 → call.finish ≡ 0 → call.answer ≡ 0 → Told call
    pointed : call.point ≢ 0 → call.start ≤ call.point → call.point ≤ last r → (call.finish ≡ 0) ⊎ (call.point < call.finish) →
        Placed (label r) call → Told call

  pub told : (time : ℕ) (b : Begun r time) → Fate r time b → Told (run_call_at r (suc time))
  told time b (waits e undecided) = subst Told (sym e) (open_yet refl refl refl)
  told time b (acted t finish it in_time later does e) =
      subst Told (sym e) (pointed (omega arith) (omega (arith, it.begun)) in_time later (acting t refl does))
  told time b (looked t finish point it in_time later asks denies absent low high e) =
      subst Told (sym e)
      (pointed (omega arith) low (omega arith) (⊎_elim inl (λ after. inr (omega arith)) later) (late asks denies (none_found r point _ absent)))

  -- two calls whose own turns their points are have different points
  pub own_points : (s t : ℕ) (b : Begun r s) (c : Begun r t) → s < t → Fate r s b → Fate r t c →
      (run_call_at r (suc s)).point ≡ (run_call_at r (suc t)).point →
      (rank (run_call_at r (suc s)) ≡ 0) × (rank (run_call_at r (suc t)) ≡ 0) →
      (run_call_at r (suc s)).point ≡ 0
  own_points s t b c before (waits e undecided) second same ranks = ap (λ (call : Call). call.point) e
  own_points s t b c before (looked d finish point it in_time later asks denies absent low high e) second same ranks =
      absurd (late_rank _ asks denies e ranks.0)
  own_points s t b c before (acted d finish it in_time later does e) (waits f undecided) same ranks =
      same ∙ ap (λ (call : Call). call.point) f
  own_points s t b c before (acted d finish it in_time later does e)
      (looked d' finish' point it' in' later' asks denies absent low high f) same ranks =
      absurd (late_rank _ asks denies f ranks.1)
  own_points s t b c before (acted d finish it in_time later does e) (acted d' finish' it' in' later' does' f) same ranks =
      let point : suc d ≡ suc d' = sym (ap (λ (call : Call). call.point) e) ∙ same ∙ ap (λ (call : Call). call.point) f in
      absurd (not_both s t b c before d it (subst (Decided r t c) (omega arith) it'))
