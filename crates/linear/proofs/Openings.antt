-- The call that a busy worker is at, and that every change of the set is the point of a call.
use Prim.Native.Nat.{ℕ, zero, suc, ◌≤◌, ◌<◌}
use mathlib.Core.Path.{◌≡◌, sym, ap, subst, ◌∙◌}
use mathlib.Core.Logic.{◌⊎◌, inl, inr, ⊎_elim, ◌≢◌}
use mathlib.Core.List.Memᴰ
use mathlib.Core.List.{Memᴰ}
use mathlib.Core.Bool.{true, true≢false}
use native.Mathlib.Omega.{arith}
use native.Mathlib.Decide.{ℕ_discrete}
use borrow.Author.Tests.{ne_eqb}
use Rattle.worker.specs.Worker.{contains}
use Rattle.worker.specs.declared.Worker.{Worker}
use Rattle.worker.specs.declared.report.Step.{Step}
use Rattle.arena.specs.Sets.{set_of}
use Rattle.arena.proofs.ListLaws.{in_filter}
use Rattle.linear.specs.Entries.{turn_reported, is_started}
use Rattle.linear.specs.History.{Call, is_decision, arena_at, calls}
use Rattle.linear.specs.Order.{has_point, rank, in_order}
use Rattle.linear.proofs.TimeLaws.{in_times}
use Rattle.linear.proofs.OrderLaws.{in_sorted}
use Rattle.linear.proofs.Simulation.{does_early}
use Rattle.linear.proofs.LabelLaws.{find}
use Rattle.linear.proofs.State.{State, decode, stepped}
use Rattle.linear.proofs.After.{own_after, others_after}
use Rattle.linear.proofs.Course.{Row, Verdict, goes_in, goes_out, present, missing, late as late_verdict, Course, rests, goes_on, settles, ends}
use Rattle.linear.proofs.RestInvariant.{rest_idle}
use Rattle.linear.proofs.Timeline.{Begun, begun_at, label, Happens, nothing, start, turn, always, happens, Schedule, state, last, entry, outcome, run_starts_at, run_call_at, in_order_of}
use Rattle.linear.proofs.Keys.{label_kept, label_started}
use Rattle.linear.proofs.Phases.{Decided, Phase, runs, closes, finished, phase_at, decided_now}
use Rattle.linear.proofs.Points.{waits, acted, looked, Fate, fate}
use Rattle.linear.proofs.Calls.{decided_once}

-- no turn at 0 decides
pub not_idle : (stage answer : ℕ) → is_decision stage answer ≡ true → stage ≢ 0
unfolding is_decision
not_idle stage answer e idle = true≢false (sym (rw idle at e))

module _ (r : Schedule) where
  -- from a time to the next the set stays the same, or a call in order acts
  abbrev Same : ℕ → Type 0
  Same t = (key : ℕ) → label r (suc t) key ≡ label r t key

  abbrev Acts : ℕ → Type 0
  Acts t = (call : Call) × Memᴰ call (in_order_of r) × (call.point ≡ suc t) × (rank call ≡ 0)

  -- the call that a busy worker is at
  pub record Opened (now v : ℕ) : Type 0 where
    pub time : ℕ
    pub starting : run_starts_at r (suc time) ≡ true
    pub own : (entry r time).worker ≡ v
    pub past : suc time ≤ now
    pub busy : (t : ℕ) → suc time ≤ t → t ≤ now → ((state r t).worker v).stage ≢ 0

  pub opened : (now v : ℕ) → ((state r now).worker v).stage ≢ 0 → Opened now v
  unfolding arena_at
  opened zero v busy = absurd (busy (ap (λ (w : Worker). w.stage) (rest_idle r.rest v)))
  opened (suc now) v busy =
      elim (ℕ_discrete ((state r now).worker v).stage 0) [
        | no before ↦ longer (opened now v before)
        | yes idle ↦ newly idle (happens r now)
      ]
    where
      longer : Opened now v → Opened (suc now) v
      longer o =
          record {
            time = o.time;
            starting = o.starting;
            own = o.own;
            past = omega (arith, o.past);
            busy = λ t low high. elim (ℕ_discrete t (suc now)) [ yes e ↦ rw e busy | no d ↦ o.busy t low (omega arith) ];
          }

      -- a worker that was idle and is no more has been started
      stays : ((state r now).worker v).stage ≡ 0 → (state r (suc now)).worker v ≡ (state r now).worker v → Opened (suc now) v
      stays idle same = absurd (busy (ap (λ (w : Worker). w.stage) same ∙ idle))

      newly : ((state r now).worker v).stage ≡ 0 → Happens r now → Opened (suc now) v
      newly idle (nothing unstarted unreported unfinished same) = stays idle (ap (λ arena. (decode arena).worker v) same)
      newly idle (start event free call known next) =
          elim (ℕ_discrete (entry r now).worker v) [
            | yes e ↦
                record {
                  time = now;
                  starting = ap is_started event;
                  own = e;
                  past = omega arith;
                  busy = λ t low high. let is : t ≡ suc now = omega arith in rw is busy;
                }
            | no d ↦
                stays idle
                (ap (λ (s : State). s.worker v) next ∙ rw (ne_eqb v (entry r now).worker (λ e. d (sym e))))
          ]
      newly idle (turn step event row rest next) =
          elim (ℕ_discrete (entry r now).worker v) [
            | yes e ↦
                let mine : (state r (suc now)).worker (entry r now).worker ≡ (state r now).worker (entry r now).worker =
                ap (λ (s : State). s.worker (entry r now).worker) next
                ∙ own_after (always r now) _ row.act row.placed
                ∙ rest (subst (λ w. ((state r now).worker w).stage ≡ 0) (sym e) idle) in
                stays idle (subst (λ w. (state r (suc now)).worker w ≡ (state r now).worker w) e mine)
            | no d ↦
                stays idle
                (ap (λ (s : State). s.worker v) next
                ∙ others_after (always r now) _ row.act row.placed v (λ e. d (sym e)))
          ]

  -- a turn that changes the set: it decides the answer of an add or a remove
  record Changing (t v : ℕ) (step : Step) (row : Row r.nodes (state r t) v step) : Type 0 where
    verdict : Verdict row.act step.worker
    unanswered : ((state r t).worker v).answer ≡ 0
    decided : is_decision ((state r t).worker v).stage step.worker.answer ≡ true
    update : ((state r t).worker v).operation ≢ contains

  same_or_changing : (t v : ℕ) (step : Step) (row : Row r.nodes (state r t) v step) → state r (suc t) ≡ stepped (state r t) v step →
      Same t ⊎ Changing t v step row
  same_or_changing t v step row next = go row.course
    where
      go : Course row.act step.worker step.report →
          Same t ⊎ Changing t v step row
      go (rests keeps idle) = inl (label_kept r t v step row.act next keeps)
      go (goes_on keeps continues same silent unfinished onward) = inl (label_kept r t v step row.act next keeps)
      go (ends keeps at idle done) = inl (label_kept r t v step row.act next keeps)
      go (settles (present keeps inside is) continues none_yet answer settled moves) =
          inl (label_kept r t v step row.act next keeps)
      go (settles (missing keeps out is) continues none_yet answer settled moves) =
          inl (label_kept r t v step row.act next keeps)
      go (settles (late_verdict keeps asks denies stage out) continues none_yet answer settled moves) =
          inl (label_kept r t v step row.act next keeps)
      go (settles (goes_in it operation is) continues none_yet answer settled moves) =
          inr (record { verdict = goes_in it operation is; unanswered = none_yet; decided = settled; update = omega arith })
      go (settles (goes_out it operation is) continues none_yet answer settled moves) =
          inr (record { verdict = goes_out it operation is; unanswered = none_yet; decided = settled; update = omega arith })

  -- a call with a point is one of those in order
  in_order_lem : (time : ℕ) → run_starts_at r (suc time) ≡ true → suc time ≤ last r → (run_call_at r (suc time)).point ≢ 0 →
      Memᴰ (run_call_at r (suc time)) (in_order_of r)
  unfolding in_order calls
  in_order_lem time starting upto point =
      in_sorted
      (in_filter has_point
      (Memᴰ.map (run_call_at r) (in_filter (run_starts_at r) (in_times 1 (last r) (suc time) (omega arith) (omega arith)) starting))
      (rw (ne_eqb _ 0 point)))

  -- the call of a turn that changes the set has its point there
  module _ (t : ℕ) (in_time : t < last r) (step : Step) (o : Opened t (entry r t).worker)
      (row : Row r.nodes (state r t) (entry r o.time).worker step)
      (event : outcome r t ≡ turn_reported step.report)
      (next : state r (suc t) ≡ stepped (state r t) (entry r o.time).worker step)
      (changing : Changing t (entry r o.time).worker step row) where
    begun : Begun r o.time
    begun = begun_at r o.time o.starting

    -- what is said of the call here: the turn decides it, and it is an update
    decided_here : Phase r o.time begun t →
        Decided r o.time begun t × ((entry r o.time).act ≢ contains)
    decided_here (runs running none undecided look) = (
      decided_now r o.time begun t step event (sym o.own) row next running undecided look changing.verdict changing.decided,
      λ asks. changing.update (running.same_operation ∙ asks),
    )
    decided_here (closes running some time past it) = absurd (some changing.unanswered)
    decided_here (finished time finish past earlier it done rest none) =
        absurd
        (o.busy (suc finish) (omega (arith, it.begun)) (omega arith)
        (subst (λ w. ((state r (suc finish)).worker w).stage ≡ 0) o.own rest))

    changing_call : Acts t
    changing_call =
        let here = decided_here (phase_at r o.time begun t o.past) in
        go here.0 here.1 (fate r o.time begun (omega (arith, o.past)))
      where
        go : Decided r o.time begun t → (entry r o.time).act ≢ contains → Fate r o.time begun → Acts t
        go it update (waits e undecided) =
            absurd (true≢false (sym it.decided ∙ undecided (suc t) (omega (arith, it.begun)) (omega arith)))
        go it update (looked d finish point other in_time' later asks denies absent low high e) = absurd (update asks)
        go it update (acted d finish other in_time' later does e) =
            let same : d ≡ t = decided_once r o.time begun other it in
            let point : (run_call_at r (suc o.time)).point ≡ suc d = ap (λ (call : Call). call.point) e in (
              run_call_at r (suc o.time),
              in_order_lem o.time o.starting (omega (arith, o.past)) (omega arith),
              omega arith,
              ap rank e ∙ rw (does_early does),
            )

  -- where the set changes, a call has its point
  pub changes : (t : ℕ) → t < last r → ((key : ℕ) → label r (suc t) key ≡ label r t key)
      ⊎ ((call : Call) × Memᴰ call (in_order_of r) × (call.point ≡ suc t) × (rank call ≡ 0))
  changes t in_time = go (happens r t)
    where
      by_turn : (step : Step) → outcome r t ≡ turn_reported step.report →
          Row r.nodes (state r t) (entry r t).worker step →
          state r (suc t) ≡ stepped (state r t) (entry r t).worker step →
          Opened t (entry r t).worker →
          Same t ⊎ Acts t
      by_turn step event row next o =
          let mine = subst (λ w. Row r.nodes (state r t) w step) (sym o.own) row in
          let onward = subst (λ w. state r (suc t) ≡ stepped (state r t) w step) (sym o.own) next in
          ⊎_elim inl (λ changing. inr (changing_call t in_time step o mine event onward changing)) (same_or_changing t _ step mine onward)

      go : Happens r t → Same t ⊎ Acts t
      go (nothing unstarted unreported unfinished same) = inl (λ key. ap (λ arena. find key (set_of arena)) same)
      go (start event idle call known next) = inl (label_started r t (entry r t).worker (entry r t).act
          (entry r t).key (entry r t).length idle next)
      go (turn step event row rest next) =
          ⊎_elim inl
          (λ changing.
          by_turn step event row next
          (opened t (entry r t).worker (not_idle _ _ changing.decided)))
          (same_or_changing t _ step row next)
