-- A call from its start on: it runs, then its answer is decided, then it is finished.
use Prim.Native.Nat.{ℕ, zero, suc, ◌≤◌, ◌<◌}
use mathlib.Core.Path.{◌≡◌, refl, sym, ap, subst, ◌∙◌}
use mathlib.Core.Logic.{◌⊎◌, inl, inr, ⊎_elim, ◌≢◌}
use mathlib.Core.Bool.{Bool, true, false, cond, ◌&&◌, true≢false, and-false}
use mathlib.Mathlib.Data.Bool.Basic.{dichotomy}
use native.Mathlib.Omega.{arith}
use native.Mathlib.Decide.{ℕ_discrete}
use native.Mathlib.Numerals.{sub-one}
use lib.Dec.{eqb}
use borrow.Author.Tests.{eqb-true, eq-eqb, ne_eqb}
use Rattle.worker.specs.Worker.{contains, started_worker, first_stage}
use Rattle.worker.specs.Report.{answer_number}
use Rattle.worker.specs.declared.Worker.{Worker}
use Rattle.worker.specs.declared.report.Answer.TheVariants.{No}
use Rattle.worker.specs.declared.report.Report.{Report}
use Rattle.worker.specs.declared.report.Step.{Step}
use Rattle.worker.proofs.Laws.{range_bounds}
use Rattle.arena.specs.Sets.{is_none}
use Rattle.linear.specs.Entries.{call_started, turn_reported, is_reported, is_finished}
use Rattle.linear.specs.History.{is_decision, finishes_at, decides_at}
use Rattle.linear.proofs.Reach.{here, same?}
use Rattle.linear.proofs.State.{State, decode, stepped, start_step}
use Rattle.linear.proofs.Promises.{in_curr, Live, promises}
use Rattle.linear.proofs.Invariant.{In, Ahead, Inv, promised, live_held, live_chain}
use Rattle.linear.proofs.After.{own_after, others_after, live_after}
use Rattle.linear.proofs.Course.{Row, moved_unfinished, spot, Onward, Continues, Verdict, goes_in, goes_out, present, missing, late, Course, rests, goes_on, settles, ends}
use Rattle.linear.proofs.TurnKinds.{sane_parts}
use Rattle.linear.proofs.Passes.{stage_below}
use Rattle.linear.proofs.Simulation.{Does, adds, adds_not, is_full, removes, removes_not, finds}
use Rattle.linear.proofs.Timeline.{Begun, has, label, Happens, nothing, start, turn, own_worker, always, happens, Schedule, state, entry, outcome, decisive, finishing}
use Rattle.linear.proofs.Keys.{present_in, in_present, absent_of, none_found, has_added, has_taken, label_kept, label_added, label_taken, ahead_on}

-- a look-up stands on a live node
spot_live : {nodes : ℕ} {s : State} → Inv nodes s → (v : ℕ) → 22 ≤ (s.worker v).stage → Live nodes s (spot (s.worker v))
unfolding promises
spot_live {nodes} {s} inv v looks = go (same? (s.worker v).stage 22) (same? (s.worker v).stage 23) (same? (s.worker v).stage 24)
  where
    on_curr : (s.worker v).stage ≢ 22 → (s.worker v).curr < nodes → Live nodes s (spot (s.worker v))
    on_curr d inside = rw (ne_eqb (s.worker v).stage 22 d) (live_held v (in_curr refl) inside)

    go : ((s.worker v).stage ≡ 22) ⊎ ((s.worker v).stage ≢ 22) → ((s.worker v).stage ≡ 23) ⊎ ((s.worker v).stage ≢ 23) →
        ((s.worker v).stage ≡ 24) ⊎ ((s.worker v).stage ≢ 24) → Live nodes s (spot (s.worker v))
    go (inl e) _ _ = rw (eq-eqb (s.worker v).stage 22 e) (live_chain (here refl))
    go (inr d) (inl e) _ = on_curr d (promised inv v e).curr_in
    go (inr d) (inr b) (inl e) = on_curr d (promised inv v e).curr_in
    go (inr d) (inr b) (inr c) =
        let last : (s.worker v).stage ≡ 25 = omega (arith, stage_below inv v) in on_curr d (promised inv v last).curr_in

-- at 21 there is an answer
answered : {nodes : ℕ} {s : State} → Inv nodes s → (v : ℕ) → (s.worker v).stage ≡ 21 → (s.worker v).answer ≡ 0 → ⊥
answered {s = s} inv v last none =
    omega (arith, range_bounds 1 3 (s.worker v).answer (sane_parts inv v last (omega arith)).2)

module _ (r : Schedule) where
  -- a key was absent at some time from one to another
  pub record Since (from upto key : ℕ) : Type 0 where
    pub time : ℕ
    pub begun : from ≤ time
    pub past : time ≤ upto
    pub absent : has r time key ≡ false

  longer : {from upto key : ℕ} → Since from upto key → Since from (suc upto) key
  longer a = record { time = a.time; begun = a.begun; past = omega (arith, a.past); absent = a.absent }

  -- an entry that is no turn of a worker decides and finishes nothing of its call
  pub not_decided : (v now : ℕ) → (is_reported (outcome r now) ≡ false) ⊎ ((entry r now).worker ≢ v) →
      decisive r v (suc now) ≡ false
  unfolding decides_at
  not_decided v now (inl e) = rw e
  not_decided v now (inr d) = rw (ne_eqb (entry r now).worker v d, and-false)

  pub not_finished : (v now : ℕ) → (is_finished (outcome r now) ≡ false) ⊎ ((entry r now).worker ≢ v) →
      finishing r v (suc now) ≡ false
  unfolding finishes_at
  not_finished v now (inl e) = ap (λ t. t && eqb (entry r now).worker v) e
  not_finished v now (inr d) = rw (ne_eqb (entry r now).worker v d, and-false)

  -- so a turn that decides a worker's answer is one of that worker
  pub decider : (v now : ℕ) → decisive r v (suc now) ≡ true → (entry r now).worker ≡ v
  decider v now e =
      ⊎_elim (λ own. own) (λ other. absurd (true≢false (sym e ∙ not_decided v now (inr other)))) (same? (entry r now).worker v)

  -- the call that the entry after a time starts
  module _ (origin : ℕ) (b : Begun r origin) where
    abbrev v : ℕ
    v = (entry r origin).worker

    abbrev operation : ℕ
    operation = (entry r origin).act

    abbrev key : ℕ
    key = (entry r origin).key

    abbrev length : ℕ
    length = (entry r origin).length

    abbrev begin : ℕ
    begin = suc origin

    -- a test holds at no time from its start on, up to now
    abbrev None : (ℕ → Bool) → ℕ → Type 0
    None test now = (time : ℕ) → begin < time → time ≤ now → test time ≡ false

    -- hindsight: its key was absent at some time, or is ahead of a place
    abbrev Sight : ℕ → ℕ → Type 0
    Sight now place = Since begin now key ⊎ Ahead (state r now) place key

    -- at a time it goes on, and has not finished so far
    pub record Open (now : ℕ) : Type 0 where
      pub begun : begin ≤ now
      pub busy : ((state r now).worker v).stage ≢ 0
      pub same_operation : ((state r now).worker v).operation ≡ operation
      pub same_key : ((state r now).worker v).key ≡ key
      pub same_length : ((state r now).worker v).length ≡ length
      pub unfinished : None (finishing r v) now

    -- what its answer is decided to be: what the call does, whole, at this time; or no of a contains, whose key was absent before
    pub data Settled (time : ℕ) : Type 0 where
      acts : Does (label r time) (label r (suc time)) operation key length ((state r (suc time)).worker v).answer → Settled time
      looks_up : operation ≡ contains → ((state r (suc time)).worker v).answer ≡ answer_number No → Since begin (suc time) key → Settled time

    -- it is decided by the entry after a time, and not before
    pub record Decided (time : ℕ) : Type 0 where
      pub begun : begin ≤ time
      pub decided : decisive r v (suc time) ≡ true
      pub undecided : None (decisive r v) time
      pub settled : Settled time

    pub data Phase (now : ℕ) : Type 0 where
      runs : Open now → ((state r now).worker v).answer ≡ 0 → None (decisive r v) now →
          (22 ≤ ((state r now).worker v).stage → Sight now (spot ((state r now).worker v))) → Phase now
      closes : Open now → ((state r now).worker v).answer ≢ 0 → (time : ℕ) → time < now → Decided time → Phase now
      finished : (time finish : ℕ) → time < finish → finish < now → Decided time → finishing r v (suc finish) ≡ true →
          ((state r (suc finish)).worker v).stage ≡ 0 → None (finishing r v) finish → Phase now

    -- and not at the next time either
    up_to : {test : ℕ → Bool} {now : ℕ} → None test now → test (suc now) ≡ false → None test (suc now)
    up_to {test} {now} none next time after upto =
        elim (ℕ_discrete time (suc now)) [ yes e ↦ rw e next | no d ↦ none time after (omega arith) ]

    -- a turn of the worker is judged by its stage and the answer it keeps then
    turn_decides : (now : ℕ) {report : Report} → outcome r now ≡ turn_reported report →
        (entry r now).worker ≡ v →
        decisive r v (suc now) ≡ is_decision ((state r now).worker v).stage ((state r (suc now)).worker v).answer
    unfolding decides_at
    turn_decides now event own =
        rw (event, eq-eqb _ _ own, sub-one, own_worker r now v b.known, own_worker r (suc now) v b.known)

    pub turn_finishes : (now : ℕ) {report : Report} → outcome r now ≡ turn_reported report →
        (entry r now).worker ≡ v →
        finishing r v (suc now) ≡ is_finished (turn_reported report)
    unfolding finishes_at
    turn_finishes now {report} event own = rw (event, eq-eqb _ _ own) (and_true (is_finished (turn_reported report)))
      where
        and_true : (a : Bool) → a && true ≡ a
        and_true true = refl
        and_true false = refl

    -- the key was absent before, or is still ahead of the same node, or is absent now
    look_kept : (now : ℕ) {from : ℕ} → begin ≤ now → Live r.nodes (state r now) from → Sight now from → Sight (suc now) from
    look_kept now begun live (inl gone) = inl (longer gone)
    look_kept now begun live (inr ahead) =
        ⊎_elim inr (λ gone. inl (record { time = suc now; begun = omega arith; past = omega arith; absent = gone }))
        (ahead_on r now live ahead)

    -- an entry that leaves the worker's record as it is
    stands_by : (now : ℕ) → decisive r v (suc now) ≡ false → finishing r v (suc now) ≡ false →
        (state r (suc now)).worker v ≡ (state r now).worker v → Phase now → Phase (suc now)
    stands_by now silent unfinished same phase = go phase
      where
        open_kept : Open now → Open (suc now)
        open_kept o =
            record {
              begun = omega (arith, o.begun);
              busy = rw same o.busy;
              same_operation = rw same o.same_operation;
              same_key = rw same o.same_key;
              same_length = rw same o.same_length;
              unfinished = up_to o.unfinished unfinished;
            }

        go : Phase now → Phase (suc now)
        go (runs o undecided none look) =
            runs (open_kept o) (rw same undecided) (up_to none silent)
            (rw same (λ looks. look_kept now o.begun (spot_live (always r now) v looks) (look looks)))
        go (closes o decided time past it) = closes (open_kept o) (rw same decided) time (omega arith) it
        go (finished time finish past earlier it done rest none) = finished time finish past (omega arith) it done rest none

    -- a turn of the worker itself
    module _ (now : ℕ) (step : Step) (event : outcome r now ≡ turn_reported step.report)
        (own : (entry r now).worker ≡ v) (row : Row r.nodes (state r now) v step)
        (next : state r (suc now) ≡ stepped (state r now) v step) where
      abbrev before : Worker
      before = (state r now).worker v

      inv : Inv r.nodes (state r now)
      inv = always r now

      after : (state r (suc now)).worker v ≡ step.worker
      after = ap (λ (s : State). s.worker v) next ∙ own_after inv v row.act row.placed

      decides_now : {answer : Bool} → is_decision before.stage step.worker.answer ≡ answer → decisive r v (suc now) ≡ answer
      decides_now e = turn_decides now event own ∙ ap (λ (w : Worker). is_decision before.stage w.answer) after ∙ e

      finishes_now : {answer : Bool} → is_finished (turn_reported step.report) ≡ answer → finishing r v (suc now) ≡ answer
      finishes_now e = turn_finishes now event own ∙ e

      open_next : Open now → Continues before step.worker → is_finished (turn_reported step.report) ≡ false → Open (suc now)
      open_next o continues unfinished =
          record {
            begun = omega (arith, o.begun);
            busy = rw after continues.busy;
            same_operation = rw after (continues.operation ∙ o.same_operation);
            same_key = rw after (continues.key ∙ o.same_key);
            same_length = rw after (continues.length ∙ o.same_length);
            unfinished = up_to o.unfinished (finishes_now unfinished);
          }

      -- the node that a look-up goes to was live before
      spot_before : 22 ≤ step.worker.stage → Live r.nodes (state r now) (spot step.worker)
      spot_before looks =
          let live : Live r.nodes (state r (suc now)) (spot ((state r (suc now)).worker v)) =
          spot_live (always r (suc now)) v (rw after looks) in
          ⊎_elim (λ l. l) (λ filled. absurd (omega (arith, (row.placed.fresh _ filled).0)))
          (live_after inv v row.act row.placed (subst (λ s. Live r.nodes s (spot step.worker)) next (rw after at live)))

      look_next : Open now →
          Onward (state r now) before.key before step.worker →
          (22 ≤ before.stage → Sight now (spot before)) →
          22 ≤ ((state r (suc now)).worker v).stage → Sight (suc now) (spot ((state r (suc now)).worker v))
      look_next o onward look =
          rw (after)
          (λ looks.
          let goes = subst (λ k. Onward (state r now) k before step.worker) o.same_key onward looks in
          look_kept now o.begun (spot_before looks) (⊎_elim inl (λ ahead. inr (goes.1 ahead)) (look goes.0)))

      -- whether the worker's key is there
      is_there : In (state r now) before.key → is_none (label r now before.key) ≡ false
      is_there inside = none_found r now before.key (in_present r now before.key inside)

      is_absent : (In (state r now) before.key → ⊥) → is_none (label r now before.key) ≡ true
      is_absent out = none_found r now before.key (absent_of r now before.key out)

      -- what a verdict comes to, of the worker's operation, key and length
      does : Verdict row.act step.worker →
          Does (label r now) (label r (suc now)) before.operation before.key before.length step.worker.answer
          ⊎ ((before.operation ≡ contains) × (step.worker.answer ≡ answer_number No) × (23 ≤ before.stage)
          × (Ahead (state r now) before.curr before.key → ⊥))
      does (goes_in it op answer) =
          inl (adds op answer (none_found r now before.key (has_added r now v step row.act next it).0)
          (label_added r now v step row.act next it))
      does (goes_out it op answer) =
          inl (removes op answer (none_found r now before.key (has_taken r now v step row.act next it).0)
          (label_taken r now v step row.act next it))
      does (present it inside (inl is)) = inl (adds_not is.0 is.1 (is_there inside) (label_kept r now v step row.act next it))
      does (present it inside (inr is)) = inl (finds is.0 is.1 (is_there inside) (label_kept r now v step row.act next it))
      does (missing it out (inl is)) = inl (is_full is.0 is.1 (is_absent out) (label_kept r now v step row.act next it))
      does (missing it out (inr is)) = inl (removes_not is.0 is.1 (is_absent out) (label_kept r now v step row.act next it))
      does (late it op answer stage out) = inr (op, answer, stage, out)

      settled_now : Open now → (22 ≤ before.stage → Sight now (spot before)) → Verdict row.act step.worker → Settled now
      settled_now o look verdict =
          ⊎_elim
          (λ it. acts (rw after (of_call it)))
          (λ it.
          looks_up (sym o.same_operation ∙ it.0) (rw after it.1)
          (⊎_elim longer
          (λ ahead. absurd (it.3 (rw (ne_eqb before.stage 22 (omega (arith, it.2)), ← o.same_key) at ahead)))
          (look (omega (arith, it.2)))))
          (does verdict)
        where
          of_call : Does (label r now) (label r (suc now)) before.operation before.key before.length
              step.worker.answer → Does (label r now) (label r (suc now)) operation key length step.worker.answer
          of_call it = rw (← o.same_operation, ← o.same_key, ← o.same_length) it

      -- the turn decides the answer of a call that runs
      pub decided_now : Open now → None (decisive r v) now →
          (22 ≤ before.stage → Sight now (spot before)) → Verdict row.act step.worker →
          is_decision before.stage step.worker.answer ≡ true → Decided now
      decided_now o none look verdict settled =
          record { begun = o.begun; decided = decides_now settled; undecided = none; settled = settled_now o look verdict }

      own_turn : Phase now → Course row.act step.worker step.report → Phase (suc now)
      own_turn (finished time finish past earlier it done rest none) course = finished time finish past (omega arith) it done rest none
      own_turn (runs o undecided none look) (rests it idle) = absurd (o.busy idle)
      own_turn (runs o undecided none look) (goes_on it continues same silent unfinished onward) =
          runs (open_next o continues unfinished) (rw after (eqb-true _ 0 (same ∙ eq-eqb _ 0 undecided))) (up_to none (decides_now silent))
          (look_next o onward look)
      own_turn (runs o undecided none look) (settles verdict continues none_yet decided settled moves) =
          closes (open_next o continues (moved_unfinished step.report moves)) (rw after decided) now (omega arith) (decided_now o none look verdict settled)
      own_turn (runs o undecided none look) (ends it last idle done) = absurd (answered inv v last undecided)
      own_turn (closes o decided time past it) (rests keeps idle) = absurd (o.busy idle)
      own_turn (closes o decided time past it) (goes_on keeps continues same silent unfinished onward) =
          closes (open_next o continues unfinished) (rw after (λ none. decided (eqb-true _ 0 (sym same ∙ eq-eqb _ 0 none)))) time (omega arith) it
      own_turn (closes o decided time past it) (settles verdict continues none_yet answer settled moves) = absurd (decided none_yet)
      own_turn (closes o decided time past it) (ends keeps last idle done) =
          finished time now past (omega arith) it (finishes_now done) (rw after idle) o.unfinished

    -- the call goes on from a time to the next
    phase_next : (now : ℕ) → Phase now → Phase (suc now)
    phase_next now phase = go (happens r now)
      where
        -- a worker that is idle has finished the call
        idle_kept : Phase now → ((state r now).worker v).stage ≡ 0 → Phase (suc now)
        idle_kept (runs o undecided none look) idle = absurd (o.busy idle)
        idle_kept (closes o decided time past it) idle = absurd (o.busy idle)
        idle_kept (finished time finish past earlier it done rest none) idle = finished time finish past (omega arith) it done rest none

        by_start : outcome r now ≡ call_started → ((state r now).worker (entry r now).worker).stage ≡ 0 →
            state r (suc now) ≡ stepped (state r now) (entry r now).worker
            (start_step (entry r now).act (entry r now).key (entry r now).length) →
            ((entry r now).worker ≡ v) ⊎ ((entry r now).worker ≢ v) → Phase (suc now)
        by_start event idle next (inl own) = idle_kept phase (subst (λ w. ((state r now).worker w).stage ≡ 0) own idle)
        by_start event idle next (inr other) =
            stands_by now (not_decided v now (inr other)) (not_finished v now (inr other))
            (ap (λ (s : State). s.worker v) next ∙ rw (ne_eqb v (entry r now).worker (λ e. other (sym e)))) phase

        by_turn : (step : Step) → outcome r now ≡ turn_reported step.report →
            Row r.nodes (state r now) (entry r now).worker step →
            state r (suc now) ≡ stepped (state r now) (entry r now).worker step →
            ((entry r now).worker ≡ v) ⊎ ((entry r now).worker ≢ v) → Phase (suc now)
        by_turn step event row next (inl own) =
            let mine = subst (λ w. Row r.nodes (state r now) w step) own row in
            own_turn now step event own mine (subst (λ w. state r (suc now) ≡ stepped (state r now) w step) own next) phase mine.course
        by_turn step event row next (inr other) =
            stands_by now (not_decided v now (inr other)) (not_finished v now (inr other))
            (ap (λ (s : State). s.worker v) next ∙ others_after (always r now) _ row.act row.placed v (λ e. other (sym e))) phase

        go : Happens r now → Phase (suc now)
        go (nothing unstarted unreported unfinished same) =
            stands_by now (not_decided v now (inl unreported)) (not_finished v now (inl unfinished))
            (ap (λ arena. (decode arena).worker v) same) phase
        go (start event idle call there next) = by_start event idle next (same? (entry r now).worker v)
        go (turn step event row idle next) = by_turn step event row next (same? (entry r now).worker v)

    started : (state r begin).worker v ≡ started_worker operation key length
    started = ap (λ (s : State). s.worker v) b.next ∙ rw (eq-eqb v v refl)

    -- a contains begins at Head: its key is absent now, or ahead
    first_look : 22 ≤ ((state r begin).worker v).stage → Sight begin (spot ((state r begin).worker v))
    first_look looks = go (eqb operation contains) refl (rw started at looks)
      where
        from_head : Sight begin 0
        from_head =
            ⊎_elim (λ absent. inl (record { time = begin; begun = omega arith; past = omega arith; absent = absent }))
            (λ there. let inside = present_in r begin key there in inr (record { inside = inside; run = inside.chain }))
            (dichotomy (has r begin key))

        go : (asks : Bool) → eqb operation contains ≡ asks → 22 ≤ cond asks 22 1 → Sight begin (spot ((state r begin).worker v))
        go true e looks = rw (started, e) from_head
        go false e looks = absurd (omega arith)

    begins : Phase begin
    begins =
        runs
        (record {
          begun = omega arith;
          busy = rw started (busy (eqb operation contains) (first_stage operation) refl);
          same_operation = rw started refl;
          same_key = rw started refl;
          same_length = rw started refl;
          unfinished = λ t after upto. absurd (omega arith);
        })
        (rw started refl) (λ t after upto. absurd (omega arith)) first_look
      where
        busy : (asks : Bool) (stage : ℕ) → stage ≡ cond asks 22 1 → stage ≢ 0
        busy true stage e = omega arith
        busy false stage e = omega arith

    -- and is in some phase at every later time
    pub phase_at : (now : ℕ) → begin ≤ now → Phase now
    phase_at zero begun = absurd (omega arith)
    phase_at (suc now) begun =
        elim (ℕ_discrete now origin) [
          | yes e ↦ subst (λ t. Phase (suc t)) (sym e) begins
          | no d ↦ phase_next now (phase_at now (omega arith))
        ]
