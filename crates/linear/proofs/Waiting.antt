-- A wait is a turn of the call that it names, and the worker in the way is another one, and busy.
use Prim.Native.Nat.{ℕ, zero, suc, ◌+◌, ◌-◌, ◌≤◌, ◌<◌}
use mathlib.Core.Path.{◌≡◌, refl, sym, ap, subst, ◌∙◌}
use mathlib.Core.List.Memᴰ
use mathlib.Core.Logic.{◌⊎◌, inl, ⊎_elim, ◌≢◌}
use mathlib.Core.List.{List}
use mathlib.Core.Bool.{true, false, true≢false, and-eq-true_iff}
use mathlib.Mathlib.Data.Bool.Basic.{dichotomy}
use native.Mathlib.Omega.{arith}
use native.Mathlib.Numerals.{sub-one}
use native.Mathlib.Decide.{dec_lt}
use lib.ListN.{length, get_or, length-map, get_or-map}
use lib.Dec.{eqb}
use borrow.Author.Tests.{eqb-true, eq-eqb, ne_eqb}
use Rattle.std.specs.List.{filter}
use Rattle.worker.specs.declared.Worker.{Worker}
use Rattle.worker.specs.declared.report.Report.TheVariants as report
use Rattle.worker.specs.declared.report.Effect.TheVariants.{Nothing}
use Rattle.words.specs.Layout.{node_owner}
use Rattle.words.specs.Records.{worker_at}
use Rattle.words.specs.declared.entry.Entry.{Entry}
use Rattle.arena.proofs.ListLaws.{from_filter}
use Rattle.linear.specs.Entries.{Event, call_started, turn_reported, entry_refused, is_waits, is_finished, event_values}
use Rattle.linear.specs.History.{arena_at, starts_call_of, call_number, finish_of, call_at, calls, times, waits_at, wait_at, waits, totals}
use Rattle.linear.specs.Linearizable.{Blocked, Waiting}
use Rattle.linear.proofs.TimeLaws.{from_times, first_past}
use Rattle.linear.proofs.MoreTimes.{passing, passing_place, latest_is}
use Rattle.linear.proofs.State.{State, word_after, stepped}
use Rattle.linear.proofs.Bridge.{Entered, refuses, starts as starts_call, turns}
use Rattle.linear.proofs.Timeline.{Schedule, begun_at, arena, state, entry, outcome, outcome_is, run_starts_at, finishing, run_call_at, last, always, sound, own_worker, idle_past, entered_at, step_at}
use Rattle.linear.proofs.Locks.{Locks, Wants, turn_locks, has_busy}
use Rattle.linear.proofs.Owners.{owners_at}
use Rattle.linear.proofs.Phases.{Open, not_finished}
use Rattle.linear.proofs.OpenCalls.{At, open_at, open_next, not_both}

-- a turn that waits does not finish
waits_unfinished : (event : Event) → is_waits event ≡ true → is_finished event ≡ false
waits_unfinished call_started e = refl
waits_unfinished (entry_refused number) e = refl
waits_unfinished (turn_reported report.Idle) e = refl
waits_unfinished (turn_reported (report.Moved stage)) e = refl
waits_unfinished (turn_reported (report.Waits node worker)) e = refl
waits_unfinished (turn_reported (report.Finished answer)) e = sym e

module _ (r : Schedule) where
  -- the starts up to a time
  abbrev pub starts : ℕ → List ℕ
  starts now = passing (run_starts_at r) now

  -- the call that a worker is at is the one of its latest start, so as many calls stand before it as start before it
  pub open_number : (now v : ℕ) (at : At r now v) → call_number r.initial r.entries v (suc now) ≡ length (starts at.origin)
  unfolding call_number starts_call_of
  open_number now v at =
      let last_start = latest_is (starts_call_of r.initial r.entries v) at.origin now
      (rw (at.begun.starting, eq-eqb _ _ at.own)) at.is_open.begun later in
      rw (sub-one, sub-one, last_start)
    where
      later : (t : ℕ) → suc at.origin < t → t ≤ now → starts_call_of r.initial r.entries v t ≡ false
      later zero low high = absurd (omega arith)
      later (suc t) low high = ⊎_elim (λ fails. fails) (λ holds. absurd (twice ((and-eq-true_iff _ _).0 holds))) (dichotomy _)
        where
          twice : (run_starts_at r (suc t) ≡ true) × (eqb (entry r t).worker v ≡ true) → ⊥
          twice both =
              not_both r now at.origin t at.begun (begun_at r t both.0) (at.own ∙ sym (eqb-true _ _ both.1)) (omega arith)
              (omega arith) at.is_open

  -- a turn that waits
  module _ (now : ℕ) (waiting : is_waits (outcome r now) ≡ true) where
    abbrev v : ℕ
    v = (entry r now).worker

    -- the node wanted, and the worker in the way
    abbrev node : ℕ
    node = get_or (event_values (outcome r now)) 1 0

    abbrev blocker : ℕ
    blocker = get_or (event_values (outcome r now)) 2 0

    -- it was accepted, it wants what it says, and it has no effect
    record Waited : Type 0 where
      wants : Wants (always r now) v node blocker
      still : (step_at r now v).effect ≡ Nothing
      next : state r (suc now) ≡ stepped (state r now) v (step_at r now v)

    waited : Waited
    unfolding arena_at
    waited = go (entered_at r now (entry r now) (always r now))
      where
        go : Entered r.workers r.nodes (arena r now) (entry r now) → Waited
        go (refuses number event same known) = absurd (true≢false (sym waiting ∙ ap is_waits (outcome_is r now ∙ event)))
        go (starts_call event turning known idle call next) =
            absurd (true≢false (sym waiting ∙ ap is_waits (outcome_is r now ∙ event)))
        go (turns event turning known next) =
            let is = outcome_is r now ∙ event in
            record {
              wants =
                  subst (λ e. Wants (always r now) v (get_or (event_values e) 1 0) (get_or (event_values e) 2 0)) (sym is)
                  ((turn_locks (always r now) v r.workers).waits (sym (ap is_waits is) ∙ waiting));
              still = (turn_locks (always r now) v r.workers).still (sym (ap is_waits is) ∙ waiting);
              next = next;
            }

    pub waiter_busy : ((state r now).worker v).stage ≢ 0
    waiter_busy = waited.wants.busy

    -- the worker in the way has the lock of the node
    has_lock : Locks ((state r now).worker blocker) node
    has_lock =
        let owned = waited.wants.owned in
        let owner = owners_at r now node (omega arith) in
        let same : owner.worker ≡ blocker = omega (arith, owner.named) in
        subst (λ w. Locks ((state r now).worker w) node) same owner.has

    still_owns : (state r (suc now)).owner node ≡ suc blocker
    still_owns =
        ap (λ (s : State). s.owner node) waited.next
        ∙ ap (λ e. word_after e node node_owner ((state r now).owner node)) waited.still ∙ waited.wants.owned

    another : blocker ≢ v
    another same = omega (arith, waited.wants.above node (subst (λ w. Locks ((state r now).worker w) node) same has_lock))

    there : blocker < r.workers
    there =
        elim (dec_lt blocker r.workers) [
          | yes known ↦ known
          | no past ↦ absurd (has_busy has_lock (ap (λ (w : Worker). w.stage) (idle_past r now blocker (omega arith))))
        ]

    still_busy : (worker_at (arena r (suc now)) blocker).stage ≢ 0
    still_busy idle =
        let stays : (state r (suc now)).worker blocker ≡ (state r now).worker blocker
        = ap (λ (s : State). s.worker blocker) waited.next ∙ rw (ne_eqb blocker v another) in
        has_busy has_lock (ap (λ (w : Worker). w.stage) (sym stays ∙ own_worker r (suc now) blocker there) ∙ idle)

    -- the call whose turn it was
    at : At r now v
    at = open_at r now v waiter_busy

    abbrev begin : ℕ
    begin = suc at.origin

    unfinished : ((run_call_at r begin).finish ≡ 0) ⊎ (suc now < (run_call_at r begin).finish)
    unfolding call_at finish_of
    unfinished =
        first_past (finishing r (entry r at.origin).worker) (suc begin) (last r - begin) (suc now)
        (λ t low high. open_then.unfinished t (omega arith) high)
      where
        open_then : Open r at.origin at.begun (suc now)
        open_then =
            open_next r at.origin at.begun now at.is_open
            (not_finished r (entry r at.origin).worker now (inl (waits_unfinished (outcome r now) waiting)))

    blocked : suc now ≤ last r → Blocked r.initial r.entries (wait_at r.initial r.entries (suc now))
    unfolding wait_at call_at calls
    blocked past =
        let number = open_number now v at in
        let place = passing_place (run_starts_at r) begin at.origin (last r) at.begun.starting (omega (arith, at.is_open.begun)) in
        record {
          call = run_call_at r begin;
          there = rw (number, length-map) place.0;
          numbered = rw number (get_or-map (run_call_at r) (starts (last r)) (length (starts at.origin)) begin ∙ ap (run_call_at r) place.1);
          own = at.own;
          started = omega (arith, at.is_open.begun);
          unfinished = unfinished;
          owns = still_owns;
          known = omega (arith, there, (sound r (suc now)).workers_are);
          another = another;
          busy = still_busy;
        }

  pub all_blocked : Waiting r.initial r.entries
  unfolding waits
  all_blocked wait m =
      let found = Memᴰ.of_map (wait_at r.initial r.entries) _ m in
      let kept = from_filter (waits_at r.initial r.entries) found.1 in
      rw (← found.2) (go found.0 (from_times 1 (last r) kept.0) kept.1)
    where
      go : (time : ℕ) → (1 ≤ time) × (time < 1 + last r) → waits_at r.initial r.entries time ≡ true →
          Blocked r.initial r.entries (wait_at r.initial r.entries time)
      go zero within waiting = absurd (omega (arith, within.0))
      go (suc now) within waiting = blocked now waiting (omega (arith, within.1))

-- the total of the waits is how many there are
pub waits_counted : (initial : List ℕ) (entries : List Entry) → (totals initial entries).waits ≡ length (waits initial entries)
unfolding totals waits
waits_counted initial entries = sym (length-map (filter (waits_at initial entries) (times initial entries)) (wait_at initial entries))
