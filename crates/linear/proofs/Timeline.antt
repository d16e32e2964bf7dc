-- The states of a list of entries, one for each time, and what happens between two of them.
use Prim.Native.Nat.{ℕ, zero, suc, ◌≤◌, ◌<◌}
use mathlib.Core.Path.{◌≡◌, sym, ap, subst, ◌∙◌}
use mathlib.Core.Logic.{◌⊎◌, inl, inr, ◌≢◌}
use mathlib.Core.List.{List}
use mathlib.Core.Bool.{Bool, true, false, true≢false}
use mathlib.Core.Option.{Option}
use native.Mathlib.Numerals.{sub-one}
use lib.ListN.{length}
use borrow.Author.Tests.{eq-eqb, ne_eqb, lt-ltb, le-ltb}
use Rattle.worker.specs.Worker.{is_call, idle_worker, started_worker}
use Rattle.worker.specs.declared.report.Report.{Report}
use Rattle.worker.specs.declared.report.Step.{Step}
use Rattle.worker.proofs.TurnLaws.{step_row}
use Rattle.words.specs.Layout.{good_counts, workers_of, nodes_of}
use Rattle.words.specs.Records.{worker_at}
use Rattle.words.specs.declared.entry.Entry.{Entry}
use Rattle.arena.specs.Init.{fresh_words}
use Rattle.arena.specs.Sets.{member, set_of}
use Rattle.arena.specs.AtRest.{SoundAtRest}
use Rattle.linear.specs.Entries.{Event, call_started, turn_reported, entry_refused, is_started, is_reported, is_finished, event_of}
use Rattle.linear.specs.History.{Call, entry_at, arena_at, event_at, decides_at, finishes_at, starts_at, call_at, calls}
use Rattle.linear.specs.Order.{in_order}
use Rattle.linear.proofs.LabelLaws.{find}
use Rattle.linear.proofs.Reach.{same?}
use Rattle.linear.proofs.State.{State, decode, stepped, start_step, turn_step}
use Rattle.linear.proofs.Bridge.{Sound, Entered, refuses, starts, turns, entered, after_sound}
use Rattle.linear.proofs.FreshAtRest.{fresh_sound, fresh_rests}
use Rattle.linear.proofs.Invariant.{Inv}
use Rattle.linear.proofs.Course.{Row}
use Rattle.linear.proofs.Preserved.{row_inv, turn_row, start_inv}
use Rattle.linear.proofs.Passes.{passes, stage_below}
use Rattle.linear.proofs.FreeNodes.{free_not_live}
use Rattle.linear.proofs.RestInvariant.{rest_sound, rest_inv}

-- a list of entries from an arena that is sound and at rest
pub record Schedule : Type 0 where
  pub workers : ℕ
  pub nodes : ℕ
  pub initial : List ℕ
  pub entries : List Entry
  pub begins_sound : Sound workers nodes initial
  pub rest : SoundAtRest initial

abbrev pub rest_schedule : (initial : List ℕ) (entries : List Entry) → SoundAtRest initial → Schedule
rest_schedule initial entries rest =
    record {
      workers = workers_of initial;
      nodes = nodes_of initial;
      initial = initial;
      entries = entries;
      begins_sound = rest_sound rest;
      rest = rest;
    }

-- from a fresh arena of just its total
abbrev pub fresh_schedule : (workers nodes : ℕ) (entries : List Entry) → good_counts workers nodes ≡ true → Schedule
fresh_schedule workers nodes entries good =
    record {
      workers = workers;
      nodes = nodes;
      initial = fresh_words workers nodes;
      entries = entries;
      begins_sound = fresh_sound workers nodes good;
      rest = fresh_rests workers nodes good;
    }

module _ (r : Schedule) where
  -- of such a list: the arena and the state at a time, whether a key is in the set, the last time
  abbrev pub arena : ℕ → List ℕ
  arena time = arena_at r.initial r.entries time

  abbrev pub state : ℕ → State
  state time = decode (arena time)

  abbrev pub has : ℕ → ℕ → Bool
  has time key = member key (set_of (arena time))

  -- the length of the label with a key, if it is in the set
  abbrev pub label : ℕ → ℕ → Option ℕ
  label time key = find key (set_of (arena time))

  abbrev pub last : ℕ
  last = length r.entries

  -- the entry that leads from a time to the next, and what it comes to
  abbrev pub entry : ℕ → Entry
  entry time = entry_at r.entries (suc time)

  abbrev pub outcome : ℕ → Event
  outcome time = event_at r.initial r.entries (suc time)

  -- the turns of a worker that decide, and that finish; the starts; the calls, and those in order
  abbrev pub decisive : ℕ → ℕ → Bool
  decisive v time = decides_at r.initial r.entries v time

  abbrev pub finishing : ℕ → ℕ → Bool
  finishing v time = finishes_at r.initial r.entries v time

  abbrev pub run_starts_at : ℕ → Bool
  run_starts_at time = starts_at r.initial r.entries time

  abbrev pub run_call_at : ℕ → Call
  run_call_at time = call_at r.initial r.entries time

  abbrev pub calls_of : List Call
  calls_of = calls r.initial r.entries

  abbrev pub in_order_of : List Call
  in_order_of = in_order r.initial r.entries

  -- what happens between a time and the next: nothing, a start on an idle worker, or a turn
  pub data Happens (time : ℕ) : Type 0 where
    nothing : is_started (outcome time) ≡ false → is_reported (outcome time) ≡ false → is_finished (outcome time) ≡ false →
        arena (suc time) ≡ arena time → Happens time
    start : outcome time ≡ call_started → ((state time).worker (entry time).worker).stage ≡ 0 →
        is_call (entry time).act (entry time).key (entry time).length ≡ true → (entry time).worker < r.workers →
        state (suc time) ≡ stepped (state time) (entry time).worker (start_step (entry time).act (entry time).key (entry time).length) → Happens time
    turn : (step : Step) → outcome time ≡ turn_reported step.report → Row r.nodes (state time) (entry time).worker step →
        (((state time).worker (entry time).worker).stage ≡ 0 → step.worker ≡ (state time).worker (entry time).worker) →
        state (suc time) ≡ stepped (state time) (entry time).worker step → Happens time

  -- the header stays in order
  pub sound : (time : ℕ) → Sound r.workers r.nodes (arena time)
  unfolding arena_at
  sound zero = r.begins_sound
  sound (suc time) = after_sound (sound time) (entry time)

  -- past the last worker there are idle records
  pub idle_past : (time v : ℕ) → r.workers ≤ v → (state time).worker v ≡ idle_worker
  idle_past time v out = rw ((sound time).workers_are, le-ltb v r.workers out)

  -- a worker that there is has its record in the arena
  pub own_worker : (time v : ℕ) → v < r.workers → (state time).worker v ≡ worker_at (arena time) v
  own_worker time v known = rw ((sound time).workers_are, lt-ltb v r.workers known)

  pub outcome_is : (time : ℕ) → outcome time ≡ event_of (arena time) (entry time)
  unfolding event_at
  outcome_is time = rw sub-one

  -- under the invariant an entry is refused, a start, or a turn by its row of the table
  pub entered_at : (time : ℕ) (x : Entry) → Inv r.nodes (state time) → Entered r.workers r.nodes (arena time) x
  entered_at time x inv = entered (sound time) (λ w known. passes inv r.workers w) x

  -- a worker's step, if it had the turn, and what its row of the table says of it
  abbrev pub step_at : ℕ → ℕ → Step
  step_at time w = turn_step r.workers r.nodes (state time) w

  pub row_of : (time w : ℕ) → Inv r.nodes (state time) → Row r.nodes (state time) w (step_at time w)
  row_of time w inv =
      turn_row inv w r.workers (λ n e. free_not_live inv r.workers (idle_past time) e) (stage_below inv w)

  happening : (time : ℕ) → Inv r.nodes (state time) → Entered r.workers r.nodes (arena time) (entry time) → Happens time
  unfolding arena_at
  happening time inv (refuses refusal event same known) =
      let is : outcome time ≡ entry_refused refusal = outcome_is time ∙ event in nothing (ap is_started is) (ap is_reported is)
      (ap is_finished is) same
  happening time inv (starts event turning known idle call next) = start (outcome_is time ∙ event) idle call known next
  happening time inv (turns event turning known next) =
      let w = (entry time).worker in
      turn (step_at time w) (outcome_is time ∙ event) (row_of time w inv)
      (λ idle. ap (λ (step : Step). step.worker) (step_row ((state time).worker w) _ _ idle)) next

  inv_next : (time : ℕ) → Inv r.nodes (state time) → Happens time → Inv r.nodes (state (suc time))
  inv_next time inv (nothing unstarted unreported unfinished same) = subst (λ words. Inv r.nodes (decode words)) (sym same) inv
  inv_next time inv (start event idle call known next) =
      subst (Inv r.nodes) (sym next) (start_inv inv (entry time).worker (entry time).act (entry time).key (entry time).length idle call)
  inv_next time inv (turn step event row idle next) = subst (Inv r.nodes) (sym next) (row_inv inv (entry time).worker row)

  -- the invariant holds at every time
  pub always : (time : ℕ) → Inv r.nodes (state time)
  unfolding arena_at
  always zero = rw (← r.begins_sound.nodes_are) (rest_inv r.rest)
  always (suc time) = inv_next time (always time) (happening time (always time) (entered_at time (entry time) (always time)))

  pub happens : (time : ℕ) → Happens time
  happens time = happening time (always time) (entered_at time (entry time) (always time))

  -- the entry after a time starts a call
  pub record Begun (time : ℕ) : Type 0 where
    pub starting : run_starts_at (suc time) ≡ true
    pub known : (entry time).worker < r.workers
    pub idle : ((state time).worker (entry time).worker).stage ≡ 0
    pub call : is_call (entry time).act (entry time).key (entry time).length ≡ true
    pub next : state (suc time) ≡ stepped (state time) (entry time).worker
        (start_step (entry time).act (entry time).key (entry time).length)

  pub begun_at : (time : ℕ) → run_starts_at (suc time) ≡ true → Begun time
  begun_at time e = go (happens time)
    where
      go : Happens time → Begun time
      go (nothing unstarted unreported unfinished same) = absurd (true≢false (sym e ∙ unstarted))
      go (start event idle call known next) = record { starting = e; known = known; idle = idle; call = call; next = next }
      go (turn step event row rest next) = absurd (true≢false (sym e ∙ ap is_started event))

  -- a turn that reports is one of a worker that there is, and an idle worker's does not finish
  pub turn_known : (time : ℕ) {report : Report} → outcome time ≡ turn_reported report → (entry time).worker < r.workers
  turn_known time {report} event = go (entered_at time (entry time) (always time))
    where
      go : Entered r.workers r.nodes (arena time) (entry time) → (entry time).worker < r.workers
      go (refuses refusal is same known) =
          absurd (true≢false (sym (ap is_reported (sym (outcome_is time ∙ is) ∙ event))))
      go (starts is turning known idle call next) = known
      go (turns is turning known next) = known

  pub idle_unfinished : (time : ℕ) → ((state time).worker (entry time).worker).stage ≡ 0 → is_finished (outcome time) ≡ false
  idle_unfinished time idle = go (entered_at time (entry time) (always time))
    where
      go : Entered r.workers r.nodes (arena time) (entry time) → is_finished (outcome time) ≡ false
      go (refuses refusal is same known) = ap is_finished (outcome_is time ∙ is)
      go (starts is turning known idle call next) = ap is_finished (outcome_is time ∙ is)
      go (turns is turning known next) =
          ap is_finished (outcome_is time ∙ is)
          ∙ ap (λ (step : Step). is_finished (turn_reported step.report))
          (step_row ((state time).worker (entry time).worker) _ _ idle)

  -- what an entry is to a worker: none of its own, and its record stays; its start; or its turn
  pub data For (time v : ℕ) : Type 0 where
    not_its : (is_finished (outcome time) ≡ false) ⊎ ((entry time).worker ≢ v) → (state (suc time)).worker v ≡ (state time).worker v → For time v
    its_start : ((state time).worker v).stage ≡ 0 → (state (suc time)).worker v ≡ started_worker (entry time).act (entry time).key (entry time).length → For time v
    its_turn : (entry time).worker ≡ v → outcome time ≡ turn_reported (step_at time v).report →
        (state (suc time)).worker v ≡ (step_at time v).worker → For time v

  pub entry_for : (time v : ℕ) → For time v
  unfolding arena_at
  entry_for time v = go (entered_at time (entry time) (always time)) (same? (entry time).worker v)
    where
      other_stays : (step : Step) → (entry time).worker ≢ v → state (suc time) ≡ stepped (state time) (entry time).worker step → For time v
      other_stays step other next =
          not_its (inr other) (ap (λ (s : State). s.worker v) next ∙ rw (ne_eqb v (entry time).worker (λ e. other (sym e))))

      own_is : (step : Step) → (entry time).worker ≡ v → state (suc time) ≡ stepped (state time) (entry time).worker step →
          (state (suc time)).worker v ≡ step.worker
      own_is step own next = ap (λ (s : State). s.worker v) next ∙ rw (eq-eqb v (entry time).worker (sym own))

      go : Entered r.workers r.nodes (arena time) (entry time) → ((entry time).worker ≡ v) ⊎ ((entry time).worker ≢ v) → For time v
      go (refuses refusal event same unknown) _ =
          not_its (inl (ap is_finished (outcome_is time ∙ event))) (ap (λ words. (decode words).worker v) same)
      go (starts event starting known idle call next) (inl own) =
          its_start (subst (λ w. ((state time).worker w).stage ≡ 0) own idle) (own_is (start_step (entry time).act (entry time).key (entry time).length) own next)
      go (starts event starting known idle call next) (inr other) = other_stays (start_step (entry time).act (entry time).key (entry time).length) other next
      go (turns event turning known next) (inl own) =
          its_turn own (outcome_is time ∙ event ∙ ap (λ w. turn_reported (step_at time w).report) own)
          (own_is (step_at time (entry time).worker) own next ∙ ap (λ w. (step_at time w).worker) own)
      go (turns event turning known next) (inr other) = other_stays (step_at time (entry time).worker) other next
