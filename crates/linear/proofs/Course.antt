-- What a turn comes to: for the nodes, for the worker's own promise, and for its call.
use Prim.Native.Nat.{ℕ, ◌≤◌}
use mathlib.Core.Path.{◌≡◌, refl, sym}
use mathlib.Core.Logic.{◌⊎◌, ◌≢◌}
use mathlib.Core.Bool.{Bool, true, false, cond}
use lib.Dec.{eqb}
use Rattle.worker.specs.Worker.{add, remove, contains}
use Rattle.worker.specs.Report.{answer_number}
use Rattle.worker.specs.declared.Worker.{Worker}
use Rattle.worker.specs.declared.report.Answer.TheVariants.{Yes, No, Full}
use Rattle.worker.specs.declared.report.Report.{Report}
use Rattle.worker.specs.declared.report.Report.TheVariants as report
use Rattle.worker.specs.declared.report.Step.{Step}
use Rattle.worker.specs.declared.report.Effect.{Effect}
use Rattle.worker.specs.declared.report.Growth.{Growth}
use Rattle.worker.specs.declared.report.Growth.TheVariants.{Stays, OneMore, OneLess}
use Rattle.linear.specs.Entries.{is_finished, turn_reported}
use Rattle.linear.specs.History.{is_decision}
use Rattle.linear.proofs.State.{State, stepped}
use Rattle.linear.proofs.Promises.{Standing}
use Rattle.linear.proofs.Invariant.{In, Ahead}
use Rattle.linear.proofs.Effects.{Act}
use Rattle.linear.proofs.After.{Places}
use Rattle.linear.proofs.Changes.{Keeps, Adds, Takes}

-- where a look-up stands: at Head before its first turn
abbrev pub spot : Worker → ℕ
spot w = cond (eqb w.stage 22) 0 w.curr

-- a turn that moves does not finish
abbrev pub is_moved : Report → Bool
is_moved report.Idle = false
is_moved (report.Moved stage) = true
is_moved (report.Waits node worker) = false
is_moved (report.Finished answer) = false

pub moved_unfinished : (told : Report) → is_moved told ≡ true → is_finished (turn_reported told) ≡ false
moved_unfinished report.Idle moves = refl
moved_unfinished (report.Moved stage) moves = refl
moved_unfinished (report.Waits node worker) moves = refl
moved_unfinished (report.Finished answer) moves = sym moves

-- what was ahead of a look-up in one record is ahead of it in the next, and a look-up does not become one by a turn
abbrev pub Onward : State → ℕ → Worker → Worker → Type 0
Onward s key before after = 22 ≤ after.stage → (22 ≤ before.stage) × (Ahead s (spot before) key → Ahead s (spot after) key)

-- the call goes on: its worker is busy with the same operation, key and length
pub record Continues (old new : Worker) : Type 0 where
  pub busy : new.stage ≢ 0
  pub operation : new.operation ≡ old.operation
  pub key : new.key ≡ old.key
  pub length : new.length ≡ old.length

module _ {nodes : ℕ} {s : State} {w : ℕ} {e : Effect} (act : Act nodes s w e) (new : Worker) where
  -- what a turn decides: the key goes in or out by this turn, or it is present or missing as the answer says; or a contains answers no,
  -- and no unmarked node with the key is ahead of where it stands
  pub data Verdict : Type 0 where
    goes_in : Adds act → (s.worker w).operation ≡ add → new.answer ≡ answer_number Yes → Verdict
    goes_out : Takes act → (s.worker w).operation ≡ remove → new.answer ≡ answer_number Yes → Verdict
    present : Keeps act → In s (s.worker w).key →
        (((s.worker w).operation ≡ add) × (new.answer ≡ answer_number No)) ⊎
        (((s.worker w).operation ≡ contains) × (new.answer ≡ answer_number Yes)) →
        Verdict
    missing : Keeps act → (In s (s.worker w).key → ⊥) →
        (((s.worker w).operation ≡ add) × (new.answer ≡ answer_number Full)) ⊎
        (((s.worker w).operation ≡ remove) × (new.answer ≡ answer_number No)) →
        Verdict
    late : Keeps act → (s.worker w).operation ≡ contains → new.answer ≡ answer_number No → 23 ≤ (s.worker w).stage →
        (Ahead s (s.worker w).curr (s.worker w).key → ⊥) → Verdict

  -- how a call goes on by a turn: an idle worker rests; a turn goes on, with an answer exactly if there was one; or decides it; or finishes
  pub data Course (report : Report) : Type 0 where
    rests : Keeps act → (s.worker w).stage ≡ 0 → Course report
    goes_on : Keeps act → Continues (s.worker w) new → eqb new.answer 0 ≡ eqb (s.worker w).answer 0 →
        is_decision (s.worker w).stage new.answer ≡ false → is_finished (turn_reported report) ≡ false →
        Onward s (s.worker w).key (s.worker w) new → Course report
    settles : Verdict → Continues (s.worker w) new → (s.worker w).answer ≡ 0 → new.answer ≢ 0 →
        is_decision (s.worker w).stage new.answer ≡ true → is_moved report ≡ true → Course report
    ends : Keeps act → (s.worker w).stage ≡ 21 → new.stage ≡ 0 → is_finished (turn_reported report) ≡ true → Course report

-- the count changes as the set does
pub data Grows {nodes : ℕ} {s : State} {w : ℕ} {e : Effect} (act : Act nodes s w e) (growth : Growth) : Type 0 where
  as_kept : Keeps act → growth ≡ Stays → Grows act growth
  as_added : Adds act → growth ≡ OneMore → Grows act growth
  as_taken : Takes act → growth ≡ OneLess → Grows act growth

-- all that is said of a turn
pub record Row (nodes : ℕ) (s : State) (w : ℕ) (step : Step) : Type 0 where
  pub act : Act nodes s w step.effect
  pub grows : Grows act step.growth
  pub placed : Places nodes s w step
  pub standing : Standing nodes (stepped s w step) w step.worker
  pub course : Course act step.worker step.report
