-- Entries (document 01: entries of a schedule), and what one of them does to an arena.
use Rattle.std.specs.Prelude.{ℕ, List, [], Bool, true, false, cond, eqb, Result, Ok, Err}
use Rattle.worker.specs.Refusals.{judged}
use Rattle.worker.specs.declared.refusal.Refusal.{Refusal}
use Rattle.worker.specs.Report.{report_values}
use Rattle.worker.specs.declared.report.Report.{Report}
use Rattle.worker.specs.declared.report.Report.TheVariants as report
use Rattle.words.specs.Entries.{turn}
use Rattle.words.specs.declared.entry.Entry.{Entry}
use Rattle.arena.specs.Start.{start_refusals, start_arena}
use Rattle.lazy.specs.Turn.{outcome_of, turn_on, turn_arena}

-- an entry is that of `words` (`specs/Entries` there): worker, act, key, and the length that a start carries; act 0 is a turn, and every other
-- act a start, one above 3 a start with a bad operation
abbrev pub is_turn : Entry → Bool
is_turn entry = eqb entry.act turn

-- what an entry comes to: a call is started, a turn reports, or the entry is refused
pub data Event : Type 0 where
  call_started : Event
  turn_reported : Report → Event
  entry_refused : Refusal → Event

abbrev pub turn_event : Result Report Refusal → Event
turn_event (Ok report) = turn_reported report
turn_event (Err refusal) = entry_refused refusal

unfoldable pub event_of : List ℕ → Entry → Event
event_of arena entry =
    cond (is_turn entry) (turn_event (outcome_of (turn_on arena entry.worker)))
    (judged (start_refusals arena entry.worker entry.act entry.key entry.length) entry_refused call_started)

-- the arena after an entry; a refused one leaves it as it was
unfoldable pub after : List ℕ → Entry → List ℕ
after arena entry =
    cond (is_turn entry) (turn_arena arena entry.worker) (start_arena arena entry.worker entry.act entry.key entry.length)

-- the kinds of events that a history and its totals ask for
abbrev pub is_started : Event → Bool
is_started call_started = true
is_started (turn_reported report) = false
is_started (entry_refused refusal) = false

abbrev pub is_reported : Event → Bool
is_reported call_started = false
is_reported (turn_reported report) = true
is_reported (entry_refused refusal) = false

abbrev pub is_refused : Event → Bool
is_refused call_started = false
is_refused (turn_reported report) = false
is_refused (entry_refused refusal) = true

abbrev pub is_waits : Event → Bool
is_waits call_started = false
is_waits (entry_refused refusal) = false
is_waits (turn_reported report.Idle) = false
is_waits (turn_reported (report.Moved stage)) = false
is_waits (turn_reported (report.Waits node worker)) = true
is_waits (turn_reported (report.Finished answer)) = false

abbrev pub is_finished : Event → Bool
is_finished call_started = false
is_finished (entry_refused refusal) = false
is_finished (turn_reported report.Idle) = false
is_finished (turn_reported (report.Moved stage)) = false
is_finished (turn_reported (report.Waits node worker)) = false
is_finished (turn_reported (report.Finished answer)) = true

-- the values of a turn's report: of one that waits 2, the node wanted, and the worker that owns it
abbrev pub event_values : Event → List ℕ
event_values call_started = []
event_values (entry_refused refusal) = []
event_values (turn_reported report) = report_values report
