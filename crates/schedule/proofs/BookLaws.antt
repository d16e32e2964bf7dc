-- What an entry does to the books and to the flat words, by what it comes to.
use Prim.Native.Nat.{ℕ}
use mathlib.Core.Path.{◌≡◌, sym, ap}
use mathlib.Core.Logic.{◌≢◌}
use mathlib.Core.List.{List, []}
use borrow.Author.Tests.{ne_eqb}
use Rattle.worker.specs.Refusals.{Test}
use Rattle.words.specs.Replies.{accepted, refusing, reply}
use Rattle.words.proofs.Judged.{judged_refused, judged_accepted}
use Rattle.arena.specs.Start.{start_refusals, start_answer, start_arena}
use Rattle.std.specs.Prelude.{Result}
use Rattle.worker.specs.Report.{report_values}
use Rattle.worker.specs.declared.refusal.Refusal.{Refusal}
use Rattle.worker.specs.declared.report.Report.{Report}
use Rattle.words.specs.declared.entry.Entry.{Entry}
use Rattle.lazy.specs.Turn.{turn_answer, turn_arena}
use Rattle.lazy.proofs.TurnLaws.{answer_told}
use Rattle.linear.specs.Entries.{Event, call_started, entry_refused, turn_event, event_of, after}
use Rattle.schedule.specs.declared.book.Book.{Book}
use Rattle.schedule.specs.Book.{next_book, next_calls, next_waits, book_after, calls_after, waits_after}

module _ (arena : List ℕ) (entry : Entry) (turns : entry.act ≡ 0) where
  -- a turn, whatever the key and the length of its entry
  pub turn_arena_lem : turn_arena arena entry.worker ≡ after arena entry
  unfolding after
  turn_arena_lem = rw turns

  turn_event_lem : (told : Result Report Refusal) → reply report_values told ≡ turn_answer arena entry.worker → turn_event told ≡ event_of arena entry
  unfolding event_of
  turn_event_lem told same = rw turns (ap turn_event (answer_told arena entry.worker {told = told} same))

module _ (arena : List ℕ) (entry : Entry) (starts : entry.act ≢ 0) where
  -- a start
  pub start_arena_lem : start_arena arena entry.worker entry.act entry.key entry.length ≡ after arena entry
  unfolding after
  start_arena_lem = rw (ne_eqb entry.act 0 starts)

  abbrev refusals : List Test
  refusals = start_refusals arena entry.worker entry.act entry.key entry.length

  start_refused : {refusal : Refusal} → refusing refusal ≡ start_answer arena entry.worker entry.act entry.key entry.length →
      entry_refused refusal ≡ event_of arena entry
  unfolding event_of start_answer
  start_refused told = rw (ne_eqb entry.act 0 starts) (sym (judged_refused refusals [] entry_refused call_started told))

  start_accepted : accepted [] ≡ start_answer arena entry.worker entry.act entry.key entry.length → call_started ≡ event_of arena entry
  unfolding event_of start_answer
  start_accepted told = rw (ne_eqb entry.act 0 starts) (sym (judged_accepted refusals [] entry_refused call_started told))

module _ (arena : List ℕ) (entry : Entry) (time : ℕ) (book : Book) where
  -- the books and the flat words after an entry
  pub record After (event : Event) : Type 0 where
    pub books : next_book arena time entry book event ≡ book_after arena time entry book
    pub calls : (words : List ℕ) → next_calls arena time entry book words event ≡ calls_after arena time entry book words
    pub waits : (words : List ℕ) → next_waits arena time entry book words event ≡ waits_after arena time entry book words

  -- are those of the event that it comes to
  by_event : {event : Event} → event ≡ event_of arena entry → After event
  unfolding book_after calls_after waits_after
  by_event same =
      record {
        books = ap (next_book arena time entry book) same;
        calls = λ words. ap (next_calls arena time entry book words) same;
        waits = λ words. ap (next_waits arena time entry book words) same;
      }

  pub after_turn : entry.act ≡ 0 → (told : Result Report Refusal) → reply report_values told ≡ turn_answer arena entry.worker → After (turn_event told)
  after_turn turns told same = by_event (turn_event_lem arena entry turns told same)

  pub after_refused_start : entry.act ≢ 0 → {refusal : Refusal} →
      refusing refusal ≡ start_answer arena entry.worker entry.act entry.key entry.length → After (entry_refused refusal)
  after_refused_start starts told = by_event (start_refused arena entry starts told)

  pub after_start : entry.act ≢ 0 → accepted [] ≡ start_answer arena entry.worker entry.act entry.key entry.length → After call_started
  after_start starts told = by_event (start_accepted arena entry starts told)
