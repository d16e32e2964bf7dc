-- The books that a run keeps from entry to entry, and what an entry does to them: for the contracts of the run's inner functions.
use Rattle.std.specs.Prelude.{◌≡◌, ℕ, zero, suc, ◌<◌, List, [], Bool, false, cond, ◌&&◌, get_or, set, replicate, eqb}
use Rattle.worker.specs.Worker.{remove, contains}
use Rattle.worker.specs.Report.{answer_number}
use Rattle.worker.specs.declared.Worker.{Worker}
use Rattle.worker.specs.declared.report.Answer.TheVariants.{Yes}
use Rattle.worker.specs.declared.report.Report.TheVariants as report
use Rattle.words.specs.Layout.{workers_of}
use Rattle.words.specs.Header.{header_refusals}
use Rattle.words.specs.Replies.{accepted, replied}
use Rattle.words.specs.Records.{worker_at}
use Rattle.words.specs.Flat.{record_in, with_record}
use Rattle.words.specs.declared.entry.Entry.{Entry}
use Rattle.arena.specs.Sets.{member, is_none, walk_of, set_of}
use Rattle.linear.specs.Entries.{Event, call_started, turn_reported, entry_refused, event_of, after}
use Rattle.linear.specs.History.{is_decision, is_late}
use Rattle.schedule.specs.declared.Call.{Call}
use Rattle.schedule.specs.declared.book.Book.{Book}
use Rattle.schedule.specs.Run.{call_width, call_words, first_call, wait_words}

-- call i of a history
abbrev pub call_in : List ℕ → ℕ → Call
call_in = record_in call_width first_call

-- a call that starts; one whose answer is decided; one that finishes
abbrev pub new_call : ℕ → ℕ → ℕ → ℕ → Call
new_call worker operation key start =
    record { worker = worker; operation = operation; key = key; start = start; point = 0; finish = 0; answer = 0 }

abbrev pub decided_call : Call → ℕ → ℕ → Call
decided_call call point answer = record call { point = point; answer = answer }

abbrev pub finished_call : Call → ℕ → Call
finished_call call finish = record call { finish = finish }

-- for each worker: the number of its open call, and the first time at which its contains key was absent, or 0
abbrev pub new_book : Book
new_book = record { calls = 0; refused = 0; waits = 0; opened = replicate 8 0; absent = replicate 8 0 }

abbrev pub with_refusal : Book → Book
with_refusal book = record book { refused = suc book.refused }

abbrev pub with_wait : Book → Book
with_wait book = record book { waits = suc book.waits }

-- a start opens the call with the next number
abbrev pub with_start : Book → ℕ → ℕ → Book
with_start book worker absent =
    record book {
      calls = suc book.calls;
      opened = set book.opened worker book.calls;
      absent = set book.absent worker absent;
    }

-- the chain does not come to its end
abbrev pub is_broken : List ℕ → Bool
is_broken arena = is_none (walk_of arena)

-- an arena whose header is accepted and whose chain comes to its end
pub record InOrder (arena : List ℕ) : Type 0 where
  pub header : accepted [] ≡ replied (header_refusals arena) []
  pub whole : is_broken arena ≡ false

-- a contains whose key is absent at its start has missed it at once
abbrev pub absent_from : List ℕ → ℕ → ℕ → ℕ → ℕ
absent_from arena operation key time = cond (eqb operation contains) (cond (member key (set_of arena)) 0 time) 0

-- the key leaves the set: a worker that looks it up, and has not missed it before, misses it now
abbrev pub looks_up : Worker → ℕ → Bool
looks_up worker key = eqb worker.operation contains && eqb worker.key key

abbrev pub missed_one : ℕ → Worker → ℕ → ℕ → List ℕ → List ℕ
missed_one v worker key time absent = cond (looks_up worker key && eqb (get_or absent v 0) 0) (set absent v time) absent

-- so do so many workers
unfoldable pub missed : (ℕ → Worker) → ℕ → ℕ → ℕ → List ℕ → List ℕ
missed worker zero key time absent = absent
missed worker (suc v) key time absent = missed_one v (worker v) key time (missed worker v key time absent)

abbrev pub with_absent : Book → List ℕ → Book
with_absent book absent = record book { absent = absent }

-- a turn that moves, by the worker's record before it and the answer that is kept then: it decides an answer; it takes a key out where that
-- is a remove's yes
abbrev pub settles : Worker → ℕ → Bool
settles before answer = is_decision before.stage answer

abbrev pub takes_out : Worker → ℕ → Bool
takes_out before answer = settles before answer && eqb before.operation remove && eqb answer (answer_number Yes)

abbrev pub moved_book : Book → List ℕ → Worker → ℕ → ℕ → Book
moved_book book arena before answer time =
    cond (takes_out before answer)
    (with_absent book (missed (worker_at arena) (workers_of arena) before.key time book.absent))
    book

-- what is written into the record of the worker's open call: its finish; its point and answer
abbrev pub with_call : List ℕ → ℕ → Call → List ℕ
with_call words number call = with_record words number (call_words call)

abbrev pub with_finish : List ℕ → ℕ → ℕ → List ℕ
with_finish words number time = with_call words number (finished_call (call_in words number) time)

abbrev pub decision_point : ℕ → ℕ → ℕ → ℕ → ℕ
decision_point operation answer absent time = cond (is_late operation answer) absent time

unfoldable pub with_decision : List ℕ → ℕ → Worker → ℕ → ℕ → ℕ → List ℕ
with_decision words number before answer absent time =
    let point = decision_point before.operation answer absent time in
    cond (settles before answer) (with_call words number (decided_call (call_in words number) point answer)) words

-- an entry, by what it comes to
module _ (arena : List ℕ) (time : ℕ) (entry : Entry) (book : Book) where
  -- the arena after it; of a turn the worker's record before it, the answer that is kept after it, and the number of the open call
  abbrev next : List ℕ
  next = after arena entry

  abbrev before : Worker
  before = worker_at arena entry.worker

  abbrev answer : ℕ
  answer = (worker_at next entry.worker).answer

  abbrev number : ℕ
  number = get_or book.opened entry.worker 0

  unfoldable pub next_book : Event → Book
  next_book call_started = with_start book entry.worker (absent_from next entry.act entry.key time)
  next_book (entry_refused refusal) = with_refusal book
  next_book (turn_reported report.Idle) = book
  next_book (turn_reported (report.Moved stage)) = moved_book book next before answer time
  next_book (turn_reported (report.Waits node worker)) = with_wait book
  next_book (turn_reported (report.Finished told)) = book

  unfoldable pub next_calls : List ℕ → Event → List ℕ
  next_calls words call_started = with_call words book.calls (new_call entry.worker entry.act entry.key time)
  next_calls words (entry_refused refusal) = words
  next_calls words (turn_reported report.Idle) = words
  next_calls words (turn_reported (report.Moved stage)) =
      with_decision words number before answer (get_or (moved_book book next before answer time).absent entry.worker 0) time
  next_calls words (turn_reported (report.Waits node worker)) = words
  next_calls words (turn_reported (report.Finished told)) = with_finish words number time

  unfoldable pub next_waits : List ℕ → Event → List ℕ
  next_waits words call_started = words
  next_waits words (entry_refused refusal) = words
  next_waits words (turn_reported report.Idle) = words
  next_waits words (turn_reported (report.Moved stage)) = words
  next_waits words (turn_reported (report.Waits node worker)) =
      with_record words book.waits (wait_words (record { call = number; time = time; node = node; worker = worker }))
  next_waits words (turn_reported (report.Finished told)) = words

  -- the books and the flat words after it
  unfoldable pub book_after : Book
  book_after = next_book (event_of arena entry)

  unfoldable pub calls_after : List ℕ → List ℕ
  calls_after words = next_calls words (event_of arena entry)

  unfoldable pub waits_after : List ℕ → List ℕ
  waits_after words = next_waits words (event_of arena entry)

-- the counts have room for one more
abbrev pub Roomy : Book → Type 0
Roomy book = (book.calls < 65535) × (book.refused < 65535) × (book.waits < 65535)
