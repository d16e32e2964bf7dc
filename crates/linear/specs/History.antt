-- The history of a list of entries: its times, its calls with start, point, finish and answer, and its waits, read off the entries and the
-- stages.
use Rattle.std.specs.Prelude.{ℕ, zero, suc, ◌-◌, List, map, Bool, cond, not, ◌&&◌, ◌||◌, length, get_or, eqb}
use Rattle.std.specs.List.{filter}
use Rattle.worker.specs.Worker.{contains, within}
use Rattle.worker.specs.Report.{answer_number}
use Rattle.worker.specs.declared.report.Answer.TheVariants.{No, Full}
use Rattle.words.specs.Records.{worker_at}
use Rattle.words.specs.declared.entry.Entry.{Entry}
use Rattle.arena.specs.Sets.{member, set_of}
use Rattle.arena.specs.Lists.{numbers_from}
use Rattle.linear.specs.Times.{first, latest}
use Rattle.linear.specs.Entries.{Event, event_of, after, is_started, is_reported, is_refused, is_waits, is_finished, event_values}

-- a call record: worker, operation, key, start, point, finish, answer; 0 stands for a point or finish not reached, and for the answer
-- of a call without a point. Beside them the length that its start carries, which no row of records has
pub record Call : Type 0 where
  pub worker : ℕ
  pub operation : ℕ
  pub key : ℕ
  pub length : ℕ
  pub start : ℕ
  pub point : ℕ
  pub finish : ℕ
  pub answer : ℕ

-- a wait (document 02, A1): the number of the call whose turn it was, counted from 0 in order of start; its time; the node wanted; and the
-- worker in the way
pub record Wait : Type 0 where
  pub call : ℕ
  pub time : ℕ
  pub node : ℕ
  pub worker : ℕ

-- the totals of a list: entries, refused entries, turns that reported waits, and calls
pub record Totals : Type 0 where
  pub entries : ℕ
  pub refused : ℕ
  pub waits : ℕ
  pub calls : ℕ

-- the turns that decide an answer, by stage and the answer that is kept then: 13 with no, 14 with full, 15, 16, 23 with no, 25
unfoldable pub is_decision : ℕ → ℕ → Bool
is_decision stage answer =
    (eqb stage 13 && eqb answer (answer_number No))
    || (eqb stage 14 && eqb answer (answer_number Full))
    || within 15 16 stage
    || (eqb stage 23 && eqb answer (answer_number No))
    || eqb stage 25

-- a contains that answers no: its point is not the time of its own turn
abbrev pub is_late : ℕ → ℕ → Bool
is_late operation answer = eqb operation contains && eqb answer (answer_number No)

-- entries are counted from 1
unfoldable pub entry_at : List Entry → ℕ → Entry
entry_at entries time = get_or entries (time - 1) (record { worker = 0; act = 0; key = 0; length = 0 })

-- a list of entries, and the arena that its first one gets
module _ (initial : List ℕ) (entries : List Entry) where
  -- time k (document 01: moment k) is the arena after entry k
  unfoldable pub arena_at : ℕ → List ℕ
  arena_at zero = initial
  arena_at (suc time) = after (arena_at time) (entry_at entries (suc time))

  -- what entry k comes to, on the arena as the last one left it
  unfoldable pub event_at : ℕ → Event
  event_at time = event_of (arena_at (time - 1)) (entry_at entries time)

  abbrev pub starts_at : ℕ → Bool
  starts_at time = is_started (event_at time)

  -- entry k is a turn of the worker that reports finished
  unfoldable pub finishes_at : ℕ → ℕ → Bool
  finishes_at worker time = is_finished (event_at time) && eqb (entry_at entries time).worker worker

  -- entry k is a turn of the worker that decides its call's answer
  unfoldable pub decides_at : ℕ → ℕ → Bool
  decides_at worker time =
      is_reported (event_at time)
      && eqb (entry_at entries time).worker worker
      && is_decision (worker_at (arena_at (time - 1)) worker).stage (worker_at (arena_at time) worker).answer

  -- at time k the key is not in the set
  unfoldable pub absent_at : ℕ → ℕ → Bool
  absent_at key time = not (member key (set_of (arena_at time)))

  -- the time at which the call of a worker that starts at `start` finishes
  unfoldable pub finish_of : ℕ → ℕ → ℕ
  finish_of worker start = first (finishes_at worker) (suc start) (length entries - start)

  -- the time at which its answer is decided, among its turns up to its finish
  unfoldable pub decision_of : ℕ → ℕ → ℕ → ℕ
  decision_of worker start finish =
      first (decides_at worker) (suc start) (cond (eqb finish 0) (length entries) finish - start)

  -- the answer that is decided there
  unfoldable pub answer_of : ℕ → ℕ → ℕ
  answer_of worker decision = cond (eqb decision 0) 0 (worker_at (arena_at decision) worker).answer

  -- the point: the time of the turn that decides; of a contains that answers no, the first time from its start on at which its key is
  -- not in the set
  unfoldable pub point_of : Entry → ℕ → ℕ → ℕ → ℕ
  point_of entry start decision answer =
      cond (is_late entry.act answer) (first (absent_at entry.key) start (suc decision - start)) decision

  -- the call that starts at a time
  unfoldable pub call_at : ℕ → Call
  call_at start =
      let entry = entry_at entries start in
      let finish = finish_of entry.worker start in
      let decision = decision_of entry.worker start finish in
      let answer = answer_of entry.worker decision in
      record {
        worker = entry.worker;
        operation = entry.act;
        key = entry.key;
        length = entry.length;
        start = start;
        point = point_of entry start decision answer;
        finish = finish;
        answer = answer;
      }

  -- the times of the entries
  abbrev pub times : List ℕ
  times = numbers_from 1 (length entries)

  -- the calls: one for each accepted start, in order of start
  unfoldable pub calls : List Call
  calls = map call_at (filter starts_at times)

  -- entry k starts a call of the worker
  unfoldable pub starts_call_of : ℕ → ℕ → Bool
  starts_call_of worker time = starts_at time && eqb (entry_at entries time).worker worker

  -- the number of the call that a worker is at when entry k comes: how many calls were started before that one, the worker's latest
  unfoldable pub call_number : ℕ → ℕ → ℕ
  call_number worker time =
      let start = latest (starts_call_of worker) (time - 1) in
      length (filter starts_at (numbers_from 1 (start - 1)))

  -- the wait at a time at which a turn waits
  abbrev pub waits_at : ℕ → Bool
  waits_at time = is_waits (event_at time)

  unfoldable pub wait_at : ℕ → Wait
  wait_at time =
      record {
        call = call_number (entry_at entries time).worker time;
        time = time;
        node = get_or (event_values (event_at time)) 1 0;
        worker = get_or (event_values (event_at time)) 2 0;
      }

  -- the waits: one for each turn that waits, by time
  unfoldable pub waits : List Wait
  waits = map wait_at (filter waits_at times)

  -- how many entries come to an event of a kind
  abbrev pub count_of : (Event → Bool) → ℕ
  count_of test = length (filter (λ time. test (event_at time)) times)

  unfoldable pub totals : Totals
  totals =
      record {
        entries = length entries;
        refused = count_of is_refused;
        waits = count_of is_waits;
        calls = length calls;
      }
