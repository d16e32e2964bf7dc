-- Demand 3, one field for each of its sentences, and what is claimed beside it.
use Rattle.std.specs.Prelude.{ℕ, suc, ◌≤◌, ◌<◌, ◌≡◌, ◌≢◌, ◌↔◌, ◌⊎◌, true, length, get_or}
use mathlib.Core.List.{List, [], ◌∷◌, Memᴰ, map}
use Rattle.worker.specs.Worker.{idle_stage, idle_worker}
use Rattle.worker.specs.declared.refusal.Refusal.TheVariants.{BrokenRecord, BrokenChain, BrokenCount}
use Rattle.worker.specs.Report.{answer_number}
use Rattle.worker.specs.declared.report.Answer.{Answer}
use Rattle.worker.specs.declared.report.Report.TheVariants.{Finished}
use Rattle.words.specs.Layout.{workers_of, stored_of}
use Rattle.words.specs.Records.{worker_at}
use Rattle.words.specs.Replies.{accepted}
use Rattle.words.specs.declared.entry.Entry.{Entry}
use Rattle.arena.specs.declared.chain.Label.{Label}
use Rattle.arena.specs.Sets.{node_in, ChainWhole, set_of, InSet}
use Rattle.arena.specs.Stored.{stored_answer}
use Rattle.linear.specs.Entries.{is_turn, turn_reported, entry_refused}
use Rattle.linear.specs.History.{Call, Wait, entry_at, arena_at, event_at, calls, waits}
use Rattle.linear.specs.Order.{in_order}
use Rattle.linear.specs.Sequential.{answers_to, labels_after}

-- entry k is a turn of the worker, and reports finished with the answer of this number
pub record Tells (initial : List ℕ) (entries : List Entry) (worker number time : ℕ) : Type 0 where
  pub answer : Answer
  pub own : (entry_at entries time).worker ≡ worker
  pub event : event_at initial entries time ≡ turn_reported (Finished answer)
  pub numbered : answer_number answer ≡ number

-- of a list of entries, the arena that its first one gets, and the labels that the sequential set begins with
pub record Linearizable (begins : List Label) (initial : List ℕ) (entries : List Entry) : Type 0 where
  -- the calls that have reached their points, taken whole and one after another by the sequential set, have the same answers there as
  -- turn by turn; it answers full only for an absent key, and then changes nothing (`response_to`)
  pub same_answers :
      answers_to begins (in_order initial entries) ≡ map (λ (call : Call). call.answer) (in_order initial entries)
  -- no call's point is before its start
  pub started_before : (call : Call) → Memᴰ call (calls initial entries) → call.point ≢ 0 → call.start ≤ call.point
  -- every finished call has reached its point before its finish
  pub reached_before : (call : Call) → Memᴰ call (calls initial entries) → call.finish ≢ 0 →
      (call.point ≢ 0) × (call.point < call.finish)
  -- 0 stands for the answer of a call without a point, and of no other
  pub answered_there : (call : Call) → Memᴰ call (calls initial entries) → (call.answer ≡ 0) ↔ (call.point ≡ 0)
  -- a call's answer is the one that its worker reports at its finish
  pub told_answer : (call : Call) → Memᴰ call (calls initial entries) → call.finish ≢ 0 →
      Tells initial entries call.worker call.answer call.finish
  -- the sequential set holds exactly the arena's set, and each node of the set the length of the add that put its key there
  pub same_labels : labels_after begins (in_order initial entries) ≡ set_of (arena_at initial entries (length entries))

module _ (initial : List ℕ) (entries : List Entry) where
  -- beside it: no turn meets 6, 7 or 14
  abbrev pub Unbroken : Type 0
  Unbroken =
      (time : ℕ) → is_turn (entry_at entries time) ≡ true →
      (event_at initial entries time ≢ entry_refused BrokenRecord)
      × (event_at initial entries time ≢ entry_refused BrokenChain)
      × (event_at initial entries time ≢ entry_refused BrokenCount)

  -- and at every time the chain is whole, and the labels of the set are those of document 01's words
  abbrev pub ExactSets : Type 0
  ExactSets =
      (time : ℕ) →
      ChainWhole (arena_at initial entries time)
      × ((label : Label) → Memᴰ label (set_of (arena_at initial entries time)) ↔ InSet (arena_at initial entries time) label)

  -- and the header's count is the size of the set, and is what `stored` answers (document 02, A6)
  abbrev pub ExactCounts : Type 0
  ExactCounts =
      (time : ℕ) →
      (stored_of (arena_at initial entries time) ≡ length (set_of (arena_at initial entries time)))
      × (stored_answer (arena_at initial entries time) ≡ accepted (length (set_of (arena_at initial entries time)) ∷ []))

  -- and an idle worker has the idle record, so it keeps no node from being free
  abbrev pub Resting : Type 0
  Resting =
      (time worker : ℕ) → worker < workers_of (arena_at initial entries time) →
      (worker_at (arena_at initial entries time) worker).stage ≡ idle_stage → worker_at (arena_at initial entries time) worker ≡ idle_worker

  -- of a wait
  pub record Blocked (wait : Wait) : Type 0 where
    -- the call with its number
    pub call : Call
    pub there : wait.call < length (calls initial entries)
    pub numbered : get_or (calls initial entries) wait.call call ≡ call
    -- is one of the worker whose turn it was, and open then
    pub own : call.worker ≡ (entry_at entries wait.time).worker
    pub started : call.start < wait.time
    pub unfinished : (call.finish ≡ 0) ⊎ (wait.time < call.finish)
    -- the worker in the way owns the node wanted, and is one of the W workers, another one, and busy then
    pub owns : (node_in (arena_at initial entries wait.time) wait.node).owner ≡ suc wait.worker
    pub known : wait.worker < workers_of (arena_at initial entries wait.time)
    pub another : wait.worker ≢ (entry_at entries wait.time).worker
    pub busy : (worker_at (arena_at initial entries wait.time) wait.worker).stage ≢ idle_stage

  -- and so it is of every wait
  abbrev pub Waiting : Type 0
  Waiting = (wait : Wait) → Memᴰ wait (waits initial entries) → Blocked wait
