-- What a snapshot is worth (document 02, A3): there is room for it, and whoever looks a key up then, and goes on alone, is told the same.
use Rattle.std.specs.Prelude.{ℕ, zero, suc, ◌-◌, ◌≤◌, ◌<◌, ◌≡◌, true, length}
use mathlib.Core.List.{List, Memᴰ}
use Rattle.worker.specs.Worker.{contains, is_key, idle_stage}
use Rattle.worker.specs.declared.report.Answer.{Answer}
use Rattle.worker.specs.declared.report.Answer.TheVariants.{Yes, No}
use Rattle.worker.specs.declared.report.Report.TheVariants.{Finished}
use Rattle.words.specs.Layout.{workers_of, nodes_of}
use Rattle.words.specs.Records.{worker_at}
use Rattle.words.specs.declared.entry.Entry.{Entry}
use Rattle.arena.specs.Snapshot.{keys_of, Listed}
use Rattle.linear.specs.Entries.{call_started, turn_reported, event_of, after}
use Rattle.linear.specs.History.{arena_at}

-- the start of a worker's contains, and its turn
abbrev pub look_up : ℕ → ℕ → Entry
look_up worker key = record { worker = worker; act = contains; key = key; length = 0 }

abbrev pub own_turn : ℕ → Entry
own_turn worker = record { worker = worker; act = 0; key = 0; length = 0 }

-- the arena after so many turns of one worker alone
unfoldable pub after_turns : ℕ → List ℕ → ℕ → List ℕ
after_turns worker arena zero = arena
after_turns worker arena (suc turns) = after_turns worker (after arena (own_turn worker)) turns

-- after some turns of a worker alone the next one reports finished with the answer (the one after that would report idle)
pub record Finishes (worker : ℕ) (arena : List ℕ) (answer : Answer) : Type 0 where
  pub turns : ℕ
  pub finished : event_of (after_turns worker arena turns) (own_turn worker) ≡ turn_reported (Finished answer)

-- so it is with a contains, which is started
abbrev pub Answers : List ℕ → ℕ → ℕ → Answer → Type 0
Answers arena worker key answer =
    (event_of arena (look_up worker key) ≡ call_started) × Finishes worker (after arena (look_up worker key)) answer

pub record TrueSnapshot (arena : List ℕ) : Type 0 where
  -- a snapshot is accepted where there is room for N less 2 keys
  pub lists : (lent : List ℕ) → nodes_of arena - 2 ≤ length lent → Listed arena lent
  -- and a contains of an idle worker answers yes exactly if its key is listed
  pub answers : (worker key : ℕ) → worker < workers_of arena → (worker_at arena worker).stage ≡ idle_stage → is_key key ≡ true →
      (Memᴰ key (keys_of arena) → Answers arena worker key Yes)
      × ((Memᴰ key (keys_of arena) → ⊥) → Answers arena worker key No)

-- so it is at every time of a list of entries
abbrev pub TrueSnapshots : List ℕ → List Entry → Type 0
TrueSnapshots initial entries = (time : ℕ) → TrueSnapshot (arena_at initial entries time)
