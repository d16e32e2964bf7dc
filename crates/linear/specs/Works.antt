-- All that is claimed of a list of entries, and from which arenas: from every one that is sound and at rest, and so from every fresh one.
use Rattle.std.specs.Prelude.{ℕ, ◌<◌, ◌≡◌, List}
use Rattle.worker.specs.Worker.{idle_stage}
use Rattle.words.specs.Layout.{workers_of}
use Rattle.words.specs.Records.{worker_at}
use Rattle.words.specs.declared.entry.Entry.{Entry}
use Rattle.arena.specs.declared.chain.Label.{Label}
use Rattle.arena.specs.Sets.{set_of}
use Rattle.arena.specs.AtRest.{SoundAtRest}
use Rattle.linear.specs.History.{arena_at}
use Rattle.linear.specs.Linearizable.{Linearizable, Unbroken, ExactSets, ExactCounts, Resting, Waiting}
use Rattle.linear.specs.Snapshots.{TrueSnapshots}

-- every worker is idle
abbrev pub AllIdle : List ℕ → Type 0
AllIdle arena = (worker : ℕ) → worker < workers_of arena → (worker_at arena worker).stage ≡ idle_stage

-- at every time at which every worker is idle the arena is sound and at rest
abbrev pub AtRestAgain : List ℕ → List Entry → Type 0
AtRestAgain initial entries = (time : ℕ) → AllIdle (arena_at initial entries time) → SoundAtRest (arena_at initial entries time)

-- where the sequential set begins with these labels, and the first entry gets this arena
pub record WorksFrom (begins : List Label) (initial : List ℕ) (entries : List Entry) : Type 0 where
  pub linearizable : Linearizable begins initial entries
  pub unbroken : Unbroken initial entries
  pub exact_sets : ExactSets initial entries
  pub exact_counts : ExactCounts initial entries
  pub resting : Resting initial entries
  pub waiting : Waiting initial entries
  pub true_snapshots : TrueSnapshots initial entries
  pub at_rest_again : AtRestAgain initial entries

-- so it is with every arena that is sound and at rest, where the sequential set begins with the set of that arena (`Theorem.from_rest`)
abbrev pub FromRest : Type 0
FromRest = (initial : List ℕ) (entries : List Entry) → SoundAtRest initial → WorksFrom (set_of initial) initial entries
