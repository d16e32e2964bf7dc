-- An arena, decoded: its nodes as a function for each field, and its workers. The proof speaks of these; only `decode` knows words.
use Prim.Native.Nat.{ℕ, suc}
use mathlib.Core.List.{List, [], ◌∷◌}
use mathlib.Core.Bool.{cond}
use lib.Dec.{ltb, eqb}
use Rattle.worker.specs.Worker.{idle_worker, started_worker}
use Rattle.worker.specs.Stages.{reports, step_of, grown}
use Rattle.worker.specs.declared.Node.{Node}
use Rattle.worker.specs.declared.Worker.{Worker}
use Rattle.worker.specs.declared.report.Report.TheVariants.{Idle}
use Rattle.worker.specs.Seen.{Seen}
use Rattle.worker.specs.declared.report.Step.{Step}
use Rattle.worker.specs.declared.report.Effect.{Effect}
use Rattle.worker.specs.declared.report.Effect.TheVariants.{Nothing, SetOwner, SetNext, SetMark, Fill}
use Rattle.words.specs.Layout.{word, workers_of, stored_of, node_key, node_next, node_mark, node_owner, node_length}
use Rattle.words.specs.Records.{worker_at}
use Rattle.arena.specs.Sets.{node_in}
use Rattle.lazy.specs.Turn.{seen_of}

pub record State : Type 0 where
  pub key : ℕ → ℕ
  pub next : ℕ → ℕ
  pub mark : ℕ → ℕ
  pub owner : ℕ → ℕ
  pub length : ℕ → ℕ
  -- the count of stored labels
  pub stored : ℕ
  pub worker : ℕ → Worker

-- the nodes alone, but for their lengths
pub record Shape : Type 0 where
  pub key : ℕ → ℕ
  pub next : ℕ → ℕ
  pub mark : ℕ → ℕ
  pub owner : ℕ → ℕ

abbrev pub shape_of : State → Shape
shape_of s = record { key = s.key; next = s.next; mark = s.mark; owner = s.owner }

-- past the last worker every record is idle
abbrev pub decode : List ℕ → State
decode arena =
    record {
      key = λ n. (node_in arena n).key;
      next = λ n. (node_in arena n).next;
      mark = λ n. (node_in arena n).mark;
      owner = λ n. (node_in arena n).owner;
      length = λ n. (node_in arena n).length;
      stored = stored_of arena;
      worker = λ v. cond (ltb v (workers_of arena)) (worker_at arena v) idle_worker;
    }

abbrev pub node_of : State → ℕ → Node
node_of s n = record { key = s.key n; next = s.next n; mark = s.mark n; owner = s.owner n; length = s.length n }

-- what an effect makes of a word: of a node, a field, and what stood there
abbrev pub word_after : Effect → ℕ → ℕ → ℕ → ℕ
word_after Nothing node field old = old
word_after (SetOwner n owner) node field old = cond (eqb field node_owner) (cond (eqb node n) owner old) old
word_after (SetNext n next) node field old = cond (eqb field node_next) (cond (eqb node n) next old) old
word_after (SetMark n) node field old = cond (eqb field node_mark) (cond (eqb node n) 1 old) old
word_after (Fill n key next length) node field old = cond (eqb node n) (word (key ∷ next ∷ 0 ∷ 0 ∷ length ∷ []) field) old

-- the state after a worker's step
abbrev pub stepped : State → ℕ → Step → State
stepped s w step =
    record {
      key = λ n. word_after step.effect n node_key (s.key n);
      next = λ n. word_after step.effect n node_next (s.next n);
      mark = λ n. word_after step.effect n node_mark (s.mark n);
      owner = λ n. word_after step.effect n node_owner (s.owner n);
      length = λ n. word_after step.effect n node_length (s.length n);
      stored = grown step.growth s.stored;
      worker = λ v. cond (eqb v w) step.worker (s.worker v);
    }

-- a start is a step that writes the record alone
abbrev pub start_step : ℕ → ℕ → ℕ → Step
start_step operation key length = reports (started_worker operation key length) Idle

-- what a worker's turn sees, and its step
abbrev pub seen_in : ℕ → ℕ → State → ℕ → Seen
seen_in workers nodes s w = seen_of s.worker workers (node_of s) nodes (s.worker w)

abbrev pub turn_step : ℕ → ℕ → State → ℕ → Step
turn_step workers nodes s w = step_of (s.worker w) (suc w) (seen_in workers nodes s w)
