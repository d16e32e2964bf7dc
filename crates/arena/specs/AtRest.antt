-- An arena that is sound and at rest (document 02, A7: a saved board): from it calls may go on, and whenever all have finished it is so again.
use Rattle.std.specs.Prelude.{ℕ, ◌≤◌, ◌<◌, ◌≡◌, ◌≢◌, List, [], length}
use Rattle.worker.specs.Node.{head, tail}
use Rattle.worker.specs.Worker.{idle_worker}
use Rattle.worker.specs.declared.Node.{Node}
use Rattle.words.specs.Layout.{workers_of, nodes_of, stored_of}
use Rattle.words.specs.Records.{worker_at}
use Rattle.words.specs.Replies.{accepted, replied}
use Rattle.words.specs.Header.{header_refusals}
use Rattle.arena.specs.Sets.{node_in, set_of, OnChain}

-- of nodes by their number, the first so many of which there are
pub record NodesAtRest (nodes : ℕ → Node) (count : ℕ) : Type 0 where
  -- Head and Tail are those of a fresh arena, but for where Head leads
  pub head_key : (nodes head).key ≡ 0
  pub tail_key : (nodes tail).key ≡ 65535
  pub tail_next : (nodes tail).next ≡ tail
  -- every node leads to a node, its key is a word, and nobody owns it
  pub inside : (node : ℕ) → node < count → (nodes node).next < count
  pub small : (node : ℕ) → node < count → (nodes node).key ≤ 65535
  pub unowned : (node : ℕ) → node < count → (nodes node).owner ≡ 0
  -- along the chain keys rise, up to Tail
  pub rises : (node : ℕ) → OnChain (λ n. (nodes n).next) count node → node ≢ tail → (nodes node).key < (nodes (nodes node).next).key

-- every worker has the idle record
abbrev pub WorkersAtRest : List ℕ → Type 0
WorkersAtRest arena = (worker : ℕ) → worker < workers_of arena → worker_at arena worker ≡ idle_worker

pub record SoundAtRest (arena : List ℕ) : Type 0 where
  -- the header passes the header test
  pub header : replied (header_refusals arena) [] ≡ accepted []
  pub nodes : NodesAtRest (node_in arena) (nodes_of arena)
  pub workers : WorkersAtRest arena
  -- the count is the size of the set
  pub counted : stored_of arena ≡ length (set_of arena)
