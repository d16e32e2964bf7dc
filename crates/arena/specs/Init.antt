-- init (document 01: lay a fresh board; document 02, A8: of layout 2).
use Rattle.std.specs.Prelude.{ℕ, ◌-◌, not, length, drop, replicate, ltb}
use mathlib.Core.List.{List, [], ◌∷◌, ◌++◌, flatten}
use Rattle.worker.specs.Node.{head_node, tail_node, unused_node}
use Rattle.worker.specs.Worker.{idle_worker}
use Rattle.worker.specs.Refusals.{Test}
use Rattle.worker.specs.declared.refusal.Refusal.TheVariants.{BadCounts, ShortArena}
use Rattle.words.specs.Layout.{good_counts, header_words, total}
use Rattle.words.specs.Records.{worker_words, node_words}
use Rattle.words.specs.Replies.{Reply, replied, written}

-- the worker records of a fresh arena: idle
unfoldable pub fresh_workers : ℕ → List ℕ
fresh_workers workers = flatten (replicate workers (worker_words idle_worker))

-- its node records: Head, Tail, and all other nodes unused
unfoldable pub fresh_nodes : ℕ → List ℕ
fresh_nodes nodes = node_words head_node ++ node_words tail_node ++ flatten (replicate (nodes - 2) (node_words unused_node))

-- a fresh arena, with no label stored
unfoldable pub fresh_words : ℕ → ℕ → List ℕ
fresh_words workers nodes = header_words workers nodes 0 ++ fresh_workers workers ++ fresh_nodes nodes

-- order: 10, 1
unfoldable pub init_refusals : List ℕ → ℕ → ℕ → List Test
init_refusals arena workers nodes =
    (not (good_counts workers nodes), BadCounts)
    ∷ (ltb (length arena) (total workers nodes), ShortArena)
    ∷ []

unfoldable pub init_answer : List ℕ → ℕ → ℕ → Reply
init_answer arena workers nodes = replied (init_refusals arena workers nodes) []

-- words past the total stay
unfoldable pub init_arena : List ℕ → ℕ → ℕ → List ℕ
init_arena arena workers nodes =
    written (init_refusals arena workers nodes) arena (fresh_words workers nodes ++ drop (total workers nodes) arena)
