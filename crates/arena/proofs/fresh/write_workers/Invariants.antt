-- The invariant: to write the idle workers that are left makes the whole.
use Prim.Native.Nat.{◌-◌}
use mathlib.Core.Path.{◌≡◌}
use mathlib.Core.List.{flatten}
use lib.ListN.{replicate}
use lib.Seq.{sets}
use Rattle.worker.specs.Worker.{idle_worker}
use Rattle.words.specs.Layout.{worker_from}
use Rattle.words.specs.Records.{worker_words}
use Rattle.arena.specs.Init.{fresh_workers}
use Rattle.arena.proofs.fresh.write_workers.Given as goal

abbrev pub invariant-loop-number : goal.invariant-loop-number
invariant-loop-number l =
    sets l.arena (worker_from l.number) (flatten (replicate (l.workers - l.number) (worker_words idle_worker)))
    ≡ sets l.initial.arena 8 (fresh_workers l.workers)
