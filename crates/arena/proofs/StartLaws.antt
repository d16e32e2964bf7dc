-- What a start leaves.
use Prim.Native.Nat.{ℕ}
use mathlib.Core.Path.{◌≡◌, refl}
use mathlib.Core.List.{List}
use Rattle.worker.specs.Worker.{started_worker}
use Rattle.worker.proofs.RefusalLaws.{judged_keeps}
use Rattle.words.specs.Layout.{word}
use Rattle.words.specs.Records.{with_worker, Outside}
use Rattle.words.proofs.RecordLaws.{others_stay}
use Rattle.arena.specs.Start.{start_refusals, start_arena}

-- a start writes the worker's record and nothing else
pub start_writes : (arena : List ℕ) (worker operation key length at : ℕ) → Outside worker at →
    word (start_arena arena worker operation key length) at ≡ word arena at
unfolding start_arena
start_writes arena worker operation key length at outside =
    judged_keeps (λ (words : List ℕ). word words at ≡ word arena at) (start_refusals arena worker operation key length)
    (λ number. arena) (with_worker arena worker (started_worker operation key length)) (λ number. refl)
    (others_stay arena worker (started_worker operation key length) at outside)
