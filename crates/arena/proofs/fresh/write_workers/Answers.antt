use Prim.Native.Nat.{◌+◌, ◌-◌}
use mathlib.Core.Path.{◌≡◌, sym, ◌∙◌}
use mathlib.Core.List.{flatten}
use native.Mathlib.Omega.{arith}
use Rattle.worker.specs.Worker.{idle_worker}
use Rattle.words.specs.Layout.{worker_from}
use Rattle.words.specs.Records.{worker_words}
use Rattle.words.proofs.Runs.{copies_on}
use Rattle.arena.specs.Init.{fresh_workers}
use Rattle.arena.proofs.fresh.write_workers.Goals as goal

pub loop-number-init : goal.loop-number-init
unfolding fresh_workers
loop-number-init c = let all : c.args.workers - 0 ≡ c.args.workers = omega arith in rw all

pub loop-number-preserved : goal.loop-number-preserved
loop-number-preserved c =
    let loop = c.loop-number in
    let workers = c.args.workers in
    let idle = rw c.idle.ensures at c.worker_words-idle.ensures in
    let next : worker_from (loop.number + 1) ≡ worker_from loop.number + 8 = omega arith in
    let left : workers - (loop.number + 1) ≡ workers - loop.number - 1 = omega arith in
    rw (c.write_record.ensures, c.worker_from.ensures, idle, next, left)
    (sym (copies_on (worker_words idle_worker) loop.arena (worker_from loop.number) (workers - loop.number) (omega arith)) ∙ loop.invariant)

pub returns : goal.returns
unfolding flatten
returns c =
    let none : c.args.workers - c.loop-number.number ≡ 0 = omega arith in
    rw none at c.loop-number.invariant
