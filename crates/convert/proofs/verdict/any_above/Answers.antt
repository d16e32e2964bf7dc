-- The worker that is looked at decides, or the others do.
use Rattle.std.proofs.Common.{◌≡◌, ◌+◌, ◌-◌, arith}
use borrow.Author.Tests.{lt-ltb, le-ltb}
use Rattle.arena.specs.Lists.{numbers_from}
use Rattle.arena.proofs.ListLaws.{numbers_on}
use Rattle.convert.specs.Convert.{any_above}
use Rattle.convert.proofs.verdict.any_above.Goals as goal

pub loop-number-init : goal.loop-number-init
unfolding any_above
loop-number-init c = let all : c.worker_count-number-end.result - 0 ≡ c.worker_count-number-end.result = omega arith in rw (all, c.worker_count-number-end.ensures)

pub returns-then-stage : goal.returns-then-stage
returns-then-stage c =
    let loop = c.loop-number in
    let higher = rw c.stage.ensures at c.if-stage.true in
    rw (numbers_on loop.number (c.worker_count-number-end.result - loop.number) (omega (arith, c.loop-number-test.true)), lt-ltb _ _ higher) at loop.invariant

pub loop-number-preserved : goal.loop-number-preserved
loop-number-preserved c =
    let loop = c.loop-number in
    let low = rw c.stage.ensures at c.if-stage.false in
    let left : c.worker_count-number-end.result - (loop.number + 1) ≡ c.worker_count-number-end.result - loop.number - 1 = omega arith in
    rw left
    (rw (numbers_on loop.number (c.worker_count-number-end.result - loop.number) (omega (arith, c.loop-number-test.true)), le-ltb _ _ low) at loop.invariant)

pub returns : goal.returns
unfolding numbers_from
returns c =
    let loop = c.loop-number in
    let none : c.worker_count-number-end.result - loop.number ≡ 0 = omega (arith, c.loop-number-test.false) in
    rw none at loop.invariant
