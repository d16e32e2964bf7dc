use Prim.Native.Nat.{◌<◌}
use native.Mathlib.Omega.{arith}
use lib.ListN.{length}
use Rattle.lazy.proofs.Rows.{one_more}
use Rattle.lazy.proofs.Walk.{begin, step, finish}
use Rattle.lazy.proofs.free.reach_from.Goals as goal

pub loop-node-init : goal.loop-node-init
loop-node-init c = (begin c.requires.so_far.0, c.requires.so_far.1)

pub returns-then-reached-node : goal.returns-then-reached-node
returns-then-reached-node c =
    let loop = c.loop-node in
    record {
      walked = finish loop.invariant.0 (λ k. c.if-reached-node.true);
      counted = loop.invariant.1;
    }

pub overflow_add-so_far : goal.overflow_add-so_far
overflow_add-so_far c =
    let loop = c.loop-node in
    let grows = one_more _ loop.reached loop.node (omega (arith, loop.invariant.0.long)) loop.invariant.0.room c.if-reached-node.false in
    omega (arith, loop.invariant.1, grows.1, c.requires.places)

pub loop-node-smaller : goal.loop-node-smaller
loop-node-smaller c =
    let loop = c.loop-node in
    let grows = one_more _ loop.reached loop.node (omega (arith, loop.invariant.0.long)) loop.invariant.0.room c.if-reached-node.false in
    omega (arith, grows.0, grows.1)

pub loop-node-preserved : goal.loop-node-preserved
loop-node-preserved c =
    let loop = c.loop-node in
    let inside : loop.node < length c.args.reached.now = omega (arith, loop.invariant.0.long) in
    let grows = one_more _ loop.reached loop.node inside loop.invariant.0.room c.if-reached-node.false in (
      rw c.next_of-node.ensures (step loop.invariant.0 inside),
      omega (arith, loop.invariant.1, grows.0),
    )

pub returns : goal.returns
returns c =
    let loop = c.loop-node in
    record {
      walked = finish loop.invariant.0 (λ k. absurd (omega (arith, loop.invariant.0.long)));
      counted = loop.invariant.1;
    }
