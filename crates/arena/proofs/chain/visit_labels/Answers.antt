-- A turn of the loop is a step of the definition's walk.
use Prim.Native.Nat.{◌-◌}
use mathlib.Core.Path.{refl, sym, ◌∙◌}
use mathlib.Core.Bool.{true, false}
use native.Mathlib.Omega.{arith}
use borrow.Author.Tests.{eq-eqb, ne_eqb}
use Rattle.arena.specs.Snapshot.{chain_broken}
use Rattle.arena.proofs.Walks.{walk_end, walk_out, walk_falls, walk_on, broken, whole}
use Rattle.arena.proofs.chain.visit_labels.Goals as goal

pub loop-at-init : goal.loop-at-init
loop-at-init g c = (omega arith, 65536, omega arith, refl)

pub returns-in_default-clause-answer : goal.returns-in_default-clause-answer
unfolding chain_broken
returns-in_default-clause-answer g c =
    let loop = c.loop-at in
    let first = c.get-head in
    rw (broken (g.R.NodeRecords.nodes c.args.records) (g.R.NodeRecords.count c.args.records) g.V.Visitor.visited c.args.visitor.now first.result first.ensures
    (loop.invariant.3
    ∙ walk_falls (g.R.NodeRecords.nodes c.args.records) (g.R.NodeRecords.count c.args.records) g.V.Visitor.visited loop.visitor loop.last loop.at c.loop-at-test.true
    _ (sym c.find.ensures ∙ c.in-Some.is) loop.invariant.1 c.if-last-node.false))

pub returns-in_default-2-clause-answer : goal.returns-in_default-2-clause-answer
unfolding chain_broken
returns-in_default-2-clause-answer g c =
    let loop = c.loop-at in
    let first = c.get-head in
    rw (broken (g.R.NodeRecords.nodes c.args.records) (g.R.NodeRecords.count c.args.records) g.V.Visitor.visited c.args.visitor.now first.result first.ensures
    (loop.invariant.3
    ∙ walk_out (g.R.NodeRecords.nodes c.args.records) (g.R.NodeRecords.count c.args.records) g.V.Visitor.visited loop.visitor loop.last loop.at c.loop-at-test.true
    loop.invariant.1 (sym c.find.ensures ∙ c.in_default.is)))

pub loop-at-preserved-then-node-eq0 : goal.loop-at-preserved-then-node-eq0
loop-at-preserved-then-node-eq0 g c =
    let loop = c.loop-at in (
      omega arith,
      loop.invariant.1 - 1,
      omega (arith, loop.invariant.2, c.if-last-node.true),
      rw c.visit.ensures (loop.invariant.3
          ∙ walk_on (g.R.NodeRecords.nodes c.args.records) (g.R.NodeRecords.count c.args.records) g.V.Visitor.visited loop.visitor loop.last loop.at c.loop-at-test.true
          _ (sym c.find.ensures ∙ c.in-Some.is) loop.invariant.1 (omega (arith, loop.invariant.2)) c.if-last-node.true true (eq-eqb _ _ c.if-node-eq0.true)),
    )

pub loop-at-preserved : goal.loop-at-preserved
loop-at-preserved g c =
    let loop = c.loop-at in (
      omega arith,
      loop.invariant.1 - 1,
      omega (arith, loop.invariant.2, c.if-last-node.true),
      loop.invariant.3
          ∙ walk_on (g.R.NodeRecords.nodes c.args.records) (g.R.NodeRecords.count c.args.records) g.V.Visitor.visited loop.visitor loop.last loop.at c.loop-at-test.true
          _ (sym c.find.ensures ∙ c.in-Some.is) loop.invariant.1 (omega (arith, loop.invariant.2)) c.if-last-node.true false (ne_eqb _ _ c.if-node-eq0.false),
    )

pub returns : goal.returns
unfolding chain_broken
returns g c =
    let loop = c.loop-at in
    let first = c.get-head in
    let all = whole (g.R.NodeRecords.nodes c.args.records) (g.R.NodeRecords.count c.args.records) g.V.Visitor.visited c.args.visitor.now first.result first.ensures loop.visitor
    (loop.invariant.3
    ∙ walk_end (g.R.NodeRecords.nodes c.args.records) (g.R.NodeRecords.count c.args.records) g.V.Visitor.visited loop.visitor loop.last loop.at loop.invariant.1
    (omega (arith, loop.invariant.2)) c.loop-at-test.false) in
    record { answer = rw all.0; visitor = all.1 }
