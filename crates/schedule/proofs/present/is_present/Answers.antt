use Prim.Native.Nat.{◌<◌}
use mathlib.Core.Path.{◌≡◌, sym, subst, ◌∙◌}
use native.Mathlib.Omega.{arith}
use borrow.Author.Rules.{rules}
use Rattle.worker.specs.Node.{head}
use Rattle.worker.specs.declared.Node.{Node}
use Rattle.arena.specs.Sets.{node_in}
use Rattle.schedule.proofs.Presence.{Ahead, begins, at_tail, rises, onward, found}
use Rattle.schedule.proofs.present.is_present.Goals as goal

pub loop-node-init : goal.loop-node-init
loop-node-init c =
    let arena = c.args.arena.now in
    let nodes = c.nodes-nodes.ensures in
    let first : c.get-node.result ≡ node_in arena head = c.get-node.ensures ∙ rw nodes.words in
    subst (λ (n : Node). Ahead arena c.args.key n.key n.next) (sym first) (begins arena c.args.key c.requires.whole)

pub returns-then-key-node : goal.returns-then-key-node
returns-then-key-node c =
    let nodes = c.nodes-nodes.ensures in
    let come : c.get-node-in-loop-node.result ≡ node_in c.args.arena.now c.loop-node.node.next
    = c.get-node-in-loop-node.ensures ∙ rw nodes.words in
    let args = c.args in
    rw come
    (found args.arena.now args.key c.loop-node.invariant c.loop-node-test.true
    (rw come at c.if-key-node.true))

pub loop-node-smaller : goal.loop-node-smaller
loop-node-smaller c =
    let nodes = c.nodes-nodes.ensures in
    let come : c.get-node-in-loop-node.result ≡ node_in c.args.arena.now c.loop-node.node.next
    = c.get-node-in-loop-node.ensures ∙ rw nodes.words in
    let rose : c.loop-node.node.key < c.get-node-in-loop-node.result.key = rw come (rises c.args.arena.now c.args.key c.loop-node.invariant c.loop-node-test.true) in
    let word : c.get-node-in-loop-node.result.key < 65536 = search rules in omega (arith, rose)

pub loop-node-preserved : goal.loop-node-preserved
loop-node-preserved c =
    let nodes = c.nodes-nodes.ensures in
    let come : c.get-node-in-loop-node.result ≡ node_in c.args.arena.now c.loop-node.node.next
    = c.get-node-in-loop-node.ensures ∙ rw nodes.words in
    let args = c.args in
    subst (λ (n : Node). Ahead args.arena.now args.key n.key n.next) (sym come)
    (onward args.arena.now args.key c.loop-node.invariant c.loop-node-test.true
    (omega (arith, rw come at c.if-key-node.false)))

pub returns : goal.returns
returns c =
    let args = c.args in
    at_tail args.arena.now args.key c.loop-node.invariant c.loop-node-test.false
