use mathlib.Core.Path.{sym, ◌∙◌}
use Rattle.lazy.proofs.Lowest.{lowest_here, lowest_after, lowest_past, lowest_end}
use Rattle.lazy.proofs.free.lowest_unreached.Goals as goal

pub loop-node-init : goal.loop-node-init
loop-node-init c = lowest_past _ _ _ c.skip_reached-node.ensures.held

pub returns-then-not-reached-node : goal.returns-then-not-reached-node
returns-then-not-reached-node c = sym (c.loop-node.invariant ∙ lowest_here _ c.loop-node-test.true c.if-not-reached-node.true)

pub loop-node-preserved : goal.loop-node-preserved
loop-node-preserved c = c.loop-node.invariant ∙ lowest_after _ _ _ c.if-not-reached-node.false

pub returns : goal.returns
returns c = sym (c.loop-node.invariant ∙ lowest_end _ _ _ c.loop-node-test.false)
