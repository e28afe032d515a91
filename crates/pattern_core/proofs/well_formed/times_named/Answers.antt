use Rattle.std.proofs.Common.{ap, ◌∙◌}
use Rattle.pattern_core.specs.declared.pattern.Node.{Node}
use Rattle.pattern_core.specs.Pattern.{same_source}
use Rattle.pattern_core.proofs.SourceLemmas.{count_node, count_all}
use Rattle.pattern_core.proofs.well_formed.times_named.Goals as goal

pub loop-node-preserved : goal.loop-node-preserved
loop-node-preserved c =
    count_node (same_source c.args.source) c.as_slice-node-items.result.now c.loop-node.node-index c.node-item.result
    c.as_slice.result.now c.loop-node.times c.times_among-times.result c.loop-node-test.true
    (c.as_slice.ensures ∙ ap (λ (n : Node). n.args) c.node-item.is) c.loop-node.invariant c.times_among-times.ensures

pub returns : goal.returns
returns c =
    count_all c.args.pattern.now c.args.source c.as_slice-node-items.result.now c.as_slice-2.result.now
    c.loop-node.node-index c.loop-node.times c.times_among.result c.as_slice-node-items.ensures c.as_slice-2.ensures
    c.loop-node-test.false c.loop-node.invariant c.times_among.ensures
