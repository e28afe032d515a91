use Rattle.pattern_core.specs.Pattern.{IsUsed}
use borrow.Author.Count.{below_more}
use Rattle.pattern_core.proofs.well_formed.are_used.Goals as goal

pub loop-node-preserved : goal.loop-node-preserved
loop-node-preserved c =
    below_more (λ k. IsUsed c.args.pattern.now k) c.loop-node.node c.loop-node.invariant
    (c.is_used.ensures.0 c.if-not-is_used.false)
