use Rattle.std.proofs.Common.{◌∙◌, sym}
use Rattle.sexp_read.specs.Forest.{tree_at}
use Rattle.isel_spec.specs.Spec.{file}
use Rattle.pattern_text.specs.Small.{small_node_in}
use Rattle.pattern_text.proofs.EachLemmas.{each-pushed}
use Rattle.pattern_text.proofs.small.nodes.Goals as goal

pub loop-item-preserved : goal.loop-item-preserved
loop-item-preserved c =
    each-pushed (small_node_in (file c.args.spec.now)) (tree_at c.args.bytes.now c.args.forest.now.items)
    c.args.items.now c.loop-item.item-index c.loop-item.nodes.items c.push.new.self.items c.in-Some.node
    c.loop-item-test.true c.loop-item.invariant (sym c.in_ok-found.ensures ∙ c.in-Some.is) c.in_ok-push.ensures.items
