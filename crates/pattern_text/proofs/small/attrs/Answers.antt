use Rattle.std.proofs.Common.{◌∙◌, sym}
use Rattle.sexp_read.specs.Forest.{tree_at}
use Rattle.pattern_text.specs.Small.{small_attr_in}
use Rattle.pattern_text.proofs.EachLemmas.{each-pushed}
use Rattle.pattern_text.proofs.small.attrs.Goals as goal

pub loop-item-preserved : goal.loop-item-preserved
loop-item-preserved c =
    each-pushed small_attr_in (tree_at c.args.bytes.now c.args.forest.now.items) c.args.items.now c.loop-item.item-index
    c.loop-item.attrs.items c.push.new.self.items c.in-Some.attr c.loop-item-test.true c.loop-item.invariant
    (sym c.small_attr_in.ensures ∙ c.in-Some.is) c.in_ok-push.ensures.items
