use Rattle.std.proofs.Common.{◌∙◌, sym}
use Rattle.sexp_read.specs.Forest.{tree_at}
use Rattle.pattern_text.specs.Small.{small_source_in}
use Rattle.pattern_text.proofs.EachLemmas.{each-pushed}
use Rattle.pattern_text.proofs.small.sources.Goals as goal

pub loop-item-preserved : goal.loop-item-preserved
loop-item-preserved c =
    each-pushed small_source_in (tree_at c.args.bytes.now c.args.forest.now.items) c.args.items.now
    c.loop-item.item-index
    c.loop-item.sources.items c.push.new.self.items c.in-Some.source c.loop-item-test.true c.loop-item.invariant
    (sym c.small_source_in.ensures ∙ c.in-Some.is) c.in_ok-push.ensures.items
