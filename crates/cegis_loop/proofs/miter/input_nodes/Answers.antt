use Rattle.std.proofs.Common.{refl}
use Rattle.bv_terms.specs.declared.value.Sort.TheVariants as sort
use Rattle.cegis_loop.proofs.MiterTables.{AreInputNodes-more}
use Rattle.cegis_loop.proofs.miter.input_nodes.Goals as goal

pub loop-place-preserved : goal.loop-place-preserved
loop-place-preserved c =
    AreInputNodes-more c.args.terms.now c.loop-place.terms c.node.new.terms c.args.sorts.now c.loop-place.place
    c.loop-place.place c.loop-place.nodes.items c.push.new.self.items c.in_ok-at.at sort.Bool c.loop-place.invariant
    c.loop-place-test.true refl c.in_ok-at.ensures.table c.in_ok-at.ensures.extends c.in_ok-at.ensures.within
    c.in_ok-at.ensures.term c.in_ok-push.ensures.items
