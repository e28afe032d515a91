use Rattle.isel_spec.specs.Spec.{file}
use Rattle.plain_search.proofs.SourceLemmas.{nodes-more, nodes-end}
use Rattle.plain_search.proofs.sources.add_nodes.Goals as goal

pub loop-place-preserved : goal.loop-place-preserved
loop-place-preserved c = λ g.
    nodes-more (file c.args.spec.now) g c.args.nodes.now c.args.wanted c.loop-place.place c.index-nodes-place.result
    c.loop-place.found.items c.add_node.new.found.items _ c.loop-place-test.true c.index-nodes-place.is
    c.in_ok-add_node.ensures (c.loop-place.invariant g)

pub returns : goal.returns
returns c = λ g.
    nodes-end (file c.args.spec.now) g c.args.nodes.now c.args.wanted c.loop-place.place c.loop-place.found.items _
    c.loop-place-test.false (c.loop-place.invariant g)
