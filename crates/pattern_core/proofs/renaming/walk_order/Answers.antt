use Rattle.std.proofs.Common.{[], sym, ap, ◌∙◌, subst, length, get_or, All, List}
use Rattle.std.proofs.lemmas.List.Elements.{All-get_or}
use Rattle.pattern_core.specs.declared.pattern.Src.{Src}
use Rattle.pattern_core.specs.declared.pattern.Src.TheVariants.{Input}
use Rattle.pattern_core.specs.declared.pattern.Node.{Node}
use Rattle.pattern_core.specs.Walk.{walk, IsBefore, AreForward}
use Rattle.pattern_core.proofs.OrderOfWalk.{HasLeft-more}
use Rattle.pattern_core.proofs.renaming.walk_order.Goals as goal

pub visit-requires-clause-forward : goal.visit-requires-clause-forward
visit-requires-clause-forward c = subst AreForward (sym c.as_slice.ensures) c.requires.nodes

pub visit-requires-clause-there : goal.visit-requires-clause-there
visit-requires-clause-there c =
    let p = c.args.pattern.now in
    let xs = c.as_slice-source-items.result.now in
    let before : All (IsBefore (length p.nodes)) xs =
    subst (All (IsBefore (length p.nodes))) (sym c.as_slice-source-items.ensures) c.requires.results in
    subst (λ (ns : List Node). IsBefore (length ns) (get_or xs c.loop-source.source-index (Input 0)))
    (sym c.as_slice.ensures)
    (All-get_or (IsBefore (length p.nodes)) xs c.loop-source.source-index (Input 0) c.loop-source-test.true before)

pub loop-source-preserved : goal.loop-source-preserved
loop-source-preserved c =
    let p = c.args.pattern.now in
    let left = c.loop-source.order.items in
    let xs = c.as_slice-source-items.result.now in
    let at : Src = get_or xs c.loop-source.source-index (Input 0) in
    let before : All (IsBefore (length p.nodes)) xs =
    subst (All (IsBefore (length p.nodes))) (sym c.as_slice-source-items.ensures) c.requires.results in
    HasLeft-more p.nodes (length p.nodes) [] left c.visit.new.left.items xs c.loop-source.source-index
    (Input 0) c.loop-source.invariant c.loop-source-test.true before
    (λ deep b. c.in_ok-visit.ensures deep b ∙ ap (λ (ns : List Node). walk deep ns left at) c.as_slice.ensures)
