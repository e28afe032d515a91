use Rattle.std.proofs.Common.{◌+◌, ◌&&◌, false, arith}
use Rattle.bv_terms.proofs.GraftLemmas.{Extends-itself, Extends-further}
use Rattle.loc_encode.specs.Layout.{any_below}
use Rattle.loc_encode.specs.Shape.{names_node, names_from}
use Rattle.loc_encode.specs.Claimed.{claim_in}
use Rattle.loc_encode.proofs.LayoutFacts.{claim_in-few}
use Rattle.loc_encode.proofs.TestLemmas.{IsTest-truth, IsTest-kept, IsTest-and}
use Rattle.loc_encode.proofs.StepLemmas.{building-first, building-any, building-kept}
use Rattle.loc_encode.proofs.layout.Layout.goes_on.Goals as goal

pub loop-place-init : goal.loop-place-init
loop-place-init c =
    let none = IsTest-truth (claim_in c.args.self.now) _ _ _ false c.truth.ensures.extends c.in_ok-any.ensures.made in
    record { any = building-first _ _ _ _ _ c.truth.ensures.extends none; named = none }

pub overflow_add-node : goal.overflow_add-node
overflow_add-node c = omega (arith, c.requires.node, c.requires.row, claim_in-few c.args.self.now)

pub loop-place-preserved : goal.loop-place-preserved
loop-place-preserved c =
    let so = c.loop-place.invariant in
    let both = IsTest-and (claim_in c.args.self.now) _ _ _ _ _
    (λ g. any_below (names_node (claim_in c.args.self.now) g c.args.node c.args.row) c.loop-place.place)
    (λ g. names_from (claim_in c.args.self.now) g (c.args.node + 1) c.args.row c.loop-place.place)
    (IsTest-kept (claim_in c.args.self.now) _ _ _ _ c.names_from.ensures.extends so.named)
    c.in_ok-later.ensures.test c.and.ensures.extends c.in_ok-both.ensures.made in
    let first = Extends-further _ _ _ c.names_from.ensures.extends c.and.ensures.extends in
    let any = building-any (claim_in c.args.self.now) _ _ _ _ _ _ _
    (λ g place. any_below (names_node (claim_in c.args.self.now) g c.args.node c.args.row) place
    && names_from (claim_in c.args.self.now) g (c.args.node + 1) c.args.row place) c.loop-place.place so.any first both
    c.or.ensures.extends c.in_ok-any-2.ensures.made in
    let last = Extends-further _ _ _ c.names_node.ensures.extends c.or-in-loop-place.ensures.extends in
    let before = Extends-further _ _ _ (Extends-further _ _ _ first c.or.ensures.extends) c.names_node.ensures.extends
    in
    let named = building-any (claim_in c.args.self.now) c.loop-place.terms _ _ _ _ _ _
    (λ g place. names_node (claim_in c.args.self.now) g c.args.node c.args.row place) c.loop-place.place
    (building-first _ _ _ _ _ (Extends-itself c.loop-place.terms) so.named) before c.in_ok-here.ensures.test
    c.or-in-loop-place.ensures.extends c.in_ok-named.ensures.made in
    record { any = building-kept (claim_in c.args.self.now) _ _ _ _ _ any last; named = named.test }
