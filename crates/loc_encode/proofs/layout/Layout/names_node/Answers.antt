use Rattle.std.proofs.Common.{◌≡◌, false, subst, arith}
use Rattle.bv_terms.proofs.GraftLemmas.{Extends-further, Extends-longer}
use Rattle.pattern_core.specs.declared.pattern.Src.TheVariants.{Out}
use Rattle.loc_encode.specs.Tests.{IsTest}
use Rattle.loc_encode.specs.Layout.{any_below}
use Rattle.loc_encode.specs.Shape.{names_source}
use Rattle.loc_encode.specs.Claimed.{claim_in}
use Rattle.loc_encode.proofs.TestLemmas.{IsTest-truth}
use Rattle.loc_encode.proofs.StepLemmas.{building-first, building-any}
use Rattle.loc_encode.proofs.layout.Layout.names_node.Goals as goal

pub returns-in_err-any-clause-extends : goal.returns-in_err-any-clause-extends
returns-in_err-any-clause-extends c = c.truth.ensures.extends

pub loop-result-init : goal.loop-result-init
loop-result-init c =
    building-first _ _ _ _ _ c.truth.ensures.extends
    (IsTest-truth (claim_in c.args.self.now) _ _ _ false c.truth.ensures.extends c.in_ok-any.ensures.made)

pub returns-in_err-named-clause-extends : goal.returns-in_err-named-clause-extends
returns-in_err-named-clause-extends c = Extends-further _ _ _ c.loop-result.invariant.extends
    c.names_source.ensures.extends

pub or-requires-clause-left : goal.or-requires-clause-left
or-requires-clause-left c =
    omega (arith, Extends-longer _ _ c.names_source.ensures.extends, c.loop-result.invariant.test.there)

pub or-requires-clause-right : goal.or-requires-clause-right
or-requires-clause-right c = c.in_ok-named.ensures.test.there

pub returns-in_err-any-2-clause-extends : goal.returns-in_err-any-2-clause-extends
returns-in_err-any-2-clause-extends c =
    Extends-further _ _ _ (Extends-further _ _ _ c.loop-result.invariant.extends c.names_source.ensures.extends)
    c.or.ensures.extends

pub loop-result-preserved : goal.loop-result-preserved
loop-result-preserved c =
    building-any (claim_in c.args.self.now) _ _ _ _ _ _ _
    (λ g r. names_source (claim_in c.args.self.now) g c.args.row c.args.place (Out c.args.node r))
    c.loop-result.result c.loop-result.invariant
    c.names_source.ensures.extends c.in_ok-named.ensures.test c.or.ensures.extends
    c.in_ok-any-2.ensures.made

pub returns-clause-extends : goal.returns-clause-extends
returns-clause-extends c = c.loop-result.invariant.extends

pub returns-clause-test : goal.returns-clause-test
returns-clause-test c =
    let last : c.loop-result.result ≡ 3 = omega (arith) in
    subst (λ n. IsTest (claim_in c.args.self.now) c.loop-result.terms c.loop-result.any
    (λ g. any_below (λ r. names_source (claim_in c.args.self.now) g c.args.row c.args.place (Out c.args.node r)) n))
    last
    c.loop-result.invariant.test
