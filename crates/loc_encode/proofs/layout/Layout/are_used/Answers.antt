use Rattle.std.proofs.Common.{◌≡◌, true, subst, arith}
use Rattle.bv_terms.proofs.GraftLemmas.{Extends-further, Extends-longer}
use Rattle.loc_encode.specs.Tests.{IsTest}
use Rattle.loc_encode.specs.Layout.{size, all_below}
use Rattle.loc_encode.specs.Shape.{is_used}
use Rattle.loc_encode.specs.Claimed.{claim_in}
use Rattle.loc_encode.proofs.TestLemmas.{IsTest-truth}
use Rattle.loc_encode.proofs.StepLemmas.{building-first, building-all}
use Rattle.loc_encode.proofs.layout.Layout.are_used.Goals as goal

pub returns-in_err-all-clause-extends : goal.returns-in_err-all-clause-extends
returns-in_err-all-clause-extends c = c.truth.ensures.extends

pub loop-node-init : goal.loop-node-init
loop-node-init c =
    building-first _ _ _ _ _ c.truth.ensures.extends
    (IsTest-truth (claim_in c.args.self.now) _ _ _ true c.truth.ensures.extends c.in_ok-all.ensures.made)

pub is_used-requires : goal.is_used-requires
is_used-requires c = omega (arith, c.size-size.ensures.size)

pub returns-in_err-used-clause-extends : goal.returns-in_err-used-clause-extends
returns-in_err-used-clause-extends c = Extends-further _ _ _ c.loop-node.invariant.extends c.is_used.ensures.extends

pub and-requires-clause-left : goal.and-requires-clause-left
and-requires-clause-left c = omega (
  arith,
  Extends-longer _ _ c.is_used.ensures.extends,
  c.loop-node.invariant.test.there,
)

pub and-requires-clause-right : goal.and-requires-clause-right
and-requires-clause-right c = c.in_ok-used.ensures.test.there

pub returns-in_err-all-2-clause-extends : goal.returns-in_err-all-2-clause-extends
returns-in_err-all-2-clause-extends c =
    Extends-further _ _ _ (Extends-further _ _ _ c.loop-node.invariant.extends c.is_used.ensures.extends)
    c.and.ensures.extends

pub loop-node-preserved : goal.loop-node-preserved
loop-node-preserved c =
    building-all (claim_in c.args.self.now) _ _ _ _ _ _ _
    (λ g node. is_used (claim_in c.args.self.now) g node) c.loop-node.node c.loop-node.invariant
    c.is_used.ensures.extends c.in_ok-used.ensures.test c.and.ensures.extends
    c.in_ok-all-2.ensures.made

pub returns-clause-extends : goal.returns-clause-extends
returns-clause-extends c = c.loop-node.invariant.extends

pub returns-clause-test : goal.returns-clause-test
returns-clause-test c =
    let last : c.loop-node.node ≡ size (claim_in c.args.self.now) = omega (arith, c.size-size.ensures.size) in
    subst (λ n. IsTest (claim_in c.args.self.now) c.loop-node.terms c.loop-node.all
    (λ g. all_below (λ node. is_used (claim_in c.args.self.now) g node) n)) last
    c.loop-node.invariant.test
