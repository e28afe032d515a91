use Rattle.std.proofs.Common.{◌≡◌, ◌-◌, true, sym, subst, arith}
use Rattle.bv_terms.proofs.GraftLemmas.{Extends-further, Extends-longer}
use Rattle.loc_encode.specs.Tests.{IsTest}
use Rattle.loc_encode.specs.Layout.{size, all_below}
use Rattle.loc_encode.specs.Shape.{is_followed}
use Rattle.loc_encode.specs.Claimed.{claim_in}
use Rattle.loc_encode.proofs.TestLemmas.{IsTest-truth}
use Rattle.loc_encode.proofs.StepLemmas.{building-first, building-all}
use Rattle.loc_encode.proofs.layout.Layout.are_followed.Goals as goal

pub returns-in_err-all-clause-extends : goal.returns-in_err-all-clause-extends
returns-in_err-all-clause-extends c = c.truth.ensures.extends

pub returns-then-size-eq0-clause-extends : goal.returns-then-size-eq0-clause-extends
returns-then-size-eq0-clause-extends c = c.truth.ensures.extends

pub returns-then-size-eq0-clause-test : goal.returns-then-size-eq0-clause-test
returns-then-size-eq0-clause-test c =
    let none : size (claim_in c.args.self.now) - 1 ≡ 0 = omega (arith, c.size-size.ensures.size) in
    subst (λ n. IsTest (claim_in c.args.self.now) c.truth.new.terms c.in_ok-all.all
    (λ g. all_below (λ node. is_followed (claim_in c.args.self.now) g node) n)) (sym none)
    (IsTest-truth (claim_in c.args.self.now) _ _ _ true c.truth.ensures.extends c.in_ok-all.ensures.made)

pub loop-node-init : goal.loop-node-init
loop-node-init c =
    building-first _ _ _ _ _ c.truth.ensures.extends
    (IsTest-truth (claim_in c.args.self.now) _ _ _ true c.truth.ensures.extends c.in_ok-all.ensures.made)

pub is_followed-requires : goal.is_followed-requires
is_followed-requires c = omega (arith, c.size-size.ensures.size)

pub returns-in_err-followed-clause-extends : goal.returns-in_err-followed-clause-extends
returns-in_err-followed-clause-extends c = Extends-further _ _ _ c.loop-node.invariant.extends
    c.is_followed.ensures.extends

pub and-requires-clause-left : goal.and-requires-clause-left
and-requires-clause-left c = omega (
  arith,
  Extends-longer _ _ c.is_followed.ensures.extends,
  c.loop-node.invariant.test.there,
)

pub and-requires-clause-right : goal.and-requires-clause-right
and-requires-clause-right c = c.in_ok-followed.ensures.test.there

pub returns-in_err-all-2-clause-extends : goal.returns-in_err-all-2-clause-extends
returns-in_err-all-2-clause-extends c =
    Extends-further _ _ _ (Extends-further _ _ _ c.loop-node.invariant.extends c.is_followed.ensures.extends)
    c.and.ensures.extends

pub loop-node-preserved : goal.loop-node-preserved
loop-node-preserved c =
    building-all (claim_in c.args.self.now) _ _ _ _ _ _ _
    (λ g node. is_followed (claim_in c.args.self.now) g node) c.loop-node.node c.loop-node.invariant
    c.is_followed.ensures.extends c.in_ok-followed.ensures.test c.and.ensures.extends
    c.in_ok-all-2.ensures.made

pub returns-clause-extends : goal.returns-clause-extends
returns-clause-extends c = c.loop-node.invariant.extends

pub returns-clause-test : goal.returns-clause-test
returns-clause-test c =
    let last : c.loop-node.node ≡ size (claim_in c.args.self.now) - 1 = omega (arith, c.size-size.ensures.size) in
    subst (λ n. IsTest (claim_in c.args.self.now) c.loop-node.terms c.loop-node.all
    (λ g. all_below (λ node. is_followed (claim_in c.args.self.now) g node) n)) last
    c.loop-node.invariant.test
