use Rattle.std.proofs.Common.{◌≡◌, ◌+◌, ◌-◌, false, subst, arith}
use Rattle.bv_terms.proofs.GraftLemmas.{Extends-further, Extends-longer}
use Rattle.loc_encode.specs.Tests.{IsTest}
use Rattle.loc_encode.specs.Layout.{size, any_below}
use Rattle.loc_encode.specs.Shape.{row_names}
use Rattle.loc_encode.specs.Claimed.{claim_in}
use Rattle.loc_encode.proofs.TestLemmas.{IsTest-truth}
use Rattle.loc_encode.proofs.StepLemmas.{building-first, building-any}
use Rattle.loc_encode.proofs.layout.Layout.is_used.Goals as goal

pub returns-in_err-any-clause-extends : goal.returns-in_err-any-clause-extends
returns-in_err-any-clause-extends c = c.truth.ensures.extends

pub loop-after-init : goal.loop-after-init
loop-after-init c =
    building-first _ _ _ _ _ c.truth.ensures.extends
    (IsTest-truth (claim_in c.args.self.now) _ _ _ false c.truth.ensures.extends c.in_ok-any.ensures.made)

pub row_names-requires-clause-row : goal.row_names-requires-clause-row
row_names-requires-clause-row c = omega (arith, c.size-size.ensures.size, c.requires)

pub returns-in_err-named-clause-extends : goal.returns-in_err-named-clause-extends
returns-in_err-named-clause-extends c = Extends-further _ _ _ c.loop-after.invariant.extends c.row_names.ensures.extends

pub or-requires-clause-left : goal.or-requires-clause-left
or-requires-clause-left c = omega (
  arith,
  Extends-longer _ _ c.row_names.ensures.extends,
  c.loop-after.invariant.test.there,
)

pub or-requires-clause-right : goal.or-requires-clause-right
or-requires-clause-right c = c.in_ok-named.ensures.test.there

pub returns-in_err-any-2-clause-extends : goal.returns-in_err-any-2-clause-extends
returns-in_err-any-2-clause-extends c =
    Extends-further _ _ _ (Extends-further _ _ _ c.loop-after.invariant.extends c.row_names.ensures.extends)
    c.or.ensures.extends

pub loop-after-preserved : goal.loop-after-preserved
loop-after-preserved c =
    building-any (claim_in c.args.self.now) _ _ _ _ _ _ _
    (λ g k. row_names (claim_in c.args.self.now) g c.args.node (c.args.node + 1 + k)) c.loop-after.after
    c.loop-after.invariant
    c.row_names.ensures.extends c.in_ok-named.ensures.test c.or.ensures.extends
    c.in_ok-any-2.ensures.made

pub returns-clause-extends : goal.returns-clause-extends
returns-clause-extends c = c.loop-after.invariant.extends

pub returns-clause-test : goal.returns-clause-test
returns-clause-test c =
    let last : c.loop-after.after ≡ size (claim_in c.args.self.now) - c.args.node = omega
    (arith, c.size-size.ensures.size, c.requires) in
    subst (λ n. IsTest (claim_in c.args.self.now) c.loop-after.terms c.loop-after.any
    (λ g. any_below (λ k. row_names (claim_in c.args.self.now) g c.args.node (c.args.node + 1 + k)) n)) last
    c.loop-after.invariant.test
