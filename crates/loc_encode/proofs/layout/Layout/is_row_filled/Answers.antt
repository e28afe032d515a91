use Rattle.std.proofs.Common.{◌≡◌, true, subst, arith}
use Rattle.bv_terms.proofs.GraftLemmas.{Extends-further, Extends-longer}
use Rattle.loc_encode.specs.Tests.{IsTest}
use Rattle.loc_encode.specs.Layout.{all_below}
use Rattle.loc_encode.specs.Shape.{is_filled}
use Rattle.loc_encode.specs.Claimed.{claim_in}
use Rattle.loc_encode.proofs.TestLemmas.{IsTest-truth}
use Rattle.loc_encode.proofs.StepLemmas.{building-first, building-all}
use Rattle.loc_encode.proofs.layout.Layout.is_row_filled.Goals as goal

pub returns-in_err-all-clause-extends : goal.returns-in_err-all-clause-extends
returns-in_err-all-clause-extends c = c.truth.ensures.extends

pub loop-place-init : goal.loop-place-init
loop-place-init c =
    building-first _ _ _ _ _ c.truth.ensures.extends
    (IsTest-truth (claim_in c.args.self.now) _ _ _ true c.truth.ensures.extends c.in_ok-all.ensures.made)

pub returns-in_err-filled-clause-extends : goal.returns-in_err-filled-clause-extends
returns-in_err-filled-clause-extends c = Extends-further _ _ _ c.loop-place.invariant.extends
    c.is_filled.ensures.extends

pub and-requires-clause-left : goal.and-requires-clause-left
and-requires-clause-left c = omega (
  arith,
  Extends-longer _ _ c.is_filled.ensures.extends,
  c.loop-place.invariant.test.there,
)

pub and-requires-clause-right : goal.and-requires-clause-right
and-requires-clause-right c = c.in_ok-filled.ensures.test.there

pub returns-in_err-all-2-clause-extends : goal.returns-in_err-all-2-clause-extends
returns-in_err-all-2-clause-extends c =
    Extends-further _ _ _ (Extends-further _ _ _ c.loop-place.invariant.extends c.is_filled.ensures.extends)
    c.and.ensures.extends

pub loop-place-preserved : goal.loop-place-preserved
loop-place-preserved c =
    building-all (claim_in c.args.self.now) _ _ _ _ _ _ _
    (λ g place. is_filled (claim_in c.args.self.now) g c.args.row place) c.loop-place.place c.loop-place.invariant
    c.is_filled.ensures.extends c.in_ok-filled.ensures.test c.and.ensures.extends
    c.in_ok-all-2.ensures.made

pub returns-clause-extends : goal.returns-clause-extends
returns-clause-extends c = c.loop-place.invariant.extends

pub returns-clause-test : goal.returns-clause-test
returns-clause-test c =
    let last : c.loop-place.place ≡ 4 = omega (arith) in
    subst (λ n. IsTest (claim_in c.args.self.now) c.loop-place.terms c.loop-place.all
    (λ g. all_below (λ place. is_filled (claim_in c.args.self.now) g c.args.row place) n)) last
    c.loop-place.invariant.test
