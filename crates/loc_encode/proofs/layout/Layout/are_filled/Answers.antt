use Rattle.std.proofs.Common.{◌≡◌, ◌+◌, true, subst, arith}
use Rattle.bv_terms.proofs.GraftLemmas.{Extends-further, Extends-longer}
use Rattle.loc_encode.specs.Tests.{IsTest}
use Rattle.loc_encode.specs.Layout.{size, all_below}
use Rattle.loc_encode.specs.Shape.{is_row_filled}
use Rattle.loc_encode.specs.Claimed.{claim_in}
use Rattle.loc_encode.proofs.TestLemmas.{IsTest-truth}
use Rattle.loc_encode.proofs.StepLemmas.{building-first, building-all}
use Rattle.loc_encode.proofs.layout.Layout.are_filled.Goals as goal

pub returns-in_err-all-clause-extends : goal.returns-in_err-all-clause-extends
returns-in_err-all-clause-extends c = c.truth.ensures.extends

pub loop-row-init : goal.loop-row-init
loop-row-init c =
    building-first _ _ _ _ _ c.truth.ensures.extends
    (IsTest-truth (claim_in c.args.self.now) _ _ _ true c.truth.ensures.extends c.in_ok-all.ensures.made)

pub is_row_filled-requires : goal.is_row_filled-requires
is_row_filled-requires c = omega (arith, c.size-size.ensures.size)

pub returns-in_err-filled-clause-extends : goal.returns-in_err-filled-clause-extends
returns-in_err-filled-clause-extends c = Extends-further _ _ _ c.loop-row.invariant.extends
    c.is_row_filled.ensures.extends

pub and-requires-clause-left : goal.and-requires-clause-left
and-requires-clause-left c = omega (
  arith,
  Extends-longer _ _ c.is_row_filled.ensures.extends,
  c.loop-row.invariant.test.there,
)

pub and-requires-clause-right : goal.and-requires-clause-right
and-requires-clause-right c = c.in_ok-filled.ensures.test.there

pub returns-in_err-all-2-clause-extends : goal.returns-in_err-all-2-clause-extends
returns-in_err-all-2-clause-extends c =
    Extends-further _ _ _ (Extends-further _ _ _ c.loop-row.invariant.extends c.is_row_filled.ensures.extends)
    c.and.ensures.extends

pub loop-row-preserved : goal.loop-row-preserved
loop-row-preserved c =
    building-all (claim_in c.args.self.now) _ _ _ _ _ _ _
    (λ g row. is_row_filled (claim_in c.args.self.now) g row) c.loop-row.row c.loop-row.invariant
    c.is_row_filled.ensures.extends c.in_ok-filled.ensures.test c.and.ensures.extends
    c.in_ok-all-2.ensures.made

pub returns-clause-extends : goal.returns-clause-extends
returns-clause-extends c = c.loop-row.invariant.extends

pub returns-clause-test : goal.returns-clause-test
returns-clause-test c =
    let last : c.loop-row.row ≡ size (claim_in c.args.self.now) + 1 = omega (arith, c.size-size.ensures.size) in
    subst (λ n. IsTest (claim_in c.args.self.now) c.loop-row.terms c.loop-row.all
    (λ g. all_below (λ row. is_row_filled (claim_in c.args.self.now) g row) n)) last
    c.loop-row.invariant.test
