use Rattle.std.proofs.Common.{arith}
use Rattle.std.proofs.lemmas.Result.{IfOk-weaker}
use Rattle.bv_terms.proofs.GraftLemmas.{Extends-further, Extends-longer}
use Rattle.loc_encode.specs.Claimed.{claim_in}
use Rattle.loc_encode.proofs.TestLemmas.{IsTest-kept, IsTest-or}
use Rattle.loc_encode.proofs.layout.Layout.is_followed.Goals as goal

pub row_names-requires-clause-row : goal.row_names-requires-clause-row
row_names-requires-clause-row c = omega (arith, c.requires)

pub row_names-requires-clause-node : goal.row_names-requires-clause-node
row_names-requires-clause-node c = omega (arith, c.requires)

pub returns-in_err-next-clause-extends : goal.returns-in_err-next-clause-extends
returns-in_err-next-clause-extends c = c.row_names.ensures.extends

pub returns-in_err-on-clause-extends : goal.returns-in_err-on-clause-extends
returns-in_err-on-clause-extends c = Extends-further _ _ _ c.row_names.ensures.extends c.some_goes_on.ensures.extends

pub or-requires-clause-left : goal.or-requires-clause-left
or-requires-clause-left c = omega (
  arith,
  Extends-longer _ _ c.some_goes_on.ensures.extends,
  c.in_ok-next.ensures.test.there,
)

pub or-requires-clause-right : goal.or-requires-clause-right
or-requires-clause-right c = c.in_ok-on.ensures.test.there

pub returns-clause-extends : goal.returns-clause-extends
returns-clause-extends c =
    Extends-further _ _ _ (Extends-further _ _ _ c.row_names.ensures.extends c.some_goes_on.ensures.extends)
    c.or.ensures.extends

pub returns-clause-test : goal.returns-clause-test
returns-clause-test c =
    let next = IsTest-kept (claim_in c.args.self.now) _ _ _ _ c.some_goes_on.ensures.extends c.in_ok-next.ensures.test
    in
    IfOk-weaker _ _ _ (λ id made. IsTest-or (claim_in c.args.self.now) _ _ id _ _ _ _ next c.in_ok-on.ensures.test
    c.or.ensures.extends made)
    c.or.ensures.made
