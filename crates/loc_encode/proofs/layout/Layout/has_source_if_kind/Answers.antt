use Rattle.std.proofs.Common.{subst, arith}
use Rattle.std.proofs.lemmas.Result.{IfOk-weaker}
use Rattle.bv_terms.proofs.GraftLemmas.{Extends-further, Extends-longer}
use Rattle.list_lemmas.proofs.Members.{In-from_Contains}
use Rattle.loc_encode.specs.Tests.{IsTest}
use Rattle.loc_encode.specs.Shape.{has_source}
use Rattle.loc_encode.specs.Claimed.{claim_in}
use Rattle.loc_encode.proofs.LayoutLemmas.{kind-slot}
use Rattle.loc_encode.proofs.TestLemmas.{IsTest-kept, IsTest-or, IsTest-not}
use Rattle.loc_encode.proofs.layout.Layout.has_source_if_kind.Goals as goal

pub slot-requires : goal.slot-requires
slot-requires c =
    kind-slot (claim_in c.args.self.now) c.args.line c.args.op c.requires.line (In-from_Contains _ _ c.requires.op)

pub returns-in_err-kind-clause-extends : goal.returns-in_err-kind-clause-extends
returns-in_err-kind-clause-extends c = c.slot.ensures.extends

pub not-requires : goal.not-requires
not-requires c = c.in_ok-kind.ensures.test.there

pub returns-in_err-other-clause-extends : goal.returns-in_err-other-clause-extends
returns-in_err-other-clause-extends c = Extends-further _ _ _ c.slot.ensures.extends c.not.ensures.extends

pub has_source-requires-clause-row : goal.has_source-requires-clause-row
has_source-requires-clause-row c = omega (arith, c.requires.line)

pub returns-in_err-right-clause-extends : goal.returns-in_err-right-clause-extends
returns-in_err-right-clause-extends c =
    Extends-further _ _ _ (Extends-further _ _ _ c.slot.ensures.extends c.not.ensures.extends)
    c.has_source.ensures.extends

pub or-requires-clause-left : goal.or-requires-clause-left
or-requires-clause-left c = omega (
  arith,
  Extends-longer _ _ c.has_source.ensures.extends,
  c.in_ok-other.ensures.made.there,
)

pub or-requires-clause-right : goal.or-requires-clause-right
or-requires-clause-right c = c.in_ok-right.ensures.test.there

pub returns-clause-extends : goal.returns-clause-extends
returns-clause-extends c =
    Extends-further _ _ _ (Extends-further _ _ _ (Extends-further _ _ _ c.slot.ensures.extends c.not.ensures.extends)
    c.has_source.ensures.extends) c.or.ensures.extends

pub returns-clause-test : goal.returns-clause-test
returns-clause-test c =
    let other = IsTest-kept (claim_in c.args.self.now) _ _ _ _ c.has_source.ensures.extends
    (IsTest-not (claim_in c.args.self.now) _ _ _ _ _ c.in_ok-kind.ensures.test c.not.ensures.extends
    c.in_ok-other.ensures.made) in
    let right = subst (λ o. IsTest (claim_in c.args.self.now) c.has_source.new.terms c.in_ok-right.right
    (λ g. has_source (claim_in c.args.self.now) g c.args.line c.args.place o))
    c.arg_sort-wanted.ensures c.in_ok-right.ensures.test in
    IfOk-weaker _ _ _ (λ id made. IsTest-or (claim_in c.args.self.now) _ _ id _ _ _ _ other right c.or.ensures.extends
    made) c.or.ensures.made
