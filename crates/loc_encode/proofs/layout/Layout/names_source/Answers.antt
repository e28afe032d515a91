use Rattle.std.proofs.Common.{◌&&◌, false, sym, ap, ◌∙◌, subst}
use Rattle.std.proofs.lemmas.Result.{IfOk-weaker}
use Rattle.bv_terms.specs.declared.value.Sort.TheVariants as sort
use Rattle.loc_encode.specs.Tests.{IsTest}
use Rattle.loc_encode.specs.Layout.{slot_at}
use Rattle.loc_encode.specs.Shape.{names_source}
use Rattle.loc_encode.specs.Claimed.{claim_in}
use Rattle.loc_encode.proofs.LayoutLemmas.{named-slot}
use Rattle.loc_encode.proofs.TestLemmas.{IsTest-truth, IsTest-same}
use Rattle.loc_encode.specs.Slots.{IsSlot}
use Rattle.loc_encode.proofs.layout.Layout.names_source.Goals as goal

pub slot-requires : goal.slot-requires
slot-requires c =
    subst (λ x. IsSlot (claim_in c.args.self.now) x sort.Bool) (sym c.slot_at.ensures)
    (named-slot (claim_in c.args.self.now) c.args.row c.args.place c.args.source c.requires
    (sym c.may_name.ensures ∙ c.if-may_name.true))

pub returns-then-may_name-clause-test : goal.returns-then-may_name-clause-test
returns-then-may_name-clause-test c =
    let may = sym c.may_name.ensures ∙ c.if-may_name.true in
    IfOk-weaker _ _ _ (λ id test.
    IsTest-same (claim_in c.args.self.now) _ id
    (λ g. g (slot_at (claim_in c.args.self.now) c.args.row c.args.place c.args.source))
    (λ g. names_source (claim_in c.args.self.now) g c.args.row c.args.place c.args.source)
    (λ g. ap (λ b. b && g (slot_at (claim_in c.args.self.now) c.args.row c.args.place c.args.source)) (sym may))
    (subst (λ x. IsTest (claim_in c.args.self.now) c.slot.new.terms id (λ g. g x)) c.slot_at.ensures test))
    c.slot.ensures.test

pub returns-else-may_name-clause-test : goal.returns-else-may_name-clause-test
returns-else-may_name-clause-test c =
    let may = sym c.may_name.ensures ∙ c.if-may_name.false in
    IfOk-weaker _ _ _ (λ id made.
    IsTest-same (claim_in c.args.self.now) _ id (λ g. false)
    (λ g. names_source (claim_in c.args.self.now) g c.args.row c.args.place c.args.source)
    (λ g. ap (λ b. b && g (slot_at (claim_in c.args.self.now) c.args.row c.args.place c.args.source)) (sym may))
    (IsTest-truth (claim_in c.args.self.now) _ _ id false c.truth.ensures.extends made)) c.truth.ensures.made
