use Rattle.std.proofs.Common.{sym, subst, arith}
use Rattle.std.proofs.lemmas.Result.{IfOk-weaker}
use Rattle.bv_terms.proofs.GraftLemmas.{Extends-further, Extends-longer}
use Rattle.bv_terms.specs.declared.value.Sort.TheVariants as sort
use Rattle.list_lemmas.proofs.Members.{In-from_Contains}
use Rattle.loc_encode.specs.Tests.{IsTest}
use Rattle.loc_encode.specs.Layout.{size}
use Rattle.loc_encode.specs.Claimed.{claim_in}
use Rattle.loc_encode.proofs.TestLemmas.{IsTest-kept, IsTest-or, IsTest-not}
use Rattle.loc_encode.proofs.SlotLemmas.{choice-slot, choice-before}
use Rattle.loc_encode.specs.Slots.{IsSlot}
use Rattle.loc_encode.proofs.layout.Layout.has_sort_if_chosen.Goals as goal

pub slot-requires : goal.slot-requires
slot-requires c =
    subst (λ x. IsSlot (claim_in c.args.self.now) x sort.Bool) (sym c.slot_at.ensures)
    (choice-slot (claim_in c.args.self.now) c.args.row c.args.place c.args.source c.requires.row
    (In-from_Contains _ _ c.requires.source))

pub returns-in_err-chosen-clause-extends : goal.returns-in_err-chosen-clause-extends
returns-in_err-chosen-clause-extends c = c.slot.ensures.extends

pub not-requires : goal.not-requires
not-requires c = c.in_ok-chosen.ensures.test.there

pub returns-in_err-other-clause-extends : goal.returns-in_err-other-clause-extends
returns-in_err-other-clause-extends c = Extends-further _ _ _ c.slot.ensures.extends c.not.ensures.extends

pub has_sort-requires : goal.has_sort-requires
has_sort-requires c =
    choice-before (claim_in c.args.self.now) c.args.row c.args.place (size (claim_in c.args.self.now)) c.args.source
    c.requires.row (In-from_Contains _ _ c.requires.source)

pub returns-in_err-sorted-clause-extends : goal.returns-in_err-sorted-clause-extends
returns-in_err-sorted-clause-extends c =
    Extends-further _ _ _ (Extends-further _ _ _ c.slot.ensures.extends c.not.ensures.extends)
    c.has_sort.ensures.extends

pub or-requires-clause-left : goal.or-requires-clause-left
or-requires-clause-left c = omega (
  arith,
  Extends-longer _ _ c.has_sort.ensures.extends,
  c.in_ok-other.ensures.made.there,
)

pub or-requires-clause-right : goal.or-requires-clause-right
or-requires-clause-right c = c.in_ok-sorted.ensures.test.there

pub returns-clause-extends : goal.returns-clause-extends
returns-clause-extends c =
    Extends-further _ _ _ (Extends-further _ _ _ (Extends-further _ _ _ c.slot.ensures.extends c.not.ensures.extends)
    c.has_sort.ensures.extends) c.or.ensures.extends

pub returns-clause-test : goal.returns-clause-test
returns-clause-test c =
    let slot-is = c.slot_at.ensures in
    let chosen = subst (λ x. IsTest (claim_in c.args.self.now) c.slot.new.terms c.in_ok-chosen.chosen (λ g. g x))
    c.slot_at.ensures c.in_ok-chosen.ensures.test in
    let other = IsTest-kept (claim_in c.args.self.now) _ _ _ _ c.has_sort.ensures.extends
    (IsTest-not (claim_in c.args.self.now) _ _ _ _ _ chosen c.not.ensures.extends c.in_ok-other.ensures.made) in
    IfOk-weaker _ _ _ (λ id made. IsTest-or (claim_in c.args.self.now) _ _ id _ _ _ _ other
    c.in_ok-sorted.ensures.test c.or.ensures.extends made)
    c.or.ensures.made
