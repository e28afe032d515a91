use Rattle.std.proofs.Common.{sym, subst, arith}
use Rattle.std.proofs.lemmas.Result.{IfOk-weaker}
use Rattle.loc_encode.specs.Tests.{IsTest}
use Rattle.loc_encode.specs.Layout.{row_slots}
use Rattle.loc_encode.specs.Shape.{are_chosen, have_sort, has_source}
use Rattle.loc_encode.proofs.TestLemmas.{IsTest-kept, IsTest-and}
use Rattle.bv_terms.proofs.GraftLemmas.{Extends-further, Extends-longer}
use Rattle.loc_encode.specs.Claimed.{claim_in}
use Rattle.loc_encode.proofs.SlotLemmas.{row-slots}
use Rattle.loc_encode.proofs.layout.Layout.has_source.Goals as goal

pub are_chosen-requires-clause-slots : goal.are_chosen-requires-clause-slots
are_chosen-requires-clause-slots c =
    row-slots (claim_in c.args.self.now) c.args.row c.args.place c.args.slots.now c.requires.row c.requires.slots

pub are_chosen-requires-2-clause-slots : goal.are_chosen-requires-2-clause-slots
are_chosen-requires-2-clause-slots c =
    row-slots (claim_in c.args.self.now) c.args.row c.args.place c.args.slots.now c.requires.row c.requires.slots

pub returns-in_err-one-clause-extends : goal.returns-in_err-one-clause-extends
returns-in_err-one-clause-extends c = c.are_chosen-2.ensures.extends

pub returns-in_err-sorted-clause-extends : goal.returns-in_err-sorted-clause-extends
returns-in_err-sorted-clause-extends c = Extends-further _ _ _ c.are_chosen-2.ensures.extends
    c.have_sort.ensures.extends

pub and-requires-clause-left : goal.and-requires-clause-left
and-requires-clause-left c = omega (
  arith,
  Extends-longer _ _ c.have_sort.ensures.extends,
  c.in_ok-one.ensures.test.there,
)

pub and-requires-clause-right : goal.and-requires-clause-right
and-requires-clause-right c = c.in_ok-sorted.ensures.test.there

pub returns-clause-extends : goal.returns-clause-extends
returns-clause-extends c =
    Extends-further _ _ _ (Extends-further _ _ _ c.are_chosen-2.ensures.extends c.have_sort.ensures.extends)
    c.and.ensures.extends

pub returns-clause-test : goal.returns-clause-test
returns-clause-test c =
    let one = subst (λ xs. IsTest (claim_in c.args.self.now) c.are_chosen-2.new.terms c.in_ok-one.one
    (λ g. are_chosen g xs 1))
    c.requires.slots c.in_ok-one.ensures.test in
    let kept = IsTest-kept (claim_in c.args.self.now) _ _ _ _ c.have_sort.ensures.extends one in
    IfOk-weaker _ _ _ (λ id made.
    subst (λ o. IsTest (claim_in c.args.self.now) c.and.new.terms id
    (λ g. has_source (claim_in c.args.self.now) g c.args.row c.args.place o)) (sym c.in-Some.is)
    (IsTest-and (claim_in c.args.self.now) _ _ id _ _
    (λ g. are_chosen g (row_slots (claim_in c.args.self.now) c.args.row c.args.place) 1)
    (λ g. have_sort (claim_in c.args.self.now) g c.args.row c.args.place c.in-Some.sort) kept
    c.in_ok-sorted.ensures.test
    c.and.ensures.extends made)) c.and.ensures.made
