use Rattle.std.proofs.Common.{◌≡◌, true, map, ◌∙◌, subst, arith}
use Rattle.bv_terms.proofs.GraftLemmas.{Extends-further, Extends-longer}
use Rattle.loc_encode.specs.declared.slots.Slot.TheVariants as slot
use Rattle.loc_encode.specs.Tests.{IsTest}
use Rattle.loc_encode.specs.Layout.{kinds, size, all_below}
use Rattle.loc_encode.specs.Shape.{are_chosen}
use Rattle.loc_encode.specs.Claimed.{claim_in}
use Rattle.loc_encode.proofs.TestLemmas.{IsTest-truth}
use Rattle.loc_encode.proofs.StepLemmas.{building-first, building-all}
use Rattle.loc_encode.proofs.SlotLemmas.{line-slots}
use Rattle.loc_encode.proofs.layout.Layout.have_kinds.Goals as goal

pub returns-in_err-all-clause-extends : goal.returns-in_err-all-clause-extends
returns-in_err-all-clause-extends c = c.truth.ensures.extends

pub loop-line-init : goal.loop-line-init
loop-line-init c =
    building-first _ _ _ _ _ c.truth.ensures.extends
    (IsTest-truth (claim_in c.args.self.now) _ _ _ true c.truth.ensures.extends c.in_ok-all.ensures.made)

pub are_chosen-requires-clause-slots : goal.are_chosen-requires-clause-slots
are_chosen-requires-clause-slots c =
    line-slots (claim_in c.args.self.now) c.loop-line.line _ (omega (arith, c.size-line-end.ensures.size))
    (c.deref.ensures.value ∙ c.in_ok-slots.ensures)

pub returns-in_err-slots-clause-extends : goal.returns-in_err-slots-clause-extends
returns-in_err-slots-clause-extends c = c.loop-line.invariant.extends

pub returns-in_err-one-clause-extends : goal.returns-in_err-one-clause-extends
returns-in_err-one-clause-extends c = Extends-further _ _ _ c.loop-line.invariant.extends c.are_chosen.ensures.extends

pub and-requires-clause-left : goal.and-requires-clause-left
and-requires-clause-left c = omega (
  arith,
  Extends-longer _ _ c.are_chosen.ensures.extends,
  c.loop-line.invariant.test.there,
)

pub and-requires-clause-right : goal.and-requires-clause-right
and-requires-clause-right c = c.in_ok-one.ensures.test.there

pub returns-in_err-all-2-clause-extends : goal.returns-in_err-all-2-clause-extends
returns-in_err-all-2-clause-extends c =
    Extends-further _ _ _ (Extends-further _ _ _ c.loop-line.invariant.extends c.are_chosen.ensures.extends)
    c.and.ensures.extends

pub loop-line-preserved : goal.loop-line-preserved
loop-line-preserved c =
    building-all (claim_in c.args.self.now) _ _ _ _ _ _ _
    (λ g line. are_chosen g (map (slot.Kind line) (kinds (claim_in c.args.self.now))) 1) c.loop-line.line
    c.loop-line.invariant
    c.are_chosen.ensures.extends (subst (λ xs. IsTest (claim_in c.args.self.now) c.are_chosen.new.terms
    c.in_ok-one.one (λ g. are_chosen g xs 1))
    (c.deref.ensures.value ∙ c.in_ok-slots.ensures) c.in_ok-one.ensures.test) c.and.ensures.extends
    c.in_ok-all-2.ensures.made

pub returns-clause-extends : goal.returns-clause-extends
returns-clause-extends c = c.loop-line.invariant.extends

pub returns-clause-test : goal.returns-clause-test
returns-clause-test c =
    let last : c.loop-line.line ≡ size (claim_in c.args.self.now) = omega (arith, c.size-line-end.ensures.size) in
    subst (λ n. IsTest (claim_in c.args.self.now) c.loop-line.terms c.loop-line.all
    (λ g. all_below (λ line. are_chosen g (map (slot.Kind line) (kinds (claim_in c.args.self.now))) 1) n)) last
    c.loop-line.invariant.test
