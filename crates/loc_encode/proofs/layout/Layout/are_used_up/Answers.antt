use Rattle.std.proofs.Common.{true, get_or, sym, ap, ◌∙◌, subst, arith}
use Rattle.std.specs.Prelude.{nat_eq, count_by}
use Rattle.std.specs.List.{list_all}
use Rattle.std.proofs.lemmas.List.{take_all}
use Rattle.bv_terms.proofs.GraftLemmas.{Extends-further, Extends-longer}
use Rattle.loc_encode.specs.Tests.{IsTest}
use Rattle.loc_encode.specs.Shape.{are_chosen, kind_slots}
use Rattle.loc_encode.specs.Claimed.{claim_in}
use Rattle.loc_encode.proofs.LayoutFacts.{claim_in-ops}
use Rattle.loc_encode.proofs.TestLemmas.{IsTest-truth}
use Rattle.loc_encode.proofs.StepLemmas.{building-first, building-list_all}
use Rattle.loc_encode.proofs.SlotLemmas.{kind-slots, element}
use Rattle.list_lemmas.proofs.Members.{In}
use Rattle.loc_encode.proofs.layout.Layout.are_used_up.Goals as goal

pub returns-in_err-all-clause-extends : goal.returns-in_err-all-clause-extends
returns-in_err-all-clause-extends c = c.truth.ensures.extends

pub loop-op-init : goal.loop-op-init
loop-op-init c =
    building-first _ _ _ _ _ c.truth.ensures.extends
    (IsTest-truth (claim_in c.args.self.now) _ _ _ true c.truth.ensures.extends c.in_ok-all.ensures.made)

pub are_chosen-requires-clause-few : goal.are_chosen-requires-clause-few
are_chosen-requires-clause-few c = let few = c.args.self.now.few in omega (arith, c.times.ensures.most, few)

pub are_chosen-requires-clause-slots : goal.are_chosen-requires-clause-slots
are_chosen-requires-clause-slots c =
    kind-slots (claim_in c.args.self.now) (get_or c.kinds-kinds.result.now c.loop-op.op-index 0) _
    (subst (λ xs. In xs (get_or c.kinds-kinds.result.now c.loop-op.op-index 0)) c.kinds-kinds.ensures
    (element c.kinds-kinds.result.now c.loop-op.op-index 0 c.loop-op-test.true))
    (c.deref.ensures.value ∙ c.in_ok-slots.ensures)

pub returns-in_err-slots-clause-extends : goal.returns-in_err-slots-clause-extends
returns-in_err-slots-clause-extends c = c.loop-op.invariant.extends

pub returns-in_err-right-clause-extends : goal.returns-in_err-right-clause-extends
returns-in_err-right-clause-extends c = Extends-further _ _ _ c.loop-op.invariant.extends c.are_chosen.ensures.extends

pub and-requires-clause-left : goal.and-requires-clause-left
and-requires-clause-left c = omega (
  arith,
  Extends-longer _ _ c.are_chosen.ensures.extends,
  c.loop-op.invariant.test.there,
)

pub and-requires-clause-right : goal.and-requires-clause-right
and-requires-clause-right c = c.in_ok-right.ensures.test.there

pub returns-in_err-all-2-clause-extends : goal.returns-in_err-all-2-clause-extends
returns-in_err-all-2-clause-extends c =
    Extends-further _ _ _ (Extends-further _ _ _ c.loop-op.invariant.extends c.are_chosen.ensures.extends)
    c.and.ensures.extends

pub loop-op-preserved : goal.loop-op-preserved
loop-op-preserved c =
    building-list_all (claim_in c.args.self.now) _ _ _ _ _ _ _
    (λ g op. are_chosen g (kind_slots (claim_in c.args.self.now) op)
    (count_by (nat_eq op) (claim_in c.args.self.now).ops))
    c.kinds-kinds.result.now c.loop-op.op-index 0 c.loop-op-test.true c.loop-op.invariant c.are_chosen.ensures.extends
    (let op = get_or c.kinds-kinds.result.now c.loop-op.op-index 0 in
    subst (λ n. IsTest (claim_in c.args.self.now) c.are_chosen.new.terms c.in_ok-right.right
    (λ g. are_chosen g (kind_slots (claim_in c.args.self.now) (get_or c.kinds-kinds.result.now c.loop-op.op-index 0))
    n))
    (c.times.ensures.times ∙ ap (count_by (nat_eq (get_or c.kinds-kinds.result.now c.loop-op.op-index 0)))
    (sym (claim_in-ops c.args.self.now)))
    (subst (λ xs. IsTest (claim_in c.args.self.now) c.are_chosen.new.terms c.in_ok-right.right
    (λ g. are_chosen g xs c.times.result))
    (c.deref.ensures.value ∙ c.in_ok-slots.ensures) c.in_ok-right.ensures.test))
    c.and.ensures.extends c.in_ok-all-2.ensures.made

pub returns-clause-extends : goal.returns-clause-extends
returns-clause-extends c = c.loop-op.invariant.extends

pub returns-clause-test : goal.returns-clause-test
returns-clause-test c =
    subst (λ xs. IsTest (claim_in c.args.self.now) c.loop-op.terms c.loop-op.all
    (λ g. list_all (λ op. are_chosen g (kind_slots (claim_in c.args.self.now) op)
    (count_by (nat_eq op) (claim_in c.args.self.now).ops)) xs))
    (take_all c.loop-op.op-index c.kinds-kinds.result.now c.loop-op-test.false ∙ c.kinds-kinds.ensures)
    c.loop-op.invariant.test
