use Rattle.std.proofs.Common.{◌≡◌, ◌&&◌, ◌||◌, false, take, get_or, ap, ◌∙◌, subst}
use Rattle.std.specs.List.{list_any}
use Rattle.std.proofs.lemmas.List.{take_all}
use Rattle.loc_encode.specs.declared.slots.Slot.TheVariants as slot
use Rattle.loc_encode.specs.Tests.{IsTest}
use Rattle.loc_encode.specs.Layout.{out_sort, is_sort}
use Rattle.loc_encode.specs.Claimed.{claim_in}
use Rattle.loc_encode.proofs.LayoutLemmas.{kind-slot}
use Rattle.loc_encode.proofs.TestLemmas.{IsTest-truth}
use Rattle.loc_encode.proofs.StepLemmas.{building-first, building-list_any_told}
use Rattle.loc_encode.proofs.SlotLemmas.{element}
use Rattle.list_lemmas.proofs.Members.{In}
use Rattle.loc_encode.proofs.layout.Layout.has_result_sort.Goals as goal

pub returns-in_err-any-clause-extends : goal.returns-in_err-any-clause-extends
returns-in_err-any-clause-extends c = c.truth.ensures.extends

pub loop-op-init : goal.loop-op-init
loop-op-init c =
    building-first _ _ _ _ _ c.truth.ensures.extends
    (IsTest-truth (claim_in c.args.self.now) _ _ _ false c.truth.ensures.extends c.in_ok-any.ensures.made)

pub or_slot_if-requires-clause-there : goal.or_slot_if-requires-clause-there
or_slot_if-requires-clause-there c = c.loop-op.invariant.test.there

pub or_slot_if-requires-clause-slot : goal.or_slot_if-requires-clause-slot
or_slot_if-requires-clause-slot c =
    kind-slot (claim_in c.args.self.now) c.args.node (get_or c.kinds-kinds.result.now c.loop-op.op-index 0) c.requires
    (subst (λ xs. In xs (get_or c.kinds-kinds.result.now c.loop-op.op-index 0)) c.kinds-kinds.ensures
    (element c.kinds-kinds.result.now c.loop-op.op-index 0 c.loop-op-test.true))

pub loop-op-preserved : goal.loop-op-preserved
loop-op-preserved c =
    let sorted : c.is_sort.result ≡ is_sort (out_sort (claim_in c.args.self.now)
    (get_or c.kinds-kinds.result.now c.loop-op.op-index 0) c.args.place) c.args.sort =
    c.is_sort.ensures ∙ ap (λ o. is_sort o c.args.sort) c.out_sort.ensures in
    building-list_any_told (claim_in c.args.self.now) _ _ _ _ _
    (λ g op. is_sort (out_sort (claim_in c.args.self.now) op c.args.place) c.args.sort && g (slot.Kind c.args.node op))
    c.kinds-kinds.result.now c.loop-op.op-index 0 c.loop-op-test.true c.loop-op.invariant c.or_slot_if.ensures.extends
    (subst (λ b. IsTest (claim_in c.args.self.now) c.or_slot_if.new.terms c.in_ok-any-2.any
    (λ g. list_any (λ op. is_sort (out_sort (claim_in c.args.self.now) op c.args.place) c.args.sort
    && g (slot.Kind c.args.node op)) (take c.loop-op.op-index c.kinds-kinds.result.now)
    || (b && g (slot.Kind c.args.node (get_or c.kinds-kinds.result.now c.loop-op.op-index 0))))) sorted
    (c.in_ok-any-2.ensures.test _ c.loop-op.invariant.test))

pub returns-clause-extends : goal.returns-clause-extends
returns-clause-extends c = c.loop-op.invariant.extends

pub returns-clause-test : goal.returns-clause-test
returns-clause-test c =
    subst (λ xs. IsTest (claim_in c.args.self.now) c.loop-op.terms c.loop-op.any
    (λ g. list_any (λ op. is_sort (out_sort (claim_in c.args.self.now) op c.args.place) c.args.sort && g
    (slot.Kind c.args.node op)) xs))
    (take_all c.loop-op.op-index c.kinds-kinds.result.now c.loop-op-test.false ∙ c.kinds-kinds.ensures)
    c.loop-op.invariant.test
