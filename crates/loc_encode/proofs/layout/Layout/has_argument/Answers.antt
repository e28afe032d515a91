use Rattle.std.proofs.Common.{◌||◌, not, true, get_or, ◌∙◌, subst, arith}
use Rattle.std.specs.List.{list_all}
use Rattle.std.proofs.lemmas.List.{take_all}
use Rattle.bv_terms.proofs.GraftLemmas.{Extends-further, Extends-longer}
use Rattle.loc_encode.specs.declared.slots.Slot.TheVariants as slot
use Rattle.list_lemmas.proofs.Members.{Contains-from_In}
use Rattle.loc_encode.specs.Tests.{IsTest}
use Rattle.loc_encode.specs.Layout.{arg_sort}
use Rattle.loc_encode.specs.Shape.{has_source}
use Rattle.loc_encode.specs.Claimed.{claim_in}
use Rattle.loc_encode.proofs.TestLemmas.{IsTest-truth}
use Rattle.loc_encode.proofs.StepLemmas.{building-first, building-list_all}
use Rattle.loc_encode.proofs.SlotLemmas.{element}
use Rattle.list_lemmas.proofs.Members.{In}
use Rattle.loc_encode.proofs.layout.Layout.has_argument.Goals as goal

pub returns-in_err-all-clause-extends : goal.returns-in_err-all-clause-extends
returns-in_err-all-clause-extends c = c.truth.ensures.extends

pub loop-op-init : goal.loop-op-init
loop-op-init c =
    building-first _ _ _ _ _ c.truth.ensures.extends
    (IsTest-truth (claim_in c.args.self.now) _ _ _ true c.truth.ensures.extends c.in_ok-all.ensures.made)

pub has_source_if_kind-requires-clause-op : goal.has_source_if_kind-requires-clause-op
has_source_if_kind-requires-clause-op c =
    Contains-from_In _ _ (subst (λ xs. In xs (get_or c.kinds-kinds.result.now c.loop-op.op-index 0))
    c.kinds-kinds.ensures
    (element c.kinds-kinds.result.now c.loop-op.op-index 0 c.loop-op-test.true))

pub returns-in_err-right-clause-extends : goal.returns-in_err-right-clause-extends
returns-in_err-right-clause-extends c = Extends-further _ _ _ c.loop-op.invariant.extends
    c.has_source_if_kind.ensures.extends

pub and-requires-clause-left : goal.and-requires-clause-left
and-requires-clause-left c =
    omega (arith, Extends-longer _ _ c.has_source_if_kind.ensures.extends, c.loop-op.invariant.test.there)

pub and-requires-clause-right : goal.and-requires-clause-right
and-requires-clause-right c = c.in_ok-right.ensures.test.there

pub returns-in_err-all-2-clause-extends : goal.returns-in_err-all-2-clause-extends
returns-in_err-all-2-clause-extends c =
    Extends-further _ _ _ (Extends-further _ _ _ c.loop-op.invariant.extends c.has_source_if_kind.ensures.extends)
    c.and.ensures.extends

pub loop-op-preserved : goal.loop-op-preserved
loop-op-preserved c =
    building-list_all (claim_in c.args.self.now) _ _ _ _ _ _ _
    (λ g op. not (g (slot.Kind c.args.line op)) || has_source (claim_in c.args.self.now) g c.args.line c.args.place
    (arg_sort (claim_in c.args.self.now) op c.args.place))
    c.kinds-kinds.result.now c.loop-op.op-index 0 c.loop-op-test.true c.loop-op.invariant
    c.has_source_if_kind.ensures.extends
    c.in_ok-right.ensures.test
    c.and.ensures.extends c.in_ok-all-2.ensures.made

pub returns-clause-extends : goal.returns-clause-extends
returns-clause-extends c = c.loop-op.invariant.extends

pub returns-clause-test : goal.returns-clause-test
returns-clause-test c =
    subst (λ xs. IsTest (claim_in c.args.self.now) c.loop-op.terms c.loop-op.all
    (λ g. list_all (λ op. not (g (slot.Kind c.args.line op)) || has_source (claim_in c.args.self.now) g c.args.line
    c.args.place (arg_sort (claim_in c.args.self.now) op c.args.place)) xs))
    (take_all c.loop-op.op-index c.kinds-kinds.result.now c.loop-op-test.false ∙ c.kinds-kinds.ensures)
    c.loop-op.invariant.test
