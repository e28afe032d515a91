use Rattle.std.proofs.Common.{◌||◌, not, true, ◌∙◌, subst, arith}
use Rattle.loc_encode.proofs.SlotLemmas.{contains-at}
use Rattle.std.specs.List.{list_all}
use Rattle.std.proofs.lemmas.List.{take_all}
use Rattle.bv_terms.proofs.GraftLemmas.{Extends-further, Extends-longer}
use Rattle.loc_encode.specs.Tests.{IsTest}
use Rattle.loc_encode.specs.Layout.{slot_at}
use Rattle.loc_encode.specs.Shape.{has_sort}
use Rattle.loc_encode.specs.Claimed.{claim_in}
use Rattle.loc_encode.proofs.TestLemmas.{IsTest-truth}
use Rattle.loc_encode.proofs.StepLemmas.{building-first, building-list_all}
use Rattle.loc_encode.proofs.layout.Layout.have_sort.Goals as goal

pub returns-in_err-all-clause-extends : goal.returns-in_err-all-clause-extends
returns-in_err-all-clause-extends c = c.truth.ensures.extends

pub loop-source-init : goal.loop-source-init
loop-source-init c =
    building-first _ _ _ _ _ c.truth.ensures.extends
    (IsTest-truth (claim_in c.args.self.now) _ _ _ true c.truth.ensures.extends c.in_ok-all.ensures.made)

pub has_sort_if_chosen-requires-clause-source : goal.has_sort_if_chosen-requires-clause-source
has_sort_if_chosen-requires-clause-source c =
    contains-at _ _ _ _ c.loop-source-test.true c.requires.sources

pub returns-in_err-right-clause-extends : goal.returns-in_err-right-clause-extends
returns-in_err-right-clause-extends c = Extends-further _ _ _ c.loop-source.invariant.extends
    c.has_sort_if_chosen.ensures.extends

pub and-requires-clause-left : goal.and-requires-clause-left
and-requires-clause-left c =
    omega (arith, Extends-longer _ _ c.has_sort_if_chosen.ensures.extends, c.loop-source.invariant.test.there)

pub and-requires-clause-right : goal.and-requires-clause-right
and-requires-clause-right c = c.in_ok-right.ensures.test.there

pub returns-in_err-all-2-clause-extends : goal.returns-in_err-all-2-clause-extends
returns-in_err-all-2-clause-extends c =
    Extends-further _ _ _ (Extends-further _ _ _ c.loop-source.invariant.extends c.has_sort_if_chosen.ensures.extends)
    c.and.ensures.extends

pub loop-source-preserved : goal.loop-source-preserved
loop-source-preserved c =
    building-list_all (claim_in c.args.self.now) _ _ _ _ _ _ _
    (λ g s. not (g (slot_at (claim_in c.args.self.now) c.args.row c.args.place s)) || has_sort
    (claim_in c.args.self.now) g c.args.sort s)
    c.args.sources.now c.loop-source.source-index _ c.loop-source-test.true c.loop-source.invariant
    c.has_sort_if_chosen.ensures.extends
    c.in_ok-right.ensures.test
    c.and.ensures.extends c.in_ok-all-2.ensures.made

pub returns-clause-extends : goal.returns-clause-extends
returns-clause-extends c = c.loop-source.invariant.extends

pub returns-clause-test : goal.returns-clause-test
returns-clause-test c =
    subst (λ xs. IsTest (claim_in c.args.self.now) c.loop-source.terms c.loop-source.all
    (λ g. list_all (λ s. not (g (slot_at (claim_in c.args.self.now) c.args.row c.args.place s)) || has_sort
    (claim_in c.args.self.now) g c.args.sort s) xs))
    (take_all c.loop-source.source-index c.args.sources.now c.loop-source-test.false ∙ c.requires.sources)
    c.loop-source.invariant.test
