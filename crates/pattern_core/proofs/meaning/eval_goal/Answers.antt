use Rattle.std.proofs.Common.{◌≡◌, ◌∙◌, map, ap, sym}
use Rattle.bv_terms.specs.declared.op.TermId.{TermId}
use Rattle.bv_terms.specs.Term.{value}
use Rattle.bv_terms.specs.Table.{term_at}
use Rattle.bv_terms.specs.Memory.{Plain}
use Rattle.isel_spec.specs.Spec.{file}
use Rattle.isel_spec.proofs.SpecLemmas.{CanEval-goal, goal_values}
use Rattle.pattern_core.proofs.ThingLemmas.{goal-plain, HasSoundTerms-from_spec}
use Rattle.std.proofs.lemmas.Result.{IfOk-weaker}
use Rattle.pattern_core.proofs.meaning.eval_goal.Goals as goal

pub values_of-requires-clause-there : goal.values_of-requires-clause-there
values_of-requires-clause-there c =
    let d = c.goal-definition.ensures in
    let can =
    CanEval-goal c.args.spec.now c.args.goal d.0 c.goal-definition.result.now c.as_slice-results.result.now
    c.args.inputs.now c.from_vec.result d.1 c.as_slice-results.ensures
    (c.from_vec.ensures ∙ c.in_ok-from_slice.ensures.items) c.requires.inputs in
    can.there

pub values_of-requires-clause-inputs : goal.values_of-requires-clause-inputs
values_of-requires-clause-inputs c =
    let d = c.goal-definition.ensures in
    let can =
    CanEval-goal c.args.spec.now c.args.goal d.0 c.goal-definition.result.now c.as_slice-results.result.now
    c.args.inputs.now c.from_vec.result d.1 c.as_slice-results.ensures
    (c.from_vec.ensures ∙ c.in_ok-from_slice.ensures.items) c.requires.inputs in
    can.fit

pub returns-clause-values : goal.returns-clause-values
returns-clause-values c =
    let d = c.goal-definition.ensures in
    IfOk-weaker c.values_of.result
    (λ v. v.items ≡ map (λ (at : TermId). value c.from_vec.result (term_at c.args.spec.now.terms at))
    c.as_slice-results.result.now) _
    (λ v is g h. is ∙ goal_values c.args.spec.now c.args.goal d.0 c.goal-definition.result.now g
    c.as_slice-results.result.now c.args.inputs.now c.from_vec.result d.1 h c.as_slice-results.ensures
    (c.from_vec.ensures ∙ c.in_ok-from_slice.ensures.items))
    c.values_of.ensures

pub returns-clause-things : goal.returns-clause-things
returns-clause-things c =
    let d = c.goal-definition.ensures in
    IfOk-weaker c.values_of.result
    (λ v. v.items ≡ map (λ (at : TermId). value c.from_vec.result (term_at c.args.spec.now.terms at))
    c.as_slice-results.result.now) _
    (λ v is g h. ap (map Plain) (is ∙ goal_values c.args.spec.now c.args.goal d.0 c.goal-definition.result.now g
    c.as_slice-results.result.now c.args.inputs.now c.from_vec.result d.1 h c.as_slice-results.ensures
    (c.from_vec.ensures ∙ c.in_ok-from_slice.ensures.items))
    ∙ sym (goal-plain (file c.args.spec.now) g
    (HasSoundTerms-from_spec c.args.spec.now c.args.goal g c.len.ensures.table h) c.args.inputs.now
    (c.requires.inputs g h)))
    c.values_of.ensures
