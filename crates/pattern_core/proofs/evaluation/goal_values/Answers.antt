use Rattle.std.proofs.Common.{◌≡◌, ◌∙◌, map}
use Rattle.bv_terms.specs.declared.op.TermId.{TermId}
use Rattle.bv_terms.specs.Term.{value}
use Rattle.bv_terms.specs.Table.{term_at}
use Rattle.isel_spec.proofs.SpecLemmas.{CanEval-goal, goal_values}
use Rattle.std.proofs.lemmas.Result.{IfOk-weaker}
use Rattle.pattern_core.proofs.EvaluationLemmas.{goal_nodes_are}
use Rattle.pattern_core.proofs.evaluation.goal_values.Goals as goal

pub values_along-requires-clause-nodes : goal.values_along-requires-clause-nodes
values_along-requires-clause-nodes c =
    let d = c.goal-definition.ensures in
    goal_nodes_are c.args.spec.now c.args.goal d.0 c.goal-definition.result.now c.as_slice-results.result.now
    c.args.nodes.now d.1 c.as_slice-results.ensures c.requires.nodes

pub values_along-requires-clause-inputs : goal.values_along-requires-clause-inputs
values_along-requires-clause-inputs c =
    let d = c.goal-definition.ensures in
    let can =
    CanEval-goal c.args.spec.now c.args.goal d.0 c.goal-definition.result.now c.as_slice-results.result.now
    c.args.inputs.now c.from_vec.result d.1 c.as_slice-results.ensures
    (c.from_vec.ensures ∙ c.in_ok-from_slice.ensures.items) c.requires.inputs in
    can.fit

pub returns : goal.returns
returns c =
    let d = c.goal-definition.ensures in
    IfOk-weaker c.values_along.result
    (λ v. v.items ≡ map (λ (at : TermId). value c.from_vec.result (term_at c.args.spec.now.terms at))
    c.as_slice-results.result.now) _
    (λ v is g h. is ∙ goal_values c.args.spec.now c.args.goal d.0 c.goal-definition.result.now g
    c.as_slice-results.result.now c.args.inputs.now c.from_vec.result d.1 h c.as_slice-results.ensures
    (c.from_vec.ensures ∙ c.in_ok-from_slice.ensures.items))
    c.values_along.ensures
