use Rattle.std.proofs.lemmas.Result.{IfOk-weaker}
use Rattle.pattern_core.proofs.EvaluationLemmas.{goal_results_there, AreGoalNodes-from}
use Rattle.pattern_core.proofs.evaluation.goal_nodes.Goals as goal

pub nodes_below-requires : goal.nodes_below-requires
nodes_below-requires c =
    let d = c.goal-definition.ensures in
    goal_results_there c.args.spec.now c.args.goal d.0 c.goal-definition.result.now c.as_slice.result.now d.1
    c.as_slice.ensures

pub returns : goal.returns
returns c =
    let d = c.goal-definition.ensures in
    IfOk-weaker c.nodes_below.result _ _ (λ v are. AreGoalNodes-from c.args.spec.now c.args.goal d.0
    c.goal-definition.result.now c.as_slice.result.now v.items d.1 c.as_slice.ensures are) c.nodes_below.ensures
