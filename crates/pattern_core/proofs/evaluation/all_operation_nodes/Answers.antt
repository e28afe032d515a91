use Rattle.std.proofs.Common.{List, sym, subst, arith, ◌∙◌, ap, ◌++◌, ◌∷◌, []}
use Rattle.bv_terms.specs.declared.op.TermId.{TermId}
use Rattle.pattern_core.specs.Evaluation.{HaveNodes}
use Rattle.pattern_core.proofs.EvaluationLemmas.{op_results_there, HaveNodes-more, HaveNodes-all}
use Rattle.pattern_core.proofs.evaluation.all_operation_nodes.Goals as goal

pub nodes_below-requires : goal.nodes_below-requires
nodes_below-requires c =
    let d = c.op-definition.ensures in
    op_results_there c.args.spec.now c.loop-place.place d.0 c.op-definition.result.now c.as_slice.result.now d.1
    c.as_slice.ensures

pub loop-place-init : goal.loop-place-init
loop-place-init c =
    subst (λ (lists : List (List TermId)). HaveNodes c.args.spec.now.terms [] lists) (sym c.new-lists.ensures) tt

pub loop-place-preserved : goal.loop-place-preserved
loop-place-preserved c =
    let d = c.op-definition.ensures in
    let pushed =
    c.in_ok-push.ensures.ok
    ∙ ap (λ (nodes : List TermId). c.loop-place.lists ++ nodes ∷ []) c.from_vec.ensures in
    HaveNodes-more c.args.spec.now.terms c.args.spec.now.ops c.loop-place.lists c.push.new.self c.loop-place.place d.0
    c.op-definition.result.now c.as_slice.result.now c.in_ok-nodes.nodes.items c.loop-place.invariant d.1
    c.as_slice.ensures c.in_ok-nodes.ensures pushed

pub returns : goal.returns
returns c =
    HaveNodes-all c.args.spec.now.terms c.args.spec.now.ops c.loop-place.lists c.loop-place.place
    c.loop-place.invariant (omega (arith, c.loop-place-test.false, c.len-place-end.ensures))
