use Rattle.std.proofs.Common.{◌≡◌, map, arith}
use Rattle.std.proofs.lemmas.Result.{IfOk-weaker}
use Rattle.bv_terms.specs.declared.op.TermId.{TermId}
use Rattle.bv_terms.specs.Term.{value}
use Rattle.bv_terms.specs.Table.{term_at}
use Rattle.pattern_core.proofs.KnownLemmas.{results_of}
use Rattle.pattern_core.proofs.evaluation.computed_results.Goals as goal
use Rattle.isel_spec.proofs.SpecLemmas.{CanEval-op}
use Rattle.pattern_core.proofs.EvaluationLemmas.{as_many, nodes_at}

pub bounds-operations-operation : goal.bounds-operations-operation
bounds-operations-operation c =
    let many = as_many c.args.spec.now.terms c.args.spec.now.ops c.args.operations.now c.requires.operations in
    let there = c.requires.there in
    omega (arith, many, there)

pub values_along-requires-clause-nodes : goal.values_along-requires-clause-nodes
values_along-requires-clause-nodes c =
    let o = c.op-definition.ensures in
    nodes_at c.args.spec.now.terms c.args.spec.now.ops c.args.operations.now c.args.operation o.0
    c.op-definition.result.now c.as_slice-results.result.now c.as_slice-nodes.result.now
    c.index-operations-operation.result c.requires.operations o.1 c.as_slice-results.ensures
    c.index-operations-operation.is c.as_slice-nodes.ensures

pub values_along-requires-clause-inputs : goal.values_along-requires-clause-inputs
values_along-requires-clause-inputs c =
    let o = c.op-definition.ensures in
    let can =
    CanEval-op c.args.spec.now c.args.operation o.0 c.op-definition.result.now c.as_slice-results.result.now
    c.args.env.now.values o.1 c.as_slice-results.ensures (c.requires.sorted o.0 c.op-definition.result.now o.1) in
    can.fit

pub returns : goal.returns
returns c =
    let o = c.op-definition.ensures in
    IfOk-weaker c.values_along.result
    (λ v. v.items ≡ map (λ (at : TermId). value c.args.env.now.values (term_at c.args.spec.now.terms at))
    c.as_slice-results.result.now) _
    (λ v is. results_of c.args.spec.now c.args.operation o.0 c.op-definition.result.now c.as_slice-results.result.now
    c.args.env.now.values v.items o.1 c.as_slice-results.ensures is)
    c.values_along.ensures
