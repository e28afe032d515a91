use Rattle.std.proofs.Common.{◌≡◌, ◌∙◌, List, map}
use Rattle.bv_terms.specs.declared.op.TermId.{TermId}
use Rattle.bv_terms.specs.declared.value.Value.{Value}
use Rattle.bv_terms.specs.Term.{value}
use Rattle.bv_terms.specs.Table.{term_at}
use Rattle.pattern_core.specs.Rule.{source_value}
use Rattle.std.proofs.lemmas.Result.{IfOk-weaker}
use Rattle.pattern_core.proofs.EvalLemmas.{node_values, CanEval-node}
use Rattle.pattern_core.proofs.meaning.node_results.Goals as goal

pub values_of-requires-clause-there : goal.values_of-requires-clause-there
values_of-requires-clause-there c =
    let o = c.op-operation.ensures in
    let can =
    CanEval-node c.args.spec.now c.args.node.now o.0 c.op-operation.result.now c.from.result c.args.inputs.now
    c.args.outs.now c.in_ok-env.env.values c.as_slice-results.result.now c.requires.given c.from.ensures o.1
    c.as_slice-results.ensures c.in_ok-env.ensures in
    can.there

pub values_of-requires-clause-inputs : goal.values_of-requires-clause-inputs
values_of-requires-clause-inputs c =
    let o = c.op-operation.ensures in
    let can =
    CanEval-node c.args.spec.now c.args.node.now o.0 c.op-operation.result.now c.from.result c.args.inputs.now
    c.args.outs.now c.in_ok-env.env.values c.as_slice-results.result.now c.requires.given c.from.ensures o.1
    c.as_slice-results.ensures c.in_ok-env.ensures in
    can.fit

pub returns : goal.returns
returns c =
    let o = c.op-operation.ensures in
    let args : List Value = map (source_value c.args.inputs.now c.args.outs.now) c.args.node.now.args in
    IfOk-weaker c.values_of.result
    (λ v. v.items ≡ map (λ (at : TermId). value c.in_ok-env.env.values (term_at c.args.spec.now.terms at))
    c.as_slice-results.result.now) _
    (λ v is. is ∙ node_values c.args.spec.now c.args.node.now o.0 c.op-operation.result.now c.from.result args
    c.in_ok-env.env.values c.as_slice-results.result.now c.from.ensures o.1 c.as_slice-results.ensures
    c.in_ok-env.ensures)
    c.values_of.ensures
