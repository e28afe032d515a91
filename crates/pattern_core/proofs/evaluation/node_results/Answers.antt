use Rattle.std.proofs.Common.{◌≡◌, ◌∙◌, ℕ, List, Some, map, refl, slice_get}
use Rattle.std.proofs.lemmas.Result.{IfOk-weaker}
use Rattle.bv_terms.specs.declared.value.Value.{Value}
use Rattle.isel_spec.specs.declared.definitions.OpDef.{OpDef}
use Rattle.pattern_core.specs.Rule.{source_value}
use Rattle.pattern_core.specs.Known.{results_at}
use Rattle.pattern_core.proofs.EvalLemmas.{node_values}
use Rattle.pattern_core.proofs.evaluation.node_results.Goals as goal

pub returns-clause-values : goal.returns-clause-values
returns-clause-values c =
    let s = c.args.spec.now in
    let o = c.op-operation.ensures in
    let d = c.op-operation.result.now in
    let args : List Value = map (source_value c.args.inputs.now c.args.outs.now) c.args.node.now.args in
    IfOk-weaker c.operation_results.result
    (λ v. (name : List ℕ) (d : OpDef) → slice_get s.ops c.from-place.result ≡ Some (name, d)
    → v.items ≡ results_at s.terms d c.in_ok-env.env.values) _
    (λ v is. is o.0 d o.1 ∙ node_values s c.args.node.now o.0 d c.from-place.result args c.in_ok-env.env.values
    d.results c.from-place.ensures o.1 refl c.in_ok-env.ensures)
    c.operation_results.ensures.results
