use Rattle.std.proofs.Common.{◌∙◌}
use Rattle.std.proofs.lemmas.Result.{IfOk-weaker}
use Rattle.bv_terms.proofs.SubtermLemmas.{AreSubterms-fit}
use Rattle.pattern_core.proofs.EvalLemmas.{values-stand}
use Rattle.pattern_core.proofs.evaluation.values_along.Goals as goal

pub eval_nodes-requires-clause-inputs : goal.eval_nodes-requires-clause-inputs
eval_nodes-requires-clause-inputs c =
    AreSubterms-fit c.args.terms.now c.args.results.now c.args.nodes.now c.requires.nodes.exact c.args.env.now.values
    c.requires.inputs

pub returns : goal.returns
returns c =
    IfOk-weaker c.values_at.result _ _ (λ v is. is
    ∙ values-stand c.args.terms.now c.args.env.now.values c.eval_nodes.new.room c.args.nodes.now c.args.results.now
    c.eval_nodes.ensures.values c.requires.nodes.among) c.values_at.ensures
