use Rattle.std.proofs.Common.{All, ◌∙◌, sym, subst}
use Rattle.std.proofs.lemmas.Result.{IfOk-weaker}
use Rattle.bv_terms.specs.declared.op.TermId.{TermId}
use Rattle.bv_terms.specs.WellSorted.{InputsFit}
use Rattle.bv_terms.specs.Table.{term_at}
use Rattle.bv_terms.specs.Eval.{IsValued}
use Rattle.bv_terms.proofs.SubtermLemmas.{AreSubterms-fit}
use Rattle.pattern_core.proofs.EvalLemmas.{values-stand}
use Rattle.pattern_core.proofs.meaning.values_of.Goals as goal

pub eval_nodes-requires-clause-inputs : goal.eval_nodes-requires-clause-inputs
eval_nodes-requires-clause-inputs c =
    let fit =
    AreSubterms-fit c.args.terms.now c.args.results.now c.in_ok-nodes.nodes.items c.in_ok-nodes.ensures.exact
    c.args.env.now.values c.requires.inputs in
    subst (All (λ (at : TermId). InputsFit c.args.env.now.values (term_at c.args.terms.now at)))
    (sym c.deref.ensures.value) fit

pub returns : goal.returns
returns c =
    let values =
    subst (All (IsValued c.args.terms.now c.args.env.now.values c.eval_nodes.new.room)) c.deref.ensures.value
    c.eval_nodes.ensures.values in
    IfOk-weaker c.values_at.result _ _ (λ v is. is
    ∙ values-stand c.args.terms.now c.args.env.now.values c.eval_nodes.new.room c.in_ok-nodes.nodes.items
    c.args.results.now values c.in_ok-nodes.ensures.results) c.values_at.ensures
