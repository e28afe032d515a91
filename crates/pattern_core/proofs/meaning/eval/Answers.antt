use Rattle.std.proofs.Common.{[], sym, subst, map, ap, ◌∙◌}
use Rattle.std.proofs.lemmas.Result.{IfOk-weaker}
use Rattle.bv_terms.specs.Memory.{Plain}
use Rattle.isel_spec.specs.File.{File}
use Rattle.isel_spec.specs.Spec.{file}
use Rattle.pattern_core.specs.Pattern.{AreFitting}
use Rattle.pattern_core.specs.Rule.{source_value, outs_from}
use Rattle.pattern_core.proofs.EvalLemmas.{some_goal}
use Rattle.pattern_core.proofs.ThingLemmas.{pattern-plain, HasSoundTerms-from_spec}
use Rattle.pattern_core.proofs.meaning.eval.Goals as goal

pub all_results-requires-clause-fits : goal.all_results-requires-clause-fits
all_results-requires-clause-fits c = λ g h.
    let wf = c.requires.well_formed g h in
    subst (AreFitting (file c.args.spec.now) g) (sym c.as_slice-nodes.ensures) wf.nodes

pub returns-clause-things : goal.returns-clause-things
returns-clause-things c =
    let f : File = file c.args.spec.now in
    let g = some_goal c.args.spec.now c.args.goal c.requires.there in
    let inputs = c.args.inputs.now in
    let wf = c.requires.well_formed g.0 g.1 in
    let plain =
    pattern-plain f g.0 (HasSoundTerms-from_spec c.args.spec.now c.args.goal g.0 c.len.ensures.table g.1)
    c.args.pattern.now inputs wf.nodes (c.requires.inputs g.0 g.1) in
    let outs =
    c.as_slice.ensures.value ∙ c.in_ok-outs.ensures ∙ ap (outs_from f inputs []) c.as_slice-nodes.ensures in
    IfOk-weaker c.source_values.result _ _
    (λ v is. ap (map Plain) (is ∙ (λ i. map (source_value inputs (outs i)) (c.as_slice-sources.ensures i)))
    ∙ sym plain) c.source_values.ensures
