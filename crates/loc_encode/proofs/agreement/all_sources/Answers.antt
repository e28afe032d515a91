use Rattle.std.proofs.Common.{◌∙◌, ap, map}
use Rattle.isel_spec.specs.Spec.{file}
use Rattle.loc_encode.specs.Lines.{sourced, with_line}
use Rattle.loc_encode.proofs.AgreementLemmas.{few-inputs, inputs-fit, plain-inputs, plain-kinds, have-same}
use Rattle.loc_encode.proofs.AgreementLemmas.{AreLines-start, AreLines-more, AreLines-end}
use Rattle.loc_encode.proofs.agreement.all_sources.Goals as goal

pub input_sources-requires-clause-few : goal.input_sources-requires-clause-few
input_sources-requires-clause-few c =
    few-inputs c.args.spec.now c.args.goal c.goal-definition.ensures.0 c.goal-definition.result.now
    c.as_slice-args.result.now c.goal-definition.ensures.1 c.as_slice-args.ensures

pub input_sources-requires-clause-sorted : goal.input_sources-requires-clause-sorted
input_sources-requires-clause-sorted c =
    inputs-fit c.args.spec.now c.args.goal c.args.ops.now c.goal-definition.ensures.0 c.goal-definition.result.now
    c.as_slice-args.result.now c.args.inputs.now c.requires.given c.goal-definition.ensures.1 c.as_slice-args.ensures
    c.requires.inputs

pub input_sources-requires-clause-plain : goal.input_sources-requires-clause-plain
input_sources-requires-clause-plain c =
    plain-inputs c.args.spec.now c.args.goal c.args.ops.now c.goal-definition.ensures.0 c.goal-definition.result.now
    c.as_slice-args.result.now c.requires.given c.goal-definition.ensures.1 c.as_slice-args.ensures

pub loop-line-init : goal.loop-line-init
loop-line-init c =
    AreLines-start c.args.spec.now c.args.goal c.args.ops.now c.in_ok-kinds.kinds.items c.args.inputs.now
    c.goal-definition.ensures.0 c.goal-definition.result.now c.as_slice-args.result.now c.args.terms.now
    c.input_sources.new.terms c.in_ok-sources.sources.items c.goal-definition.ensures.1 c.as_slice-args.ensures
    c.requires.inputs c.input_sources.ensures.table c.input_sources.ensures.extends c.in_ok-sources.ensures.there
    c.in_ok-sources.ensures.sources

pub add_line-requires-clause-ops : goal.add_line-requires-clause-ops
add_line-requires-clause-ops c =
    plain-kinds c.args.spec.now c.args.goal c.args.ops.now c.in_ok-kinds.kinds.items c.deref.result.now c.requires.given
    c.deref.ensures.value c.in_ok-kinds.ensures

pub loop-line-preserved : goal.loop-line-preserved
loop-line-preserved c =
    let kinds = c.in_ok-kinds.kinds.items in
    let srcs = map (sourced c.loop-line.terms) c.loop-line.sources.items in
    AreLines-more c.args.spec.now c.len.ensures.table c.args.goal c.args.ops.now kinds c.args.inputs.now
    c.args.terms.now c.loop-line.terms c.add_line.new.terms c.loop-line.sources.items c.add_line.new.sources.items
    c.loop-line.line c.requires.given (have-same kinds c.args.ops.now c.in_ok-kinds.ensures) c.requires.pointer
    c.loop-line.invariant c.loop-line-test.true c.add_line.ensures.table c.add_line.ensures.extends
    c.in_ok-add_line.ensures.there
    (c.in_ok-add_line.ensures.sources
    ∙ ap (λ xs. with_line (file c.args.spec.now) xs srcs c.loop-line.line) c.deref.ensures.value)

pub returns-clause-meant : goal.returns-clause-meant
returns-clause-meant c =
    AreLines-end c.args.spec.now c.args.goal c.args.ops.now c.in_ok-kinds.kinds.items c.args.inputs.now
    c.args.terms.now c.loop-line.terms c.loop-line.sources.items c.loop-line.line c.loop-line.invariant
    c.loop-line-test.false
