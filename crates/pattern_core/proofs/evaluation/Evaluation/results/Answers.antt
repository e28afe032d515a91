use Rattle.std.proofs.Common.{sym, subst}
use Rattle.isel_spec.specs.Spec.{file}
use Rattle.pattern_core.specs.Pattern.{AreFitting}
use Rattle.pattern_core.proofs.evaluation.Evaluation.results.Goals as goal

pub all_results-requires-clause-fits : goal.all_results-requires-clause-fits
all_results-requires-clause-fits c = λ g h.
    let wf = c.requires.well_formed g h in
    subst (AreFitting (file c.args.spec.now) g) (sym c.as_slice-nodes.ensures) wf.nodes
