use Rattle.std.proofs.Common.{sym, ◌∙◌}
use Rattle.isel_spec.specs.Spec.{file}
use Rattle.pattern_core.proofs.FitLemmas.{results-of}
use Rattle.std.proofs.lemmas.Bool.{false≢true}
use Rattle.pattern_core.proofs.well_formed.is_well_formed.Goals as goal

pub returns-else-have_result_sorts : goal.returns-else-have_result_sorts
returns-else-have_result_sorts c = λ g h. (
  λ yes. absurd (false≢true (sym c.if-have_result_sorts.false ∙ yes)),
  λ wf. (c.have_result_sorts.ensures g h).1
      (results-of (file c.args.spec.now) g c.args.pattern.now c.as_slice-nodes.result.now c.as_slice-results.result.now
      c.as_slice-nodes.ensures c.as_slice-results.ensures wf),
)
