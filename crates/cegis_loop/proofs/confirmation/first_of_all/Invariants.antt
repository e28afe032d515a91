use Rattle.std.proofs.Common.{◌≡◌, Some, slice_get}
use Rattle.isel_spec.specs.File.{Goal}
use Rattle.isel_spec.specs.Spec.{file}
use Rattle.pattern_core.specs.Evaluation.{IsEvaluationOf}
use Rattle.plain_search.proofs.AgreementLemmas.{AgreesBelow}
use Rattle.cegis_loop.proofs.confirmation.first_of_all.Given as goal

abbrev pub invariant-loop-number : goal.invariant-loop-number
invariant-loop-number l = record {
  evaluation : IsEvaluationOf l.spec l.evaluation;
  so_far : (g : Goal) → slice_get (file l.spec).goals l.goal ≡ Some g → AgreesBelow (file l.spec) g l.pattern l.number;
}
