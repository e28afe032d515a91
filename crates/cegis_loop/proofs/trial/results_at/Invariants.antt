use Rattle.std.proofs.Common.{◌≡◌, Some, map, slice_get, take}
use Rattle.isel_spec.specs.File.{Goal}
use Rattle.isel_spec.specs.Spec.{file}
use Rattle.pattern_core.specs.Evaluation.{IsEvaluationOf}
use Rattle.cegis_loop.specs.Trial.{case_at}
use Rattle.cegis_loop.proofs.trial.results_at.Given as goal

abbrev pub invariant-loop-place : goal.invariant-loop-place
invariant-loop-place l = record {
  evaluation : IsEvaluationOf l.spec l.evaluation;
  so_far : (g : Goal) → slice_get (file l.spec).goals l.goal ≡ Some g
      → l.cases ≡ map (case_at g) (take l.place l.examples);
}
