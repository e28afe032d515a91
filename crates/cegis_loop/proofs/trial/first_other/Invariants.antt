use Rattle.std.proofs.Common.{◌≡◌, ℕ, List, map, take}
use Rattle.pattern_core.specs.declared.pattern.Example.{Example}
use Rattle.pattern_core.specs.Claim.{Claim, IsClaim}
use Rattle.pattern_core.specs.Evaluation.{IsEvaluationOf}
use Rattle.claim_outcome.specs.Record.{AgreesAtAll}
use Rattle.cegis_loop.specs.Trial.{case_at}
use Rattle.cegis_loop.proofs.trial.first_other.Given as goal

abbrev pub invariant-loop-place : goal.invariant-loop-place
invariant-loop-place l = record {
  evaluation : IsEvaluationOf l.spec l.evaluation;
  so_far : (c : Claim) (ops : List ℕ) (xs : List Example) → IsClaim l.spec l.goal ops c
      → l.cases ≡ map (case_at c.goal) xs → AgreesAtAll c (take l.place xs) l.pattern;
}
