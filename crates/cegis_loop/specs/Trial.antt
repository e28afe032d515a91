-- Inputs at which patterns are tried before a solver is asked. Execution tests before proofs: S. Bansal, A. Aiken,
-- Automatic generation of peephole superoptimizers, ASPLOS 2006.
use Rattle.std.specs.Prelude.{◌≡◌, ℕ, List, map, take, Option, Some, None, slice_get, All}
use Rattle.bv_terms.specs.Sorts.{HaveSorts}
use Rattle.isel_spec.specs.File.{Goal}
use Rattle.isel_spec.specs.Spec.{file}
use Rattle.isel_spec.specs.declared.spec.Spec.{Spec}
use Rattle.pattern_core.specs.declared.pattern.Example.{Example}
use Rattle.pattern_core.specs.declared.pattern.Pattern.{Pattern}
use Rattle.pattern_core.specs.Claim.{Claim, Agrees}
use Rattle.pattern_core.specs.Evaluation.{IsEvaluationOf}
use Rattle.pattern_core.specs.Rule.{goal_results}
use Rattle.claim_outcome.specs.Record.{AgreesAtAll}
use Rattle.cegis_loop.specs.declared.trial.TestCase.{TestCase}
use Rattle.cegis_loop.specs.declared.trial.TestCases.{TestCases}

-- the goal's results at an example
abbrev pub case_at : Goal → Example → TestCase
case_at g x = record { inputs = x.inputs; results = goal_results g x.inputs }

-- the cases are the results of the goal in a place of the file at these examples, which are of its arguments' sorts
pub record AreCasesOf (s : Spec) (place : ℕ) (xs : List Example) (t : TestCases) : Type 0 where
  pub evaluation : IsEvaluationOf s t.evaluation
  pub sorts : (g : Goal) → slice_get (file s).goals place ≡ Some g
      → All (λ (x : Example). HaveSorts g.args x.inputs) xs
  pub cases : (g : Goal) → slice_get (file s).goals place ≡ Some g → t.cases ≡ map (case_at g) xs

-- the pattern differs from the goal at an example, and agrees at all before it
pub record IsFirstDifference (c : Claim) (p : Pattern) (xs : List Example) (x : Example) : Type 0 where
  pub place : ℕ
  pub stands : slice_get xs place ≡ Some x
  pub before : AgreesAtAll c (take place xs) p
  pub differs : ¬ Agrees c p x.inputs

-- the first example at which the pattern differs, where there is one
abbrev pub IsTriedAt : Claim → Pattern → List Example → Option Example → Type 0
IsTriedAt c p xs None = AgreesAtAll c xs p
IsTriedAt c p xs (Some x) = IsFirstDifference c p xs x
