-- What is searched for: the patterns of a goal with a multiset of operations, and the inputs that tell patterns apart.
-- Counterexamples as inputs: Gulwani, Jha, Tiwari, Venkatesan, PLDI 2011; multisets of operations one by one:
-- Buchwald, Fried, Hack, CGO 2018.
-- All inputs are values here, so the words say something of goals that take no memory (`TakesNoMemory` of `Rule`); the
-- calls that use them require it.
use Rattle.std.specs.Prelude.{◌≡◌, ℕ, List, Some, slice_get}
use Rattle.bv_terms.specs.declared.value.Value.{Value}
use Rattle.bv_terms.specs.Sorts.{HaveSorts}
use Rattle.isel_spec.specs.File.{File, Goal}
use Rattle.isel_spec.specs.Spec.{file}
use Rattle.isel_spec.specs.declared.spec.Spec.{Spec}
use Rattle.pattern_core.specs.declared.pattern.Example.{Example}
use Rattle.pattern_core.specs.declared.pattern.Pattern.{Pattern}
use Rattle.pattern_core.specs.Order.{multiset}
use Rattle.pattern_core.specs.Pattern.{IsWellFormed}
use Rattle.pattern_core.specs.Rule.{pattern_results, goal_results}

-- a goal of a file, and the numbers of operations, with repeats, rising
pub record Claim : Type 0 where
  pub file : File
  pub goal : Goal
  pub ops : List ℕ

-- the claim is that of the goal in a place of the file, with these operations
pub record IsClaim (s : Spec) (place : ℕ) (ops : List ℕ) (c : Claim) : Type 0 where
  pub of_file : c.file ≡ file s
  pub of_goal : slice_get (file s).goals place ≡ Some c.goal
  pub of_ops : c.ops ≡ ops

-- a pattern for the goal with these operations, its nodes in any order
pub record IsPatternOf (c : Claim) (p : Pattern) : Type 0 where
  pub well_formed : IsWellFormed c.file c.goal p
  pub ops : multiset p.nodes ≡ c.ops

-- the pattern gives the goal's results at these inputs
abbrev pub Agrees : Claim → Pattern → List Value → Type 0
Agrees c p inputs = pattern_results c.file p inputs ≡ goal_results c.goal inputs

-- a value for each argument of the goal
abbrev pub IsExample : Claim → Example → Type 0
IsExample c x = HaveSorts c.goal.args x.inputs
