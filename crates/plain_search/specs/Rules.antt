-- The rules of a goal with a multiset of operations, and the sieve that keeps them.
use Rattle.std.specs.Prelude.{◌≡◌, ℕ, ◌<◌, ◌⊎◌, ◌↔◌, List, [], ◌∷◌, ◌++◌, Contains, Some, slice_get, sum_by}
use Rattle.bv_terms.specs.Sorts.{width_of}
use Rattle.bv_terms.specs.Table.{IsTable}
use Rattle.isel_spec.specs.File.{File, Goal}
use Rattle.isel_spec.specs.Spec.{file}
use Rattle.isel_spec.specs.declared.spec.Spec.{Spec}
use Rattle.pattern_core.specs.declared.pattern.Pattern.{Pattern}
use Rattle.pattern_core.specs.Evaluation.{IsEvaluationOf}
use Rattle.pattern_core.specs.Pattern.{IsWellFormed}
use Rattle.pattern_core.specs.Rule.{IsRule, IsPlainRule, TakesNoMemory}
use Rattle.pattern_core.specs.Walk.{IsCanonical}
use Rattle.pattern_core.specs.Order.{pattern_cmp, multiset, IsRising}
use Rattle.plain_search.specs.Agreement.{IsTableOf}
use Rattle.plain_search.specs.declared.rules.RuleSieve.{RuleSieve}

-- the rules of a goal with this multiset of operations, canonical, in order, each once
pub record AreRulesOf (f : File) (g : Goal) (ops : List ℕ) (rules : List Pattern) : Type 0 where
  pub rising : IsRising pattern_cmp rules
  pub members : (p : Pattern)
      → Contains rules p ↔ (IsWellFormed f g p × IsCanonical p × (multiset p.nodes ≡ ops) × IsRule f g p)

-- those with any of these multisets of operations
pub record AreRulesAmong (f : File) (g : Goal) (multis : List (List ℕ)) (rules : List Pattern) : Type 0 where
  pub rising : IsRising pattern_cmp rules
  pub members : (p : Pattern)
      → Contains rules p ↔ (IsWellFormed f g p × IsCanonical p × Contains multis (multiset p.nodes) × IsRule f g p)

-- a goal without memory whose inputs can be counted in 64 bits
pub record IsSmall (g : Goal) : Type 0 where
  pub inputs : sum_by width_of g.args < 64
  pub no_memory : TakesNoMemory g

-- the sieve is for this goal of this file, whose terms make a table
pub record IsSieveFor (s : Spec) (place : ℕ) (sieve : RuleSieve) : Type 0 where
  pub table : IsTable s.terms
  pub spec : sieve.spec.now ≡ s
  pub goal : sieve.goal ≡ place
  pub evaluation : IsEvaluationOf s sieve.evaluation
  pub small : (g : Goal) → slice_get (file s).goals place ≡ Some g → IsSmall g
  pub wanted : IsTableOf s place sieve.wanted

-- the pattern stands last, where it gives the goal's results on all values; else nothing is new
abbrev pub IsKept : File → Goal → Pattern → List Pattern → List Pattern → Type 0
IsKept f g p old new =
    (IsPlainRule f g p × (new ≡ old ++ p ∷ [])) ⊎ ((IsPlainRule f g p → ⊥) × (new ≡ old))

-- what the sieve is after a pattern was taken
pub record Keeps (old : RuleSieve) (p : Pattern) (new : RuleSieve) : Type 0 where
  pub spec : new.spec.now ≡ old.spec.now
  pub goal : new.goal ≡ old.goal
  pub found : (g : Goal) → slice_get (file old.spec.now).goals old.goal ≡ Some g
      → IsKept (file old.spec.now) g p old.found.items new.found.items
