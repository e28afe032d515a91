-- The formula of a claim: its values that make it true stand for the patterns that are searched for.
use Rattle.std.specs.Prelude.{List, All, Contains}
use Rattle.bv_terms.specs.declared.value.Value.{Value}
use Rattle.bv_terms.specs.Table.{Table, term_at}
use Rattle.bv_terms.specs.WellSorted.{InputsFit}
use Rattle.pattern_core.specs.Claim.{Claim, IsPatternOf, Agrees}
use Rattle.pattern_core.specs.Walk.{IsCanonical}
use Rattle.pattern_core.specs.declared.pattern.Example.{Example}
use Rattle.pattern_core.specs.declared.pattern.Pattern.{Pattern}
use Rattle.loc_encode.specs.declared.encoded.Encoded.{Encoded}
use Rattle.loc_encode.specs.Standing.{Fits, StandsFor}
use Rattle.loc_encode.specs.Parts.{IsTruthOver, IsTrueAt}

-- a pattern of the claim that agrees with the goal at all examples and is none of the blocked ones
pub record IsSought (c : Claim) (e : Encoded) (p : Pattern) : Type 0 where
  pub pattern : IsPatternOf c p
  pub agrees : All (λ (x : Example). Agrees c p x.inputs) e.examples
  pub unblocked : ¬ Contains e.blocked p

-- the formula is right over the table: what makes it true stands for a pattern that is sought, and what stands for a
-- canonical one makes it true
pub record IsRight (c : Claim) (e : Encoded) (table : Table) : Type 0 where
  pub over : IsTruthOver c table e.formula
  pub fits : (env : List Value) → InputsFit env (term_at table e.formula) → Fits c env
  pub sound : (env : List Value) → InputsFit env (term_at table e.formula) → IsTrueAt table e.formula env
      → (p : Pattern) × IsSought c e p × StandsFor c env p
  pub complete : (env : List Value) (p : Pattern) → IsSought c e p → IsCanonical p → StandsFor c env p
      → IsTrueAt table e.formula env
