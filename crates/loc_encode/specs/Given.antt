-- What the calls of this crate are given: a goal of the file with operations of it, and a table of terms.
use Rattle.std.specs.Prelude.{◌≡◌, ◌<◌, ◌++◌, ℕ, List, All, length, reverse}
use Rattle.bv_terms.specs.Table.{Table}
use Rattle.isel_spec.specs.declared.spec.Spec.{Spec}
use Rattle.pattern_core.specs.Claim.{Claim, IsClaim, IsPatternOf, IsExample}
use Rattle.pattern_core.specs.Rule.{HasNoMemory}
use Rattle.pattern_core.specs.declared.pattern.Example.{Example}
use Rattle.pattern_core.specs.declared.pattern.Pattern.{Pattern}
use Rattle.loc_encode.specs.declared.encoded.Encoded.{Encoded}
use Rattle.loc_encode.specs.Encoded.{IsRight}

-- a goal of the file with operations of it, none with a memory
pub record IsGiven (s : Spec) (goal : ℕ) (ops : List ℕ) : Type 0 where
  pub place : goal < length s.goals
  pub there : All (λ op. op < length s.ops) ops
  pub plain : (c : Claim) → IsClaim s goal ops c → HasNoMemory c.file c.goal

-- the example is one of the goal
abbrev pub IsExampleFor : Spec → ℕ → List ℕ → Example → Type 0
IsExampleFor s goal ops x = (c : Claim) → IsClaim s goal ops c → IsExample c x

-- the pattern is one of the goal with these operations
abbrev pub IsPatternFor : Spec → ℕ → List ℕ → Pattern → Type 0
IsPatternFor s goal ops p = (c : Claim) → IsClaim s goal ops c → IsPatternOf c p

-- the formula is right over the table for its goal and operations
abbrev pub IsRightFor : Spec → Encoded → Table → Type 0
IsRightFor s e table = (c : Claim) → IsClaim s e.goal e.multi c → IsRight c e table

-- a formula of a goal with operations, over inputs with numbers below a bound, with these examples and blocked patterns
pub record Keeps (goal : ℕ) (ops : List ℕ) (inputs : ℕ) (examples : List Example) (blocked : List Pattern) (e : Encoded)
    : Type 0 where
  pub goal_is : e.goal ≡ goal
  pub ops_are : e.multi ≡ ops
  pub inputs_are : e.inputs ≡ inputs
  pub examples_are : e.examples ≡ examples
  pub blocked_are : e.blocked ≡ blocked

-- the formula so far, made of an older one, and the examples that are left, the next one last
pub record IsExtending (s : Spec) (first : Encoded) (examples left : List Example) (now : Encoded) (table : Table)
    : Type 0 where
  pub right : IsRightFor s now table
  pub keeps : (so_far : List Example) × (so_far ++ reverse left ≡ first.examples ++ examples)
      × Keeps first.goal first.multi first.inputs so_far first.blocked now
  pub fit : All (IsExampleFor s first.goal first.multi) left

-- the formula so far, made of an older one, and the patterns that are left, the next one last
pub record IsBlocking (s : Spec) (first : Encoded) (patterns left : List Pattern) (now : Encoded) (table : Table)
    : Type 0 where
  pub right : IsRightFor s now table
  pub keeps : (so_far : List Pattern) × (so_far ++ reverse left ≡ first.blocked ++ patterns)
      × Keeps first.goal first.multi first.inputs first.examples so_far now
  pub fit : All (IsPatternFor s first.goal first.multi) left
