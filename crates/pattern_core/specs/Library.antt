-- The library of a goal for a bound on size, and what a right answer for the goal is.
-- Smallest patterns first, by multisets of operations of growing size: Buchwald, Fried, Hack, CGO 2018.
use Rattle.std.specs.Prelude.{◌≡◌, ◌≢◌, ℕ, ◌<◌, ◌≤◌, List, [], length, Contains, All, ◌⊎◌, ◌↔◌}
use Rattle.pattern_core.specs.declared.pattern.GoalAnswer.{GoalAnswer}
use Rattle.pattern_core.specs.declared.pattern.GoalAnswer.TheVariants as answer
use Rattle.pattern_core.specs.declared.pattern.Pattern.{Pattern}
use Rattle.isel_spec.specs.File.{File, Goal}
use Rattle.pattern_core.specs.Pattern.{IsWellFormed}
use Rattle.pattern_core.specs.Rule.{IsRule}
use Rattle.pattern_core.specs.Walk.{IsCanonical}
use Rattle.pattern_core.specs.Order.{pattern_cmp, IsRising}

-- no well-formed pattern of at most this size is a rule
pub record HasNoRule (f : File) (g : Goal) (size : ℕ) : Type 0 where
  pub none : (p : Pattern) → IsWellFormed f g p → length p.nodes ≤ size → IsRule f g p → ⊥

-- some is, of this size, and none is smaller
pub record IsLeastSize (f : File) (g : Goal) (size : ℕ) : Type 0 where
  pub pattern : Pattern
  pub well_formed : IsWellFormed f g pattern
  pub rule : IsRule f g pattern
  pub of_size : length pattern.nodes ≡ size
  pub least : (p : Pattern) → IsWellFormed f g p → length p.nodes < size → IsRule f g p → ⊥

-- the canonical rules of this size, in order, each once
pub record AreRules (f : File) (g : Goal) (size : ℕ) (rules : List Pattern) : Type 0 where
  pub rising : IsRising pattern_cmp rules
  pub members : (p : Pattern)
      → Contains rules p ↔ (IsWellFormed f g p × IsCanonical p × (length p.nodes ≡ size) × IsRule f g p)

abbrev pub IsLibrary : File → Goal → ℕ → List Pattern → Type 0
IsLibrary f g bound rules =
    (HasNoRule f g bound × (rules ≡ []))
    ⊎ ((size : ℕ) × (size ≤ bound) × IsLeastSize f g size × AreRules f g size rules)

-- a pattern that a library may list: it gives the goal's results on every input
pub record IsRight (f : File) (g : Goal) (bound size : ℕ) (p : Pattern) : Type 0 where
  pub well_formed : IsWellFormed f g p
  pub canonical : IsCanonical p
  pub of_size : length p.nodes ≡ size
  pub within : size ≤ bound
  pub rule : IsRule f g p

-- right on every input, with none missing: all the patterns of the least size that has one, or there are none within
-- the bound; an answer that leaves something undecided is none of these
abbrev pub IsAnswer : File → Goal → ℕ → GoalAnswer → Type 0
IsAnswer f g bound (answer.Complete size rules) =
    (rules ≢ []) × All (IsRight f g bound size) rules × IsLibrary f g bound rules
IsAnswer f g bound (answer.Partial size rules undecided) = ⊥
IsAnswer f g bound answer.None = IsLibrary f g bound []
IsAnswer f g bound (answer.Stopped undecided) = ⊥
