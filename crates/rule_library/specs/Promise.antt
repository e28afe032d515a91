-- What an answer promises of the rules of a goal, where claims may be open since a budget was spent on them.
-- Rules, and the smallest first: Buchwald, Fried, Hack, CGO 2018.
use Rattle.std.specs.Prelude.{◌≡◌, ◌≢◌, ℕ, ◌<◌, ◌≤◌, List, [], length, All, IsTrue}
use Rattle.isel_spec.specs.File.{File, Goal}
use Rattle.multiset_rank.specs.Multisets.{never_falls, AreBelow}
use Rattle.pattern_core.specs.declared.pattern.GoalAnswer.{GoalAnswer}
use Rattle.pattern_core.specs.declared.pattern.GoalAnswer.TheVariants as answer
use Rattle.pattern_core.specs.declared.pattern.Pattern.{Pattern}
use Rattle.pattern_core.specs.Library.{IsAnswer, IsRight}
use Rattle.plain_search.specs.Trials.{trials_of}
use Rattle.claim_outcome.specs.declared.record.Record.{Record}
use Rattle.claim_outcome.specs.Record.{IsRecord}
use Rattle.claim_outcome.specs.Units.{units_of}

-- a claim of the goal within the bound, on which the whole budget was spent: so a right record tells, and trying its
-- patterns and inputs one by one costs more
pub record IsUndecided (f : File) (g : Goal) (bound budget : ℕ) (ops : List ℕ) : Type 0 where
  pub within : length ops ≤ bound
  pub below : AreBelow (length f.ops) ops
  pub order : IsTrue (never_falls ops)
  pub found : List Pattern
  pub spent_on : Record
  pub right : IsRecord (record { file = f; goal = g; ops = ops }) found spent_on
  pub spent : units_of spent_on ≡ budget
  pub short : budget < trials_of f g ops

-- the same, of at most so many operations
pub record IsUndecidedTo (f : File) (g : Goal) (bound budget size : ℕ) (ops : List ℕ) : Type 0 where
  pub undecided : IsUndecided f g bound budget ops
  pub at_most : length ops ≤ size

-- every listed pattern is a rule; where no claim is listed as open, these are all rules of the least size, or there are
-- none within the bound; where one is, the budget was spent on it
abbrev pub IsPromised : File → ℕ → ℕ → Goal → GoalAnswer → Type 0
IsPromised f bound budget g (answer.Complete size rules) = IsAnswer f g bound (answer.Complete size rules)
IsPromised f bound budget g (answer.Partial size rules undecided) =
    (rules ≢ []) × All (IsRight f g bound size) rules × (undecided ≢ [])
    × All (IsUndecidedTo f g bound budget size) undecided
IsPromised f bound budget g answer.None = IsAnswer f g bound answer.None
IsPromised f bound budget g (answer.Stopped undecided) =
    (undecided ≢ []) × All (IsUndecided f g bound budget) undecided

-- where a budget is at least the trials of each claim of a goal, no claim is open, and the answer is the library
abbrev pub EnoughBudgetDecides : Type 0
EnoughBudgetDecides =
    (f : File) (bound budget : ℕ) (g : Goal) (a : GoalAnswer)
    → ((ops : List ℕ) → length ops ≤ bound → trials_of f g ops ≤ budget) → IsPromised f bound budget g a
    → IsAnswer f g bound a
