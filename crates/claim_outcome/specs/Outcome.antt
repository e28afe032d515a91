-- Which outcome is right for a claim and a budget.
use Rattle.std.specs.Prelude.{◌≡◌, ℕ, ◌<◌, List, [], All, length}
use Rattle.std.specs.Prelude.{Contains}
use Rattle.pattern_core.specs.declared.pattern.Pattern.{Pattern}
use Rattle.pattern_core.specs.Claim.{Claim, IsPatternOf}
use Rattle.pattern_core.specs.Order.{pattern_cmp, IsRising}
use Rattle.pattern_core.specs.Pattern.{IsWellFormed}
use Rattle.pattern_core.specs.Rule.{IsRule}
use Rattle.pattern_core.specs.Walk.{IsCanonical}
use Rattle.plain_search.specs.Trials.{trials_of}
use Rattle.claim_outcome.specs.declared.outcome.End.{End}
use Rattle.claim_outcome.specs.declared.outcome.End.TheVariants.{Decided, Spent, Skipped, NoMemory}
use Rattle.claim_outcome.specs.declared.outcome.Outcome.{Outcome}
use Rattle.claim_outcome.specs.Record.{IsRecord}
use Rattle.claim_outcome.specs.Units.{units_of}

-- a canonical pattern of the claim that is a rule of its goal
pub record IsRuleOf (c : Claim) (p : Pattern) : Type 0 where
  pub pattern : IsPatternOf c p
  pub canonical : IsCanonical p
  pub rule : IsRule c.file c.goal p

-- every rule of the claim is found; or the whole budget was spent on a right record, and is less than the trials that
-- would decide the claim; or a smaller rule is there, and nothing is listed
abbrev pub IsEnd : Claim → ℕ → List Pattern → End → Type 0
IsEnd c budget found Decided = (p : Pattern) → IsRuleOf c p → Contains found p
IsEnd c budget found (Spent r) =
    IsRecord c found r × (units_of r ≡ budget) × (budget < trials_of c.file c.goal c.ops)
IsEnd c budget found (Skipped size) =
    (found ≡ []) × (size < length c.ops)
    × ((p : Pattern) × IsWellFormed c.file c.goal p × IsRule c.file c.goal p × (length p.nodes ≡ size))
IsEnd c budget found NoMemory = Unit {0}

-- the found patterns are rules of the claim, in order, each once, and the end is right
pub record IsRight (c : Claim) (budget : ℕ) (o : Outcome) : Type 0 where
  pub rules : All (IsRuleOf c) o.found
  pub rising : IsRising pattern_cmp o.found
  pub end : IsEnd c budget o.found o.end
