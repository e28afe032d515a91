-- What the answer to the question says whether a pattern is a rule of its goal. Two programs over the same inputs that
-- differ somewhere, as one formula: D. Brand, Verification of large synthesized designs, ICCAD 1993 ("miter").
use Rattle.std.specs.Prelude.{◌≡◌, ◌↔◌, ◌^◌, ◌<◌, ℕ, [], ◌∷◌, Option, Some, None, length, sum_by, Bool, IsTrue}
use Rattle.bv_terms.specs.Sorts.{HaveSorts, width_of}
use Rattle.cnf_core.specs.Clause.{is_model}
use Rattle.cnf_core.specs.Resolution.{AreNewClauses}
use Rattle.bv_query.specs.declared.decision.Decision.{Decision}
use Rattle.bv_query.specs.declared.decision.Decision.TheVariants as answer
use Rattle.isel_spec.specs.File.{File, Goal}
use Rattle.pattern_core.specs.declared.pattern.Example.{Example}
use Rattle.pattern_core.specs.declared.pattern.Pattern.{Pattern}
use Rattle.pattern_core.specs.Claim.{Claim, Agrees, IsExample}
use Rattle.pattern_core.specs.Rule.{IsRule, IsPlainRule, pattern_results, goal_results}
use Rattle.plain_search.specs.Agreement.{AgreesAt}
use Rattle.plain_search.specs.Inputs.{inputs_numbered}
use Rattle.cegis_loop.specs.declared.answer.Tried.{Tried}
use Rattle.cegis_loop.specs.declared.answer.Confirm.{Confirm}
use Rattle.cegis_loop.specs.declared.answer.Confirm.TheVariants.{Rule, Differs, Spent}

-- the clauses of a call have a model
abbrev pub HasModel : Tried → Type 0
HasModel t = (v : ℕ → Bool) × IsTrue (is_model v t.blasted.cnf.clauses)

-- a call on which so many units were spent: its clauses say that the pattern differs somewhere, and there is a chain
-- for each unit, which says something new
pub record IsCall (c : Claim) (p : Pattern) (units : ℕ) (t : Tried) : Type 0 where
  pub models : HasModel t ↔ ¬ IsRule c.file c.goal p
  pub new : AreNewClauses t.blasted.cnf.clauses t.log.chains
  pub count : length t.log.chains ≡ units

-- what a solver's answer says of a pattern, where so many units of fuel were there and so many are left
abbrev pub IsAsked : Claim → Pattern → ℕ → ℕ → Decision → Type 0
IsAsked c p old new (answer.Yes env) = HaveSorts c.goal.args env.values × ¬ Agrees c p env.values
IsAsked c p old new (answer.No refutation) = IsRule c.file c.goal p
IsAsked c p old new (answer.Spent blasted log) =
    (new ≡ 0) × IsCall c p old (record { blasted = blasted; log = log })

-- the inputs under a number, where the pattern differs there
abbrev pub IsFoundAt : File → Goal → Pattern → ℕ → Option Example → Type 0
IsFoundAt f g p number None = AgreesAt f g p number
IsFoundAt f g p number (Some x) = (x.inputs ≡ inputs_numbered g.args number) × ¬ AgreesAt f g p number

-- inputs at which the pattern differs, where there are some
abbrev pub IsFoundAmongAll : File → Goal → Pattern → Option Example → Type 0
IsFoundAmongAll f g p None = IsPlainRule f g p
IsFoundAmongAll f g p (Some x) =
    HaveSorts g.args x.inputs × ¬ (pattern_results f p x.inputs ≡ goal_results g x.inputs)

-- the answer for a pattern of a claim, where so many units of fuel were there and so many are left: it is a rule, or it
-- differs at this example; or no fuel is left, one call is kept, and the goal has more inputs than there were units
abbrev pub IsAnswer : Claim → Pattern → ℕ → ℕ → Confirm → Type 0
IsAnswer c p old new Rule = IsRule c.file c.goal p
IsAnswer c p old new (Differs x) = IsExample c x × ¬ Agrees c p x.inputs
IsAnswer c p old new (Spent calls) =
    (new ≡ 0) × (old < 2 ^ sum_by width_of c.goal.args) × ((t : Tried) × (calls ≡ t ∷ []) × IsCall c p old t)
