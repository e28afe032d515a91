-- What an answer says of a formula and of the fuel.
use Rattle.std.specs.Prelude.{◌≡◌, ℕ, ◌+◌, true, List, length}
use Rattle.cnf_core.specs.declared.clause.Clause.{Clause}
use Rattle.cnf_core.specs.declared.log.Chain.{Chain}
use Rattle.cnf_core.specs.Clause.{assigned, is_model}
use Rattle.cnf_core.specs.Formula.{Formula, IsFormula}
use Rattle.cnf_core.specs.Resolution.{IsAccepted, AreNewClauses, HasNoEmptyClause}
use Rattle.cdcl_base.specs.Log.{IsLogOf}
use Rattle.cdcl_base.specs.declared.answer.Answer.{Answer}
use Rattle.cdcl_base.specs.declared.answer.Answer.TheVariants.{Model, Refuted, Spent}

-- a model of the formula, a log that refutes it, or one on which all fuel was spent; a chain costs a unit
abbrev pub IsAnswer : Formula → ℕ → ℕ → Answer → Type 0
IsAnswer f old new (Model values) = (length values ≡ f.variables) × (is_model (assigned values) f.clauses ≡ true)
IsAnswer f old new (Refuted log) =
    IsAccepted f.clauses log.chains × AreNewClauses f.clauses log.chains × (length log.chains + new ≡ old)
IsAnswer f old new (Spent log) =
    HasNoEmptyClause f.clauses log.chains × AreNewClauses f.clauses log.chains × (length log.chains + new ≡ old)
    × (new ≡ 0)

-- an answer for each formula from whose clauses these chains led to the clauses that there are now
abbrev pub IsAnswerTo : ℕ → List Chain → List Clause → ℕ → ℕ → Answer → Type 0
IsAnswerTo variables chains cs before after a =
    (f : Formula) (units : ℕ) → f.variables ≡ variables → IsFormula f → IsLogOf f.clauses chains cs →
    length chains + before ≡ units → IsAnswer f units after a
