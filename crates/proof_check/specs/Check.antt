-- Verdicts on logs.
use Rattle.std.specs.Prelude.{◌≡◌, ℕ, Bool, true, false, List, Option, Some, None, All}
use Rattle.cnf_core.specs.declared.clause.Lit.{Lit}
use Rattle.cnf_core.specs.declared.clause.Clause.{Clause}
use Rattle.cnf_core.specs.declared.log.Chain.{Chain}
use Rattle.cnf_core.specs.Clause.{AreSame, IsOver}
use Rattle.cnf_core.specs.Resolution.{derived, IsAccepted, HasNoEmptyClause, IsFirstBad}
use Rattle.proof_check.specs.declared.check.Verdict.{Verdict}
use Rattle.proof_check.specs.declared.check.Verdict.TheVariants.{Refuted, BadStep, NotEmpty}

-- what each verdict says of a list of clauses and a log over it
abbrev pub IsVerdict : List Clause → List Chain → Verdict → Type 0
IsVerdict cs chains Refuted = IsAccepted cs chains
IsVerdict cs chains (BadStep number) = IsFirstBad cs chains number
IsVerdict cs chains NotEmpty = HasNoEmptyClause cs chains

abbrev pub AreOver : ℕ → List Clause → Type 0
AreOver variables cs = All (λ c. IsOver variables c.lits) cs

-- whether there is a clause, and then its literals
abbrev pub Gives : Option (List Lit) → Bool → List Lit → Type 0
Gives o true lits = (c : List Lit) × (o ≡ Some c) × AreSame c lits
Gives o false lits = o ≡ None

-- the clause of a chain, as a set, where it resolves
abbrev pub IsClauseOf : List Clause → Chain → Option Clause → Type 0
IsClauseOf cs chain None = derived cs chain ≡ None
IsClauseOf cs chain (Some d) = (c : List Lit) × (derived cs chain ≡ Some c) × AreSame c d.lits
