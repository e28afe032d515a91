-- The status of a clause under the true literals.
use Rattle.std.specs.Prelude.{◌≡◌, Bool, true, false, not, List, [], ◌∷◌, Option, Some, None, if◌then◌else◌}
use Rattle.cnf_core.specs.declared.clause.Lit.{Lit}
use Rattle.cnf_core.specs.Clause.{opposite, same_lit, contains}
use Rattle.cdcl_core.specs.declared.propagation.ClauseStatus.{ClauseStatus}
use Rattle.cdcl_core.specs.declared.propagation.ClauseStatus.TheVariants.{Satisfied, Unresolved, Unit, Falsified}
use Rattle.cdcl_base.specs.Trail.{IsUnassigned, IsFalsified, IsUnresolved, Forces}

-- what each status says of the clause
abbrev pub IsStatus : List Lit → List Lit → ClauseStatus → Type 0
IsStatus lits c (Satisfied l) = (contains c l ≡ true) × (contains lits l ≡ true)
IsStatus lits c Unresolved = IsUnresolved lits c
IsStatus lits c (Unit l) = Forces lits c l × IsUnassigned lits l
IsStatus lits c Falsified = IsFalsified lits c

-- whether the literal is another than the one that was not false
abbrev pub differs : Option Lit → Lit → Bool
differs None l = false
differs (Some first) l = not (same_lit first l)

-- the status, where that literal of the clause before was not false
abbrev pub clause_status : List Lit → List Lit → Option Lit → ClauseStatus
clause_status lits [] None = Falsified
clause_status lits [] (Some first) = Unit first
clause_status lits (l ∷ c) only =
    if contains lits l then Satisfied l
    else if contains lits (opposite l) then clause_status lits c only
    else if differs only l then Unresolved
    else clause_status lits c (Some l)
