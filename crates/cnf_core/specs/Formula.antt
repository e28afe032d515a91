-- A formula in conjunctive normal form, as contracts see it.
use Rattle.std.specs.Prelude.{ℕ, List, All}
use Rattle.cnf_core.specs.declared.clause.Clause.{Clause}
use Rattle.cnf_core.specs.Clause.{IsOver}

-- the number of variables, and the clauses in order
pub record Formula : Type 0 where
  pub variables : ℕ
  pub clauses : List Clause

-- every variable of a clause is there
abbrev pub IsFormula : Formula → Type 0
IsFormula f = All (λ c. IsOver f.variables c.lits) f.clauses
