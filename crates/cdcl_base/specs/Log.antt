-- The log of a search, and the clauses that it keeps.
use Rattle.std.specs.Prelude.{◌≡◌, List, Some}
use Rattle.cnf_core.specs.declared.clause.Clause.{Clause}
use Rattle.cnf_core.specs.declared.log.Chain.{Chain}
use Rattle.cnf_core.specs.Clause.{AllSame}
use Rattle.cnf_core.specs.Resolution.{with_chains, AreNewClauses}

-- the clauses are those that were given and those of the chains, as sets, and each chain says something new
pub record IsLogOf (given : List Clause) (chains : List Chain) (clauses : List Clause) : Type 0 where
  pub all : List Clause
  pub resolve : with_chains given chains ≡ Some all
  pub same : AllSame all clauses
  pub new_clauses : AreNewClauses given chains
