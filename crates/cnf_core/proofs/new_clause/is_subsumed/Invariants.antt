use Rattle.std.proofs.Common.{◌≡◌, drop}
use Rattle.cnf_core.specs.Clause.{is_subsumed}
use Rattle.cnf_core.proofs.new_clause.is_subsumed.Given as goal

abbrev pub invariant-loop-clause : goal.invariant-loop-clause
invariant-loop-clause l = is_subsumed (drop l.clause-index l.clauses) l.lits ≡ is_subsumed l.clauses l.lits
