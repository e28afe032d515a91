use Rattle.std.proofs.Common.{◌≢◌, [], take, All}
use Rattle.cnf_core.specs.declared.clause.Clause.{Clause}
use Rattle.cdcl_watch.proofs.solver.has_empty.Given as goal

abbrev pub invariant-loop-clause : goal.invariant-loop-clause
invariant-loop-clause l = All (λ (c : Clause). c.lits ≢ []) (take l.clause-index l.clauses)
