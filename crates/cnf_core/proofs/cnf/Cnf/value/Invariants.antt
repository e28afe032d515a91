use Rattle.std.proofs.Common.{◌≡◌, drop}
use Rattle.cnf_core.specs.Clause.{is_model, assigned}
use Rattle.cnf_core.proofs.cnf.Cnf.value.Given as goal

abbrev pub invariant-loop-clause : goal.invariant-loop-clause
invariant-loop-clause l =
    is_model (assigned l.assignment) (drop l.clause-index l.clause-items) ≡ is_model (assigned l.assignment)
    l.self.clauses
