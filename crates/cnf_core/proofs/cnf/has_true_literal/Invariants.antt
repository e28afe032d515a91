use Rattle.std.proofs.Common.{◌≡◌, drop}
use Rattle.cnf_core.specs.Clause.{clause_true, assigned}
use Rattle.cnf_core.proofs.cnf.has_true_literal.Given as goal

abbrev pub invariant-loop-lit : goal.invariant-loop-lit
invariant-loop-lit l =
    clause_true (assigned l.assignment) (drop l.lit-index l.lits) ≡ clause_true (assigned l.assignment) l.lits
