use Rattle.std.proofs.Common.{◌≡◌}
use Rattle.cnf_core.specs.Clause.{IsOver}
use Rattle.clause_tests.proofs.tests.numbers.formula.Given as goal

abbrev pub invariant-loop-number : goal.invariant-loop-number
invariant-loop-number l = (l.cnf.variables ≡ l.variables) × IsOver l.variables l.lits
