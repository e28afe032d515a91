use Rattle.std.proofs.Common.{◌≡◌}
use Rattle.clause_tests.proofs.tests.refutations.seeded.Given as goal

abbrev pub invariant-loop-clause : goal.invariant-loop-clause
invariant-loop-clause l = l.cnf.variables ≡ 6
