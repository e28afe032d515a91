use Rattle.std.proofs.Common.{◌≡◌}
use Rattle.clause_tests.proofs.tests.refutations.agrees_on_the_way.Given as goal

abbrev pub invariant-loop-clause : goal.invariant-loop-clause
invariant-loop-clause l = l.solver.variables ≡ 6
