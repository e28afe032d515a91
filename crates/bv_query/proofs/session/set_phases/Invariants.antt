use Rattle.std.proofs.Common.{◌≡◌}
use Rattle.bv_query.proofs.session.set_phases.Given as goal

abbrev pub invariant-loop-place : goal.invariant-loop-place
invariant-loop-place l = l.solver ≡ l.fn.solver
