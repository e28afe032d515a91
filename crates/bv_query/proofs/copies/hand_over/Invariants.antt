use Rattle.std.proofs.Common.{◌≡◌, take}
use Rattle.bv_query.proofs.copies.hand_over.Given as goal

abbrev pub invariant-loop-number : goal.invariant-loop-number
invariant-loop-number l = l.solver ≡ record { variables = l.cnf.variables; clauses = take l.number l.clauses }
