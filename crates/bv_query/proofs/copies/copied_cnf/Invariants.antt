use Rattle.std.proofs.Common.{◌≡◌, take}
use Rattle.bv_query.proofs.copies.copied_cnf.Given as goal

abbrev pub invariant-loop-clause : goal.invariant-loop-clause
invariant-loop-clause l =
    l.copy ≡ record { variables = l.cnf.variables; clauses = take l.clause-index l.clause-items }
