use Rattle.std.proofs.Common.{◌≡◌, take}
use Rattle.cdcl_core.proofs.search.packed.Given as goal

abbrev pub invariant-loop-clause : goal.invariant-loop-clause
invariant-loop-clause l = l.packed ≡ take l.clause-index l.clauses
