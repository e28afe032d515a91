use Rattle.std.proofs.Common.{take}
use Rattle.cdcl_core.specs.Propagation.{AreBlockers}
use Rattle.cdcl_core.proofs.search.first_lits.Given as goal

abbrev pub invariant-loop-number : goal.invariant-loop-number
invariant-loop-number l = AreBlockers (take l.number l.clauses) l.blockers.items
