use Rattle.std.proofs.Common.{◌≡◌, ◌++◌, take}
use Rattle.cdcl_watch.proofs.search.add_all.Given as goal

abbrev pub invariant-loop-clause : goal.invariant-loop-clause
invariant-loop-clause l = l.clauses ≡ l.fn.clauses ++ take l.clause-index l.added
