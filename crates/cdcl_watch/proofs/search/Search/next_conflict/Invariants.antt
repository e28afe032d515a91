use Rattle.std.proofs.Common.{◌≡◌, ◌-◌, length}
use Rattle.cdcl_watch.specs.Search.{IsReady}
use Rattle.cdcl_watch.proofs.search.Search.next_conflict.Given as goal

abbrev pub invariant-loop-conflict : goal.invariant-loop-conflict
invariant-loop-conflict l = record {
  ready : IsReady l.self;
  variables : l.self.trail.variables ≡ l.fn.self.trail.variables;
  clauses : l.self.clauses ≡ l.fn.self.clauses;
}

abbrev pub decreases-loop-conflict : goal.decreases-loop-conflict
decreases-loop-conflict l = l.self.trail.variables - length l.self.trail.lits
