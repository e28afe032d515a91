use Rattle.std.proofs.Common.{◌≡◌, ◌+◌, length}
use Rattle.cdcl_base.specs.Log.{IsLogOf}
use Rattle.cdcl_watch.specs.Search.{IsReady}
use Rattle.cdcl_watch.proofs.search.Search.run.Given as goal

abbrev pub invariant-loop-log : goal.invariant-loop-log
invariant-loop-log l = record {
  ready : IsReady l.self;
  variables : l.self.trail.variables ≡ l.cnf.variables;
  log : IsLogOf l.cnf.clauses l.log.chains l.self.clauses;
  count : length l.log.chains + l.fuel ≡ l.fn.fuel;
}

abbrev pub decreases-loop-log : goal.decreases-loop-log
decreases-loop-log l = l.fuel
