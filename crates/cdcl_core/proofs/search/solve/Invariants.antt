use Rattle.std.proofs.Common.{◌≡◌, ◌+◌, length}
use Rattle.cdcl_base.specs.Trail.{IsTrail}
use Rattle.cdcl_core.specs.Search.{IsReady}
use Rattle.cdcl_base.specs.Log.{IsLogOf}
use Rattle.cdcl_core.proofs.search.solve.Given as goal

abbrev pub invariant-loop-search : goal.invariant-loop-search
invariant-loop-search l =
    IsTrail l.search.trail
    × IsReady l.search
    × (l.search.trail.variables ≡ l.cnf.variables)
    × IsLogOf l.cnf.clauses l.search.log.chains l.search.clauses
    × (length l.search.log.chains + l.fuel ≡ l.initial.fuel)

abbrev pub decreases-loop-search : goal.decreases-loop-search
decreases-loop-search l = l.fuel
