use Rattle.std.proofs.Common.{◌≡◌, ◌-◌, length}
use Rattle.cdcl_base.specs.Trail.{IsTrail, AreReasons, ArePropagatedBefore}
use Rattle.cdcl_core.specs.Propagation.{AreBlockers}
use Rattle.cdcl_core.proofs.search.next_conflict.Given as goal

abbrev pub invariant-loop-conflict : goal.invariant-loop-conflict
invariant-loop-conflict l =
    IsTrail l.trail
    × (l.trail.variables ≡ l.initial.trail.variables)
    × AreReasons l.clauses l.trail
    × ArePropagatedBefore l.clauses l.trail
    × AreBlockers l.clauses l.blockers.items

abbrev pub decreases-loop-conflict : goal.decreases-loop-conflict
decreases-loop-conflict l = l.trail.variables - length l.trail.lits
