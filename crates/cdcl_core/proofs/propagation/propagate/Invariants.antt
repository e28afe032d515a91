use Rattle.std.proofs.Common.{◌-◌, length}
use Rattle.cdcl_base.specs.Trail.{ExtendsTrail, AreReasons}
use Rattle.cdcl_core.specs.Propagation.{AreBlockers}
use Rattle.cdcl_core.proofs.propagation.propagate.Given as goal

abbrev pub invariant-loop-number : goal.invariant-loop-number
invariant-loop-number l =
    record {
      extends : ExtendsTrail l.fn.trail l.trail;
      reasons : AreReasons l.clauses l.trail;
      blockers : AreBlockers l.clauses l.blockers.items;
    }

abbrev pub decreases-loop-number : goal.decreases-loop-number
decreases-loop-number l = l.trail.variables - length l.trail.lits
