use Rattle.std.proofs.Common.{◌-◌}
use Rattle.cdcl_base.specs.Trail.{ExtendsTrail, IsTrail}
use Rattle.cdcl_watch.specs.Watches.{IsWatching}
use Rattle.cdcl_watch.proofs.propagation.propagate.Given as goal

abbrev pub invariant-loop-head : goal.invariant-loop-head
invariant-loop-head l = record {
  trail : IsTrail l.trail;
  extends : ExtendsTrail l.fn.trail l.trail;
  watching : IsWatching l.clauses l.pairs.items l.lists l.trail l.head;
}

abbrev pub decreases-loop-head : goal.decreases-loop-head
decreases-loop-head l = l.trail.variables - l.head
