use Rattle.std.proofs.Common.{◌-◌, length}
use Rattle.cdcl_base.specs.Trail.{ExtendsTrail, IsTrail}
use Rattle.cdcl_watch.specs.Watches.{IsVisiting}
use Rattle.cdcl_watch.proofs.propagation.propagate_head.Given as goal

abbrev pub invariant-loop-cursor : goal.invariant-loop-cursor
invariant-loop-cursor l = record {
  trail : IsTrail l.trail;
  extends : ExtendsTrail l.fn.trail l.trail;
  visiting : IsVisiting l.clauses l.pairs.items l.lists l.trail l.head l.untrue l.list.items l.cursor;
}

abbrev pub decreases-loop-cursor : goal.decreases-loop-cursor
decreases-loop-cursor l = length l.list.items - l.cursor
