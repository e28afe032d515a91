use Rattle.std.proofs.Common.{◌≡◌, ◌≤◌, ◌-◌, length}
use Rattle.cdcl_watch.specs.Attach.{IsAttaching}
use Rattle.cdcl_watch.proofs.attach.attach.Given as goal

abbrev pub invariant-loop-trail : goal.invariant-loop-trail
invariant-loop-trail l = record {
  attaching : IsAttaching l.clauses l.pairs.items l.lists l.trail;
  variables : l.trail.variables ≡ l.fn.trail.variables;
  few : length l.pairs.items ≤ length l.clauses;
}

abbrev pub decreases-loop-trail : goal.decreases-loop-trail
decreases-loop-trail l = length l.clauses - length l.pairs.items
