use Rattle.std.proofs.Common.{◌-◌, ◌≤◌}
use Rattle.cdcl_base.specs.Analysis.{AreUnmarked}
use Rattle.cdcl_base.proofs.analysis.last_marked.Given as goal

abbrev pub invariant-loop-place : goal.invariant-loop-place
invariant-loop-place l = AreUnmarked l.marks l.lits l.place l.to × (l.place ≤ l.to)

abbrev pub decreases-loop-place : goal.decreases-loop-place
decreases-loop-place l = l.place - l.from
