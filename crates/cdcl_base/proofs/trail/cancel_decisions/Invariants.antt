use Rattle.std.proofs.Common.{◌<◌, ◌≤◌, length, get_or}
use Rattle.cdcl_base.proofs.trail.cancel_decisions.Given as goal

abbrev pub invariant-loop-count : goal.invariant-loop-count
invariant-loop-count l =
    record { within : l.count < length l.level_starts.items; later : l.keep ≤ get_or l.level_starts.items l.count 0 }

abbrev pub decreases-loop-count : goal.decreases-loop-count
decreases-loop-count l = l.count
