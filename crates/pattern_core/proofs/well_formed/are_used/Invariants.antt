use Rattle.std.proofs.Common.{ℕ, ◌<◌}
use Rattle.pattern_core.specs.Pattern.{IsUsed}
use Rattle.pattern_core.proofs.well_formed.are_used.Given as goal

abbrev pub invariant-loop-node : goal.invariant-loop-node
invariant-loop-node l = (k : ℕ) → k < l.node → IsUsed l.pattern k
