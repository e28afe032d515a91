use Rattle.std.proofs.Common.{take, All}
use Rattle.pattern_core.specs.declared.pattern.Node.{Node}
use Rattle.pattern_core.specs.Pattern.{IsAmong}
use Rattle.pattern_core.proofs.well_formed.is_used.Given as goal

abbrev pub invariant-loop-other : goal.invariant-loop-other
invariant-loop-other l = All (λ (n : Node). ¬ IsAmong l.node n.args) (take l.other-index l.other-items)
