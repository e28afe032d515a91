use Rattle.std.proofs.Common.{take, All}
use Rattle.pattern_core.specs.Pattern.{IsOf}
use Rattle.pattern_core.proofs.well_formed.is_among.Given as goal

abbrev pub invariant-loop-source : goal.invariant-loop-source
invariant-loop-source l = All (λ s. ¬ IsOf l.node s) (take l.source-index l.sources)
