use Rattle.std.proofs.Common.{◌≡◌, drop}
use Rattle.pattern_core.specs.Hopeless.{is_among}
use Rattle.pattern_core.proofs.feasibility.is_among.Given as goal

abbrev pub invariant-loop-other : goal.invariant-loop-other
invariant-loop-other l =
    is_among (drop l.other-index l.sorts) l.sort ≡ is_among l.sorts l.sort
