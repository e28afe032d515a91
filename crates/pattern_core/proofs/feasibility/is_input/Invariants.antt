use Rattle.std.proofs.Common.{◌≡◌, drop}
use Rattle.pattern_core.specs.Hopeless.{is_among}
use Rattle.isel_spec.specs.File.{sorts_in}
use Rattle.pattern_core.proofs.feasibility.is_input.Given as goal

abbrev pub invariant-loop-arg : goal.invariant-loop-arg
invariant-loop-arg l =
    is_among (sorts_in (drop l.arg-index l.args)) l.sort ≡ is_among (sorts_in l.args) l.sort
