use Rattle.std.proofs.Common.{◌≡◌, ◌<◌, drop}
use Rattle.pattern_core.specs.declared.known.TheConstants.{MOST_NUMBERS}
use Rattle.pattern_core.specs.Known.{number_of}
use Rattle.pattern_core.proofs.known.number_of.Given as goal

abbrev pub invariant-loop-place : goal.invariant-loop-place
invariant-loop-place l = (l.number ≡ number_of (drop l.place l.values)) × (l.number < MOST_NUMBERS)
