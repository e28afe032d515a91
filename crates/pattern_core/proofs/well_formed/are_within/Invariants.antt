use Rattle.std.proofs.Common.{◌<◌, ◌^◌, take}
use Rattle.pattern_core.specs.Pattern.{Pairwise}
use Rattle.pattern_core.proofs.well_formed.are_within.Given as goal

abbrev pub invariant-loop-place : goal.invariant-loop-place
invariant-loop-place l = Pairwise (λ w a. a < 2 ^ w) (take l.place l.widths) (take l.place l.numbers)
