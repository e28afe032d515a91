use Rattle.std.proofs.Common.{◌≡◌, ◌+◌, drop}
use Rattle.pattern_core.specs.Renaming.{place_of}
use Rattle.pattern_core.proofs.renaming.place_of.Given as goal

abbrev pub invariant-loop-place : goal.invariant-loop-place
invariant-loop-place l = place_of l.order l.number ≡ l.place + place_of (drop l.place l.order) l.number
