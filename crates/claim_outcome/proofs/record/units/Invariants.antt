use Rattle.std.proofs.Common.{◌≡◌, ◌^◌, ◌-◌, ◌+◌, min, take, length}
use Rattle.claim_outcome.specs.Units.{chains_of}
use Rattle.claim_outcome.proofs.record.units.Given as goal

abbrev pub invariant-loop-call : goal.invariant-loop-call
invariant-loop-call l =
    l.units ≡ min (length l.kept.candidates + chains_of (take l.call-index l.kept.calls)) (2 ^ 64 - 1)
