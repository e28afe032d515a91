use Rattle.std.proofs.Common.{◌≡◌, ◌++◌, take}
use Rattle.word_circuits.proofs.parts.joined.Given as goal

abbrev pub invariant-loop-place : goal.invariant-loop-place
invariant-loop-place l = l.result ≡ l.low ++ take l.place l.high
