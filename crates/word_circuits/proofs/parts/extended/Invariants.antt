use Rattle.std.proofs.Common.{◌≡◌, ◌++◌, replicate}
use Rattle.word_circuits.proofs.parts.extended.Given as goal

abbrev pub invariant-loop-place : goal.invariant-loop-place
invariant-loop-place l = l.result ≡ l.word ++ replicate l._place l.signal
