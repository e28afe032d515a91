use Rattle.std.proofs.Common.{◌≡◌, ◌∷◌, take}
use Rattle.word_circuits.proofs.quotients.with_bit.Given as goal

abbrev pub invariant-loop-place : goal.invariant-loop-place
invariant-loop-place l = l.result ≡ l.fn.bit ∷ take l.place l.word
