use Rattle.std.proofs.Common.{drop, ◌==◌}
use Rattle.circuit.specs.Gate.{Grows}
use Rattle.word_circuits.specs.Word.{word_number}
use Rattle.word_circuits.proofs.LoopLemmas.{IsCarried}
use Rattle.word_circuits.proofs.BitLemmas.{equal-left}
use Rattle.word_circuits.proofs.bits.equal.Given as goal

abbrev pub invariant-loop-place : goal.invariant-loop-place
invariant-loop-place l = Grows l.fn.circuit l.circuit × IsCarried l.circuit
    (equal-left (drop l.place l.left) (drop l.place l.right))
    (λ v. word_number v l.left == word_number v l.right) l.result
