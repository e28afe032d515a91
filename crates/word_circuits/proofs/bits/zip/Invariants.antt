use Rattle.std.proofs.Common.{drop}
use Rattle.circuit.specs.Gate.{Grows}
use Rattle.word_circuits.proofs.LoopLemmas.{IsBegun}
use Rattle.word_circuits.proofs.BitLemmas.{zipped}
use Rattle.word_circuits.proofs.bits.zip.Given as goal

abbrev pub invariant-loop-place : goal.invariant-loop-place
invariant-loop-place l = Grows l.fn.circuit l.circuit × IsBegun l.circuit l.place
    (zipped l.function (drop l.place l.left) (drop l.place l.right)) (zipped l.function l.left l.right) l.result
