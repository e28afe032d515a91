use Rattle.std.proofs.Common.{length, drop}
use Rattle.circuit.specs.Signal.{IsSignalOver}
use Rattle.circuit.specs.Gate.{Grows}
use Rattle.word_circuits.proofs.LoopLemmas.{IsBegun}
use Rattle.word_circuits.proofs.SumLemmas.{added}
use Rattle.word_circuits.proofs.sums.sum.Given as goal

abbrev pub invariant-loop-place : goal.invariant-loop-place
invariant-loop-place l =
    (Grows l.fn.circuit l.circuit × IsBegun l.circuit l.place
    (added (drop l.place l.left) (drop l.place l.right) l.carry) (added l.left l.right l.fn.carry) l.result)
    × IsSignalOver (length l.circuit.gates) l.carry
