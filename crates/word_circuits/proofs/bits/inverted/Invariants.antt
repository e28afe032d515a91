use Rattle.std.proofs.Common.{drop}
use Rattle.circuit.specs.Gate.{Netlist}
use Rattle.word_circuits.specs.Word.{AreOver}
use Rattle.word_circuits.proofs.LoopLemmas.{IsBegun}
use Rattle.word_circuits.proofs.BitLemmas.{complement}
use Rattle.word_circuits.proofs.bits.inverted.Given as goal

abbrev pub invariant-loop-place : goal.invariant-loop-place
invariant-loop-place l =
    (n : Netlist) → AreOver n l.word
    → IsBegun n l.place (complement (drop l.place l.word)) (complement l.word) l.result
