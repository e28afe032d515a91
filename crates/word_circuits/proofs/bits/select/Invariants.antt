use Rattle.std.proofs.Common.{drop}
use Rattle.circuit.specs.Gate.{Grows}
use Rattle.word_circuits.proofs.LoopLemmas.{IsBegun}
use Rattle.word_circuits.proofs.BitLemmas.{selected}
use Rattle.word_circuits.proofs.bits.select.Given as goal

abbrev pub invariant-loop-place : goal.invariant-loop-place
invariant-loop-place l = Grows l.fn.circuit l.circuit × IsBegun l.circuit l.place
    (selected l.condition (drop l.place l.chosen) (drop l.place l.otherwise))
    (selected l.condition l.chosen l.otherwise) l.result
