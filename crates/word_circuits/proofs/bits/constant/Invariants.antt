use Rattle.circuit.specs.Gate.{Netlist}
use Rattle.word_circuits.proofs.LoopLemmas.{IsBegun}
use Rattle.word_circuits.proofs.bits.constant.Given as goal

abbrev pub invariant-loop-place : goal.invariant-loop-place
invariant-loop-place l = (n : Netlist) → IsBegun n l._place (λ v. l.rest) (λ v. l.number) l.word
