use Rattle.bit_blast.specs.Words.{Widens}
use Rattle.bit_blast.specs.Operations.{IsBitOfInput, IsInputWord}
use Rattle.bit_blast.proofs.word.input_word.Given as goal

-- the bits so far
abbrev pub invariant-loop-bit : goal.invariant-loop-bit
invariant-loop-bit l = record {
  widens : Widens (IsBitOfInput l.number l.width) l.fn.circuit l.circuit;
  word : IsInputWord l.circuit l.number l.bit l.word;
}
