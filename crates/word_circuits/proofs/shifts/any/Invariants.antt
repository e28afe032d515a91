use Rattle.std.proofs.Common.{nat_lt, drop}
use Rattle.circuit.specs.Gate.{Grows}
use Rattle.word_circuits.specs.Word.{word_number}
use Rattle.word_circuits.proofs.LoopLemmas.{IsCarried}
use Rattle.word_circuits.proofs.ShiftLemmas.{any-left}
use Rattle.word_circuits.proofs.shifts.any.Given as goal

abbrev pub invariant-loop-place : goal.invariant-loop-place
invariant-loop-place l = Grows l.fn.circuit l.circuit
    × IsCarried l.circuit (any-left (drop l.place l.word)) (λ v. nat_lt 0 (word_number v l.word)) l.result
