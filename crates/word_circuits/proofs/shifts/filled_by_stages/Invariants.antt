use Rattle.std.proofs.Common.{length, take}
use Rattle.circuit.specs.Signal.{signal_true}
use Rattle.circuit.specs.Gate.{Grows}
use Rattle.word_circuits.specs.Word.{word_number, IsWordOf, shifted_with}
use Rattle.word_circuits.proofs.shifts.filled_by_stages.Given as goal

abbrev pub invariant-loop-stage : goal.invariant-loop-stage
invariant-loop-stage l = Grows l.fn.circuit l.circuit × IsWordOf l.circuit (length l.word)
    (λ v. shifted_with (length l.word) (word_number v l.word) (word_number v (take l.stage l.amount))
    (signal_true v l.fill)) l.result
