use Rattle.std.proofs.Common.{◌*◌, ◌^◌, ◌%◌, length, take}
use Rattle.circuit.specs.Gate.{Grows}
use Rattle.word_circuits.specs.Word.{word_number, IsWordOf}
use Rattle.word_circuits.proofs.shifts.moved_by_stages.Given as goal

abbrev pub invariant-loop-stage : goal.invariant-loop-stage
invariant-loop-stage l = Grows l.fn.circuit l.circuit × IsWordOf l.circuit (length l.word)
    (λ v. word_number v l.word * 2 ^ word_number v (take l.stage l.amount) % 2 ^ length l.word) l.result
