use Rattle.std.proofs.Common.{◌*◌, ◌^◌, ◌%◌, length, take}
use Rattle.circuit.specs.Gate.{Grows}
use Rattle.word_circuits.specs.Word.{word_number, IsWordOf}
use Rattle.word_circuits.proofs.products.product_of.Given as goal

abbrev pub invariant-loop-place : goal.invariant-loop-place
invariant-loop-place l = Grows l.fn.circuit l.circuit × IsWordOf l.circuit (length l.left)
    (λ v. word_number v l.left * word_number v (take l.place l.right) % 2 ^ length l.left) l.result
