use Rattle.std.proofs.Common.{◌==◌, take}
use Rattle.circuit.specs.Gate.{Asserts}
use Rattle.word_circuits.specs.Word.{word_number}
use Rattle.bit_blast.proofs.assertions.assert_equal.Given as goal

-- the bits so far are asserted to be equal
abbrev pub invariant-loop-place : goal.invariant-loop-place
invariant-loop-place l = Asserts l.fn.circuit l.circuit
    (λ v. word_number v (take l.place l.left) == word_number v (take l.place l.right))
