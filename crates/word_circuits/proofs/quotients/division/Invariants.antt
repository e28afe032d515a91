use Rattle.circuit.specs.Gate.{Grows}
use Rattle.word_circuits.proofs.QuotientLemmas.{IsDivided}
use Rattle.word_circuits.proofs.quotients.division.Given as goal

abbrev pub invariant-loop-place : goal.invariant-loop-place
invariant-loop-place l =
    Grows l.fn.circuit l.circuit × IsDivided l.circuit l.dividend l.divisor l.place l.quotient l.rest

abbrev pub decreases-loop-place : goal.decreases-loop-place
decreases-loop-place l = l.place
