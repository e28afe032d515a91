use Rattle.circuit.specs.Gate.{Grows}
use Rattle.word_circuits.proofs.ProductLemmas.{IsPartial}
use Rattle.word_circuits.proofs.products.product_with.Given as goal

abbrev pub invariant-loop-place : goal.invariant-loop-place
invariant-loop-place l =
    Grows l.fn.circuit l.circuit × IsPartial l.circuit l.word l.number l.place l.rest l.result
