use Rattle.bit_blast.specs.Blast.{IsRight}
use Rattle.blast_tests.proofs.tests.blasters.with_formulas.Given as goal

abbrev pub invariant-loop-formula : goal.invariant-loop-formula
invariant-loop-formula l = IsRight l.blaster l.terms
