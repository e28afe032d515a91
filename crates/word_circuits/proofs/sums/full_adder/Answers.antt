use Rattle.circuit.proofs.GrowthLemmas.{grows-then, signal-grows}
use Rattle.word_circuits.proofs.sums.full_adder.Goals as goal

pub returns-clause-grows : goal.returns-clause-grows
returns-clause-grows c = grows-then c.in_ok-bit.ensures.grows c.in_ok-carry_out.ensures.grows

pub returns-clause-sum : goal.returns-clause-sum
returns-clause-sum c = signal-grows c.in_ok-carry_out.ensures.grows _ _ c.in_ok-bit.ensures.value
