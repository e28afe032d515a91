use Rattle.circuit.proofs.GrowthLemmas.{grows-itself}
use Rattle.word_circuits.proofs.LoopLemmas.{ok-anyway}
use Rattle.word_circuits.proofs.products.added_row.Goals as goal

pub returns-in-Zero-clause-grows : goal.returns-in-Zero-clause-grows
returns-in-Zero-clause-grows c = ok-anyway c.copied.result (grows-itself c.requires.netlist)
