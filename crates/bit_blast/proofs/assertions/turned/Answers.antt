use Rattle.bit_blast.proofs.assertions.turned.Goals as goal

pub returns-else-holds-clause-over : goal.returns-else-holds-clause-over
returns-else-holds-clause-over c = λ n over. (c.opposite.ensures.over n).1 over
