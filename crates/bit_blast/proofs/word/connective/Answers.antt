use Rattle.bit_blast.proofs.word.connective.Goals as goal

pub or-requires-in-Implies-clause-a : goal.or-requires-in-Implies-clause-a
or-requires-in-Implies-clause-a c = (c.opposite.ensures.over _).1 c.requires.left
