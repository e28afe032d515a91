use Rattle.encode_tests.proofs.tests.enumerated.agrees.Goals as goal

-- What the check answered is the condition that the call asks for.
pub eval-requires-clause-well_formed : goal.eval-requires-clause-well_formed
eval-requires-clause-well_formed c = λ g there. (c.is_well_formed.ensures g there).0 c.if-not-is_well_formed.false
