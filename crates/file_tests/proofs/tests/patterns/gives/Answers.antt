use Rattle.file_tests.proofs.tests.patterns.gives.Goals as goal

-- What the check answered is the condition that the call asks for.
pub eval-requires-clause-well_formed : goal.eval-requires-clause-well_formed
eval-requires-clause-well_formed c = λ g h. (c.is_well_formed.ensures g h).0 c.if-not-is_well_formed.false
