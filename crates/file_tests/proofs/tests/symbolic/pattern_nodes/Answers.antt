use Rattle.file_tests.proofs.tests.symbolic.pattern_nodes.Goals as goal

-- What the check answered is the condition that the call asks for.
pub as_terms-requires-clause-well_formed : goal.as_terms-requires-clause-well_formed
as_terms-requires-clause-well_formed c = λ g h. (c.is_well_formed.ensures g h).0 c.if-not-is_well_formed.false
