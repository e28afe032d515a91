use Rattle.query_tests.proofs.tests.sessions.with_formula.Goals as goal

pub assert-requires-clause-one_sort : goal.assert-requires-clause-one_sort
assert-requires-clause-one_sort c = (c.in_ok-admits.ensures.0 c.if-not-branch.false).1
