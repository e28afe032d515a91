use Rattle.query_tests.proofs.tests.answers.answer_to.Goals as goal

pub decide-requires-clause-one_sort : goal.decide-requires-clause-one_sort
decide-requires-clause-one_sort c = c.in_ok-have_one_sort.ensures.0 c.if-not-branch-2.false
