use Rattle.query_file.proofs.put_answer.Goals as goal

pub decide-requires-clause-one_sort : goal.decide-requires-clause-one_sort
decide-requires-clause-one_sort g c = c.in_ok-have_one_sort.ensures.0 c.if-not-branch.false
