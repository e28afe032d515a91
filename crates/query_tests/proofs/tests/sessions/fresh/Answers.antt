use Rattle.query_tests.proofs.tests.sessions.fresh.Goals as goal

pub returns : goal.returns
returns c = c.in_ok-session.ensures.right c.args.terms.now
