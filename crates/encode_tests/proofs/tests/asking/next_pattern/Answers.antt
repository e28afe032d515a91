use Rattle.encode_tests.proofs.AskingLemmas.{fits-last, true-last}
use Rattle.encode_tests.proofs.tests.asking.next_pattern.Goals as goal

pub assert-requires-clause-one_sort : goal.assert-requires-clause-one_sort
assert-requires-clause-one_sort c = (c.in_ok-admits.ensures.0 c.if-not-branch.false).1

pub decode-requires-clause-fits : goal.decode-requires-clause-fits
decode-requires-clause-fits c =
    fits-last c.args.terms.now c.args.session.blast.formulas c.args.encoded.now.formula c.in_ok-session.session
    c.in_ok-session.ensures.formulas c.in_ok-env.field-0 c.in-Yes.env c.in_ok-env.ensures.yes c.in-Yes.is

pub decode-requires-clause-holds : goal.decode-requires-clause-holds
decode-requires-clause-holds c =
    true-last c.args.terms.now c.args.session.blast.formulas c.args.encoded.now.formula c.in_ok-session.session
    c.in_ok-session.ensures.formulas c.in_ok-env.field-0 c.in-Yes.env c.in_ok-env.ensures.yes c.in-Yes.is
