use Rattle.bv_query.specs.Session.{IsRightSession}
use Rattle.loc_encode.specs.Given.{IsGiven, IsRightFor}
use Rattle.encode_tests.proofs.tests.asking.all_patterns.Given as goal

abbrev pub invariant-loop : goal.invariant-loop
invariant-loop l =
    IsGiven l.spec l.rest.goal l.rest.multi × IsRightFor l.spec l.rest l.terms × IsRightSession l.session l.terms
