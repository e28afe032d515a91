use Rattle.std.proofs.Common.{◌≡◌}
use Rattle.loc_encode.specs.Given.{IsGiven, IsRightFor}
use Rattle.encode_tests.proofs.tests.asking.patterns_of.Given as goal

abbrev pub invariant-loop-numbers : goal.invariant-loop-numbers
invariant-loop-numbers l =
    IsGiven l.spec l.encoded.goal l.encoded.multi × (l.terms.pointer ≡ l.spec.pointer)
    × IsRightFor l.spec l.encoded l.terms
