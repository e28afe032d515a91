use Rattle.encode_tests.proofs.tests.asking.comes_back.Goals as goal

pub assign-requires-clause-pattern : goal.assign-requires-clause-pattern
assign-requires-clause-pattern c = λ claim is. (c.requires.sought claim is).pattern

pub decode-requires-clause-holds : goal.decode-requires-clause-holds
decode-requires-clause-holds c =
    let claim = c.has_one_claim.ensures.there in
    c.in_ok-env.ensures.holds claim.0 claim.1 (c.requires.sought claim.0 claim.1)
    (c.is_canonical_for.ensures c.if-not-is_canonical_for.false)
