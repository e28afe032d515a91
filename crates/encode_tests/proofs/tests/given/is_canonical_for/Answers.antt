use Rattle.pattern_core.proofs.EvalLemmas.{some_goal}
use Rattle.encode_tests.proofs.tests.given.is_canonical_for.Goals as goal

pub is_canonical-requires-clause-few : goal.is_canonical-requires-clause-few
is_canonical-requires-clause-few c =
    let g = some_goal c.args.spec.now c.args.goal c.requires in
    ((c.is_well_formed.ensures g.0 g.1).0 c.if-not-is_well_formed.false).size

pub is_canonical-requires-clause-forward : goal.is_canonical-requires-clause-forward
is_canonical-requires-clause-forward c =
    let g = some_goal c.args.spec.now c.args.goal c.requires in
    c.well_formed_is_forward.ensures g.0 c.args.pattern.now g.1
    ((c.is_well_formed.ensures g.0 g.1).0 c.if-not-is_well_formed.false)
