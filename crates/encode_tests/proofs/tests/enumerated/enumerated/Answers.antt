use Rattle.std.proofs.Common.{arith, ap, sym, length, ◌≤◌}
use Rattle.isel_spec.specs.Spec.{file}
use Rattle.pattern_core.proofs.EvalLemmas.{some_goal}
use Rattle.plain_search.specs.Extent.{attribute_bits}
use Rattle.encode_tests.proofs.tests.enumerated.enumerated.Goals as goal

-- What can be searched has at most 12 bits of attributes.
pub each_pattern-requires-clause-few_bits : goal.each_pattern-requires-clause-few_bits
each_pattern-requires-clause-few_bits c =
    let given = c.is_given.ensures c.if-not-is_given.false in
    let g = some_goal c.args.spec.now 0 given.place in
    let can = (c.can_search.ensures g.0 g.1).0 c.if-not-can_search.false in
    let few : attribute_bits (file c.args.spec.now) c.args.multi.now ≤ 12 =
    can.attributes c.args.multi.now (ap length (sym c.ops.ensures.numbers)) in
    omega (arith, few)
