use Rattle.cegis_loop.proofs.FinderLemmas.{claim-from, given-for, before-kept, more-result}
use Rattle.cegis_loop.proofs.finder.without_pattern.Goals as goal

pub with_part-requires-clause-given : goal.with_part-requires-clause-given
with_part-requires-clause-given c =
    let kept = c.in_ok-more.ensures.kept in
    given-for c.args.spec.now c.args.finder.encoded.goal c.args.finder.encoded.multi _ _ kept.goal_is kept.ops_are
    c.requires.given

pub with_part-requires-clause-right : goal.with_part-requires-clause-right
with_part-requires-clause-right c =
    c.formulas-asserted.ensures.extends c.args.finder.terms c.block.new.terms c.in_ok-more.ensures.extends
    c.requires.right.session

pub with_part-requires-clause-before : goal.with_part-requires-clause-before
with_part-requires-clause-before c =
    let kept = c.in_ok-more.ensures.kept in
    before-kept c.args.spec.now c.args.finder.encoded.goal c.args.finder.encoded.multi c.args.finder c.block.new.terms
    _ _ c.requires.right c.in_ok-more.ensures.extends kept.goal_is kept.ops_are

pub with_part-requires-clause-over : goal.with_part-requires-clause-over
with_part-requires-clause-over c = λ k claim.
    let kept = c.in_ok-more.ensures.kept in
    (c.in_ok-more.ensures.term k
    (claim-from c.args.spec.now c.args.finder.encoded.goal c.args.finder.encoded.multi _ _ k kept.goal_is kept.ops_are
    claim)).over

pub returns-clause-right : goal.returns-clause-right
returns-clause-right c =
    let kept = c.in_ok-more.ensures.kept in
    more-result c.args.spec.now c.args.finder.encoded.goal c.args.finder.encoded.multi c.args.finder c.block.new.terms
    _ _ c.requires.right c.in_ok-more.ensures.extends kept.goal_is kept.ops_are
    c.in_ok-more.ensures.right (λ k claim. (c.in_ok-more.ensures.term k claim).over)
    c.in_ok-more.ensures.formula c.with_part.result c.with_part.ensures.terms c.with_part.ensures.encoded
    c.with_part.ensures.formulas c.with_part.ensures.right
