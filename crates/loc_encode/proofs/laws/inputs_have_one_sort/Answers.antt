use Rattle.loc_encode.proofs.LawLemmas.{input-small, one-sort-given}
use Rattle.loc_encode.proofs.laws.inputs_have_one_sort.Goals as goal

pub returns-clause-one_sort : goal.returns-clause-one_sort
returns-clause-one_sort c = λ claim table a b is over_a over_b k s t in_a in_b.
    one-sort-given c.args.spec.now c.args.goal c.args.multi.now claim c.len.ensures.table c.ops.ensures.multi.0
    c.requires is table a b
    over_a over_b k s t in_a in_b

pub returns-clause-small : goal.returns-clause-small
returns-clause-small c = λ claim table at is over k r below.
    input-small c.args.spec.now c.args.goal c.args.multi.now claim c.len.ensures.table c.ops.ensures.multi.0
    c.requires is
    table at over k r below
