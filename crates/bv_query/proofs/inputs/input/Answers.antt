use Rattle.bv_query.proofs.InputLemmas.{input-none, input-read}
use Rattle.std.proofs.Common.{◌∙◌}
use Rattle.bv_query.proofs.inputs.input.Goals as goal

pub returns-then-not-is_empty : goal.returns-then-not-is_empty
returns-then-not-is_empty c =
    input-none c.args.terms.now c.len-count.ensures.table c.args.at _ _ c.is_empty.result c.node.ensures
    c.is_empty.ensures c.if-not-is_empty.true

pub returns : goal.returns
returns c =
    c.read_input.ensures
    ∙ input-read c.args.terms.now c.len-count.ensures.table c.args.at _ _ c.is_empty.result c.node.ensures
    c.is_empty.ensures c.if-not-is_empty.false
