use Rattle.std.proofs.Common.{sym, ◌∙◌}
use Rattle.plain_search.proofs.ExtentLemmas.{operations_go_on, operations_stop}
use Rattle.isel_cmd.proofs.accepted.do_operations_take_values.Goals as goal

pub returns-then-not-are_values : goal.returns-then-not-are_values
returns-then-not-are_values c =
    sym (operations_stop c.args.spec.now c.loop-op.op _ _ _ c.op.ensures.1 c.as_slice.ensures
    (sym c.are_values.ensures ∙ c.if-not-are_values.true))
    ∙ c.loop-op.invariant

pub loop-op-preserved : goal.loop-op-preserved
loop-op-preserved c =
    sym (operations_go_on c.args.spec.now c.loop-op.op _ _ _ c.op.ensures.1 c.as_slice.ensures
    (sym c.are_values.ensures ∙ c.if-not-are_values.false))
    ∙ c.loop-op.invariant
