use Rattle.std.proofs.Common.{sym, ◌∙◌}
use Rattle.isel_cmd.proofs.MemoryTests.{goals_go_on, goals_stop}
use Rattle.isel_cmd.proofs.accepted.do_goals_take_values.Goals as goal

pub returns-then-not-are_inputs_values : goal.returns-then-not-are_inputs_values
returns-then-not-are_inputs_values c =
    sym (goals_stop c.args.spec.now c.loop-goal.goal _ _ _ c.goal.ensures.1 c.as_slice.ensures
    (sym c.are_inputs_values.ensures ∙ c.if-not-are_inputs_values.true))
    ∙ c.loop-goal.invariant

pub loop-goal-preserved : goal.loop-goal-preserved
loop-goal-preserved c =
    sym (goals_go_on c.args.spec.now c.loop-goal.goal _ _ _ c.goal.ensures.1 c.as_slice.ensures
    (sym c.are_inputs_values.ensures ∙ c.if-not-are_inputs_values.false))
    ∙ c.loop-goal.invariant
