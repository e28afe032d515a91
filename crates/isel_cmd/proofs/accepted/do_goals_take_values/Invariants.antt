use Rattle.std.proofs.Common.{◌≡◌, drop}
use Rattle.std.specs.List.{list_all}
use Rattle.isel_spec.specs.Spec.{file}
use Rattle.isel_cmd.specs.Refusal.{goal_takes_values}
use Rattle.isel_cmd.proofs.accepted.do_goals_take_values.Given as goal

abbrev pub invariant-loop-goal : goal.invariant-loop-goal
invariant-loop-goal l =
    list_all goal_takes_values (drop l.goal (file l.spec).goals) ≡ list_all goal_takes_values (file l.spec).goals
