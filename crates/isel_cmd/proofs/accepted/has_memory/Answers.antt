use Rattle.std.proofs.Common.{sym, ◌∙◌}
use Rattle.isel_spec.specs.Spec.{file}
use Rattle.isel_cmd.proofs.MemoryTests.{memory_found, memory_decided}
use Rattle.isel_cmd.proofs.accepted.has_memory.Goals as goal

pub returns-then-not-do_operations_take_values : goal.returns-then-not-do_operations_take_values
returns-then-not-do_operations_take_values c =
    memory_found (file c.args.spec.now)
    (sym c.do_operations_take_values.ensures ∙ c.if-not-do_operations_take_values.true)

pub returns : goal.returns
returns c =
    memory_decided (file c.args.spec.now) c.do_goals_take_values.result
    (sym c.do_operations_take_values.ensures ∙ c.if-not-do_operations_take_values.false)
    c.do_goals_take_values.ensures
