use Rattle.std.proofs.Common.{◌≡◌, drop}
use Rattle.std.specs.List.{list_all}
use Rattle.isel_spec.specs.File.{sorts_in}
use Rattle.plain_search.specs.Extent.{is_value}
use Rattle.isel_cmd.proofs.accepted.are_inputs_values.Given as goal

abbrev pub invariant-loop-arg : goal.invariant-loop-arg
invariant-loop-arg l = list_all is_value (sorts_in (drop l.arg-index l.args)) ≡ list_all is_value (sorts_in l.args)
