use Rattle.std.proofs.Common.{◌≡◌, drop}
use Rattle.std.specs.List.{list_all}
use Rattle.isel_spec.specs.Spec.{file}
use Rattle.plain_search.specs.Extent.{takes_values}
use Rattle.isel_cmd.proofs.accepted.do_operations_take_values.Given as goal

abbrev pub invariant-loop-op : goal.invariant-loop-op
invariant-loop-op l = list_all takes_values (drop l.op (file l.spec).ops) ≡ list_all takes_values (file l.spec).ops
