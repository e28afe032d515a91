use Rattle.std.proofs.Common.{◌≡◌, drop}
use Rattle.std.specs.List.{list_all}
use Rattle.plain_search.specs.Extent.{is_value}
use Rattle.isel_cmd.proofs.accepted.are_values.Given as goal

abbrev pub invariant-loop-sort : goal.invariant-loop-sort
invariant-loop-sort l = list_all is_value (drop l.sort-index l.sorts) ≡ list_all is_value l.sorts
