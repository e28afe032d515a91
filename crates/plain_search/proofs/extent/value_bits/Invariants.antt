use Rattle.std.proofs.Common.{◌≡◌, ◌≤◌, ◌+◌, ◌*◌, drop, sum_by}
use Rattle.bv_terms.specs.Sorts.{width_of}
use Rattle.isel_spec.specs.File.{sorts_in}
use Rattle.plain_search.proofs.extent.value_bits.Given as goal

abbrev pub invariant-loop-arg : goal.invariant-loop-arg
invariant-loop-arg l = record {
  whole : l.total + sum_by width_of (sorts_in (drop l.arg-index l.args)) ≡ sum_by width_of (sorts_in l.args);
  small : l.total ≤ 255 * l.arg-index;
}
