use Rattle.std.proofs.Common.{◌≡◌, ◌≤◌, ◌+◌, ◌*◌, drop, sum_by}
use Rattle.bv_terms.specs.Sorts.{width_of}
use Rattle.cegis_loop.proofs.inputs.bits_of.Given as goal

abbrev pub invariant-loop-sort : goal.invariant-loop-sort
invariant-loop-sort l = record {
  whole : l.total + sum_by width_of (drop l.sort-index l.sorts) ≡ sum_by width_of l.sorts;
  small : l.total ≤ 255 * l.sort-index;
}
