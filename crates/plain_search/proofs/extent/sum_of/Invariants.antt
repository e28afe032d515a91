use Rattle.std.proofs.Common.{◌≡◌, ◌≤◌, ◌+◌, ◌*◌, drop, sum}
use Rattle.plain_search.proofs.extent.sum_of.Given as goal

abbrev pub invariant-loop-width : goal.invariant-loop-width
invariant-loop-width l = record {
  whole : l.total + sum (drop l.width-index l.widths) ≡ sum l.widths;
  small : l.total ≤ 255 * l.width-index;
}
