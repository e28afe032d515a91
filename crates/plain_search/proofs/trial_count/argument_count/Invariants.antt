use Rattle.std.proofs.Common.{◌≡◌, ◌≤◌, ◌+◌, ◌*◌, drop, sum_by}
use Rattle.isel_spec.specs.Spec.{file}
use Rattle.plain_search.specs.Trials.{arguments_of}
use Rattle.plain_search.proofs.trial_count.argument_count.Given as goal

abbrev pub invariant-loop-op : goal.invariant-loop-op
invariant-loop-op l = record {
  whole :
      l.total + sum_by (arguments_of (file l.spec)) (drop l.op-index l.ops)
      ≡ sum_by (arguments_of (file l.spec)) l.ops;
  small : l.total ≤ 4 * l.op-index;
}
