use Rattle.std.proofs.Common.{◌≡◌, ◌≤◌, ◌+◌, ◌*◌, drop, sum_by}
use Rattle.isel_spec.specs.Spec.{file}
use Rattle.plain_search.specs.Trials.{results_of}
use Rattle.plain_search.proofs.trial_count.result_count.Given as goal

abbrev pub invariant-loop-op : goal.invariant-loop-op
invariant-loop-op l = record {
  whole :
      l.total + sum_by (results_of (file l.spec)) (drop l.op-index l.ops)
      ≡ sum_by (results_of (file l.spec)) l.ops;
  small : l.total ≤ 3 * l.op-index;
}
