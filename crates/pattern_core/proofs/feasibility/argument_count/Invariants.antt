use Rattle.std.proofs.Common.{◌≡◌, ◌≤◌, ◌+◌, ◌*◌, drop, sum_by, length}
use Rattle.isel_spec.specs.Spec.{file}
use Rattle.pattern_core.specs.Hopeless.{args_at}
use Rattle.pattern_core.proofs.feasibility.argument_count.Given as goal

abbrev pub invariant-loop-op : goal.invariant-loop-op
invariant-loop-op l = record {
  whole :
      l.total + sum_by (λ k. length (args_at (file l.spec) k)) (drop l.op-index l.ops)
      ≡ sum_by (λ k. length (args_at (file l.spec) k)) l.ops;
  small : l.total ≤ 4 * l.op-index;
}
