use Rattle.std.proofs.Common.{◌≡◌, drop}
use Rattle.pattern_core.specs.Hopeless.{has_sort, results_at}
use Rattle.isel_spec.specs.Spec.{file}
use Rattle.std.specs.List.{list_any}
use Rattle.pattern_core.proofs.feasibility.some_gives.Given as goal

abbrev pub invariant-loop-op : goal.invariant-loop-op
invariant-loop-op l =
    list_any (λ k. list_any (has_sort (file l.spec) l.sort) (results_at (file l.spec) k)) (drop l.op-index l.ops)
    ≡ list_any (λ k. list_any (has_sort (file l.spec) l.sort) (results_at (file l.spec) k)) l.ops
