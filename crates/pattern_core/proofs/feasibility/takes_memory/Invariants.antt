use Rattle.std.proofs.Common.{◌≡◌, drop}
use Rattle.pattern_core.specs.Hopeless.{is_among, args_at}
use Rattle.isel_spec.specs.Spec.{file}
use Rattle.std.specs.List.{list_any}
use Rattle.bv_terms.specs.declared.value.Sort.TheVariants as sort
use Rattle.pattern_core.proofs.feasibility.takes_memory.Given as goal

abbrev pub invariant-loop-op : goal.invariant-loop-op
invariant-loop-op l =
    list_any (λ k. is_among (args_at (file l.spec) k) sort.Mem) (drop l.op-index l.ops)
    ≡ list_any (λ k. is_among (args_at (file l.spec) k) sort.Mem) l.ops
