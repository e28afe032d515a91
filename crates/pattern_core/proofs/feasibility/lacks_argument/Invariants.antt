use Rattle.std.proofs.Common.{◌≡◌, drop}
use Rattle.pattern_core.specs.Hopeless.{has_source, args_at}
use Rattle.isel_spec.specs.Spec.{file}
use Rattle.isel_spec.specs.File.{sorts_in}
use Rattle.std.specs.List.{list_any}
use Rattle.std.specs.Prelude.{not}
use Rattle.pattern_core.proofs.feasibility.lacks_argument.Given as goal

abbrev pub invariant-loop-op : goal.invariant-loop-op
invariant-loop-op l =
    list_any (λ k. list_any (λ s. not (has_source (file l.spec) (sorts_in l.args) l.ops s)) (args_at (file l.spec) k))
    (drop l.op-index l.ops)
    ≡ list_any (λ k. list_any (λ s. not (has_source (file l.spec) (sorts_in l.args) l.ops s)) (args_at (file l.spec) k))
    l.ops
