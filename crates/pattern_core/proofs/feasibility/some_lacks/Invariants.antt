use Rattle.std.proofs.Common.{◌≡◌, drop}
use Rattle.pattern_core.specs.Hopeless.{has_source}
use Rattle.isel_spec.specs.Spec.{file}
use Rattle.isel_spec.specs.File.{sorts_in}
use Rattle.std.specs.List.{list_any}
use Rattle.std.specs.Prelude.{not}
use Rattle.pattern_core.proofs.feasibility.some_lacks.Given as goal

abbrev pub invariant-loop-sort : goal.invariant-loop-sort
invariant-loop-sort l =
    list_any (λ s. not (has_source (file l.spec) (sorts_in l.args) l.ops s)) (drop l.sort-index l.sorts)
    ≡ list_any (λ s. not (has_source (file l.spec) (sorts_in l.args) l.ops s)) l.sorts
