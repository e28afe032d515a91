use Rattle.std.proofs.Common.{◌≡◌, ◌++◌, map, filter, slice_get, Some}
use Rattle.std.specs.List.{range_with_len}
use Rattle.isel_spec.specs.File.{sorts_in}
use Rattle.pattern_core.specs.declared.pattern.Src.TheVariants.{Input}
use Rattle.plain_search.specs.Patterns.{is_sort}
use Rattle.plain_search.proofs.sources.add_inputs.Given as goal

abbrev pub invariant-loop-place : goal.invariant-loop-place
invariant-loop-place l =
    l.found.items ≡ l.initial.found.items ++ map (λ k. Input k)
    (filter (λ k. is_sort (Some l.wanted) (slice_get (sorts_in l.args) k)) (range_with_len 0 l.place))
