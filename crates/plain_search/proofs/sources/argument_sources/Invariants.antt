use Rattle.std.proofs.Common.{◌≡◌, map, take, slice_get, Some}
use Rattle.isel_spec.specs.File.{Goal}
use Rattle.isel_spec.specs.Spec.{file}
use Rattle.plain_search.specs.Patterns.{sources_of}
use Rattle.plain_search.proofs.sources.argument_sources.Given as goal

abbrev pub invariant-loop-sort : goal.invariant-loop-sort
invariant-loop-sort l =
    (g : Goal) → slice_get (file l.spec).goals l.goal ≡ Some g
    → l.found.items ≡ map (λ s. sources_of (file l.spec) g l.nodes (Some s)) (take l.sort-index l.sorts)
