use Rattle.std.proofs.Common.{◌≡◌, map, take, slice_get, Some}
use Rattle.bv_terms.specs.WellSorted.{sort_of}
use Rattle.isel_spec.specs.File.{Goal}
use Rattle.isel_spec.specs.Spec.{file}
use Rattle.plain_search.specs.Patterns.{sources_of}
use Rattle.plain_search.proofs.sources.result_sources.Given as goal

abbrev pub invariant-loop-at : goal.invariant-loop-at
invariant-loop-at l =
    (g : Goal) → slice_get (file l.spec).goals l.goal ≡ Some g
    → l.found.items
    ≡ map (λ t. sources_of (file l.spec) g l.nodes (sort_of (file l.spec).pointer t)) (take l.at-index g.results)
