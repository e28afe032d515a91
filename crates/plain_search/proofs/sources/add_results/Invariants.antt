use Rattle.std.proofs.Common.{◌≡◌, ◌++◌, map, filter, slice_get, Some}
use Rattle.std.specs.Prelude.{option_and_then}
use Rattle.std.specs.List.{range_with_len}
use Rattle.bv_terms.specs.Table.{term_at}
use Rattle.bv_terms.specs.WellSorted.{sort_of}
use Rattle.pattern_core.specs.declared.pattern.Src.TheVariants.{Out}
use Rattle.plain_search.specs.Patterns.{is_sort}
use Rattle.plain_search.proofs.sources.add_results.Given as goal

abbrev pub invariant-loop-place : goal.invariant-loop-place
invariant-loop-place l =
    l.found.items ≡ l.initial.found.items ++ map (λ r. Out l.node r)
    (filter (λ r. is_sort (Some l.wanted)
    (option_and_then (sort_of l.terms.pointer) (slice_get (map (term_at l.terms) l.results) r)))
    (range_with_len 0 l.place))
