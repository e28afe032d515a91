use Rattle.std.proofs.Common.{◌≡◌, ◌++◌, length, drop, filter, Some}
use Rattle.isel_spec.specs.File.{Goal}
use Rattle.isel_spec.specs.Spec.{file}
use Rattle.pattern_core.specs.Pattern.{source_sort}
use Rattle.plain_search.specs.Patterns.{outs_of, is_sort}
use Rattle.plain_search.proofs.sources.add_nodes.Given as goal

abbrev pub invariant-loop-place : goal.invariant-loop-place
invariant-loop-place l =
    (g : Goal)
    → l.found.items ++ filter
    (λ source. is_sort (Some l.wanted) (source_sort (file l.spec) g l.nodes (length l.nodes) source))
    (outs_of (file l.spec) l.place (drop l.place l.nodes))
    ≡ l.initial.found.items ++ filter
    (λ source. is_sort (Some l.wanted) (source_sort (file l.spec) g l.nodes (length l.nodes) source))
    (outs_of (file l.spec) 0 l.nodes)
