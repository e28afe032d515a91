use Rattle.std.proofs.Common.{◌≡◌, drop}
use Rattle.pattern_core.specs.Hopeless.{has_sort}
use Rattle.isel_spec.specs.Spec.{file}
use Rattle.bv_terms.specs.Table.{term_at}
use Rattle.std.specs.List.{list_any}
use Rattle.pattern_core.proofs.feasibility.is_result.Given as goal

abbrev pub invariant-loop-at : goal.invariant-loop-at
invariant-loop-at l =
    list_any (λ at. has_sort (file l.spec) l.sort (term_at l.spec.terms at)) (drop l.at-index l.results)
    ≡ list_any (λ at. has_sort (file l.spec) l.sort (term_at l.spec.terms at)) l.results
