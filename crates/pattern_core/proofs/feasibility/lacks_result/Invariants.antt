use Rattle.std.proofs.Common.{◌≡◌, drop}
use Rattle.pattern_core.specs.Hopeless.{lacks_result}
use Rattle.isel_spec.specs.Spec.{file}
use Rattle.isel_spec.specs.File.{sorts_in}
use Rattle.bv_terms.specs.Table.{term_at}
use Rattle.std.specs.List.{list_any}
use Rattle.pattern_core.proofs.feasibility.lacks_result.Given as goal

abbrev pub invariant-loop-at : goal.invariant-loop-at
invariant-loop-at l =
    list_any (λ at. lacks_result (file l.spec) (sorts_in l.args) l.ops (term_at l.spec.terms at))
    (drop l.at-index l.results)
    ≡ list_any (λ at. lacks_result (file l.spec) (sorts_in l.args) l.ops (term_at l.spec.terms at)) l.results
