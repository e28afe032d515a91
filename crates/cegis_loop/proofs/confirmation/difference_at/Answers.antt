use Rattle.std.proofs.Common.{◌∙◌, ap, sym}
use Rattle.isel_spec.specs.Spec.{file}
use Rattle.pattern_core.specs.Rule.{pattern_results}
use Rattle.plain_search.proofs.AgreementLemmas.{inputs_sorted, IsRow, IsRow-from_values}
use Rattle.cegis_loop.proofs.confirmation.difference_at.Goals as goal

pub goal_results-requires-clause-inputs : goal.goal_results-requires-clause-inputs
goal_results-requires-clause-inputs c = λ g h.
    inputs_sorted g c.args.sorts.now c.args.number c.as_slice-values.result.now (c.requires.sorts g h)
    (c.as_slice-values.ensures ∙ c.in_ok-inputs.ensures) (c.requires.plain g h)

pub has_results-requires-clause-inputs : goal.has_results-requires-clause-inputs
has_results-requires-clause-inputs c = λ g h.
    inputs_sorted g c.args.sorts.now c.args.number c.as_slice-values.result.now (c.requires.sorts g h)
    (c.as_slice-values.ensures ∙ c.in_ok-inputs.ensures) (c.requires.plain g h)

pub returns-then-branch-clause-found : goal.returns-then-branch-clause-found
returns-then-branch-clause-found c = λ g h.
    let row : IsRow g c.args.number c.as_slice-values.result.now c.deref.result.now =
    IsRow-from_values g c.args.number c.args.sorts.now c.as_slice-values.result.now c.deref.result.now
    (c.requires.sorts g h) (c.as_slice-values.ensures ∙ c.in_ok-inputs.ensures)
    (c.deref.ensures.value ∙ c.in_ok-wanted.ensures.values g h) in
    sym (ap (pattern_results (file c.args.spec.now) c.args.pattern.now) row.inputs_are)
    ∙ c.in_ok-has_results.ensures.has.0 c.if-branch.true ∙ row.wanted_are
