use Rattle.std.proofs.Common.{◌∙◌, sym, subst}
use Rattle.isel_spec.specs.Spec.{file}
use Rattle.bv_terms.specs.Sorts.{HaveSorts}
use Rattle.pattern_core.proofs.EvalLemmas.{some_goal}
use Rattle.plain_search.proofs.AgreementLemmas.{few_bits, inputs_sorted, goal_inputs, agrees-from_has}
use Rattle.plain_search.proofs.AgreementLemmas.{IsRow, IsRow-from_table, IsRow-from_values}
use Rattle.plain_search.proofs.agreement.agrees_at.Goals as goal

pub has_results-requires-clause-inputs : goal.has_results-requires-clause-inputs
has_results-requires-clause-inputs c = λ g h.
    let n = c.args.number in
    let row : IsRow g n c.as_slice-values.result.now c.as_slice-wanted.result.now =
    IsRow-from_table g n c.as_slice-rows.result.now c.args.table.now.rows c.index-rows-number.result
    c.as_slice-values.result.now c.as_slice-wanted.result.now (c.requires.table.rows g h) c.as_slice-rows.ensures
    c.if-number-rows.true c.index-rows-number.is c.as_slice-values.ensures c.as_slice-wanted.ensures in
    subst (HaveSorts g.args) (sym row.inputs_are) (goal_inputs g n (c.requires.plain g h))

pub returns-then-number-rows-clause-agrees : goal.returns-then-number-rows-clause-agrees
returns-then-number-rows-clause-agrees c = λ g h.
    let n = c.args.number in
    let row : IsRow g n c.as_slice-values.result.now c.as_slice-wanted.result.now =
    IsRow-from_table g n c.as_slice-rows.result.now c.args.table.now.rows c.index-rows-number.result
    c.as_slice-values.result.now c.as_slice-wanted.result.now (c.requires.table.rows g h) c.as_slice-rows.ensures
    c.if-number-rows.true c.index-rows-number.is c.as_slice-values.ensures c.as_slice-wanted.ensures in
    agrees-from_has (file c.args.spec.now) g c.args.pattern.now n c.has_results.result c.as_slice-values.result.now
    c.as_slice-wanted.result.now row c.has_results.ensures.has

pub inputs_of-requires : goal.inputs_of-requires
inputs_of-requires c =
    let g = some_goal c.args.spec.now c.args.goal c.requires.there in
    few_bits c.deref.result.now g.0 (c.deref.ensures.value ∙ c.requires.table.sorts g.0 g.1)
    (c.requires.few g.0 g.1)

pub goal_results-requires-clause-inputs : goal.goal_results-requires-clause-inputs
goal_results-requires-clause-inputs c = λ g h.
    inputs_sorted g c.deref.result.now c.args.number c.as_slice-values-2.result.now
    (c.deref.ensures.value ∙ c.requires.table.sorts g h) (c.as_slice-values-2.ensures ∙ c.in_ok-inputs.ensures)
    (c.requires.plain g h)

pub has_results-requires-2-clause-inputs : goal.has_results-requires-2-clause-inputs
has_results-requires-2-clause-inputs c = λ g h.
    inputs_sorted g c.deref.result.now c.args.number c.as_slice-values-2.result.now
    (c.deref.ensures.value ∙ c.requires.table.sorts g h) (c.as_slice-values-2.ensures ∙ c.in_ok-inputs.ensures)
    (c.requires.plain g h)

pub returns-clause-agrees : goal.returns-clause-agrees
returns-clause-agrees c = λ g h.
    let n = c.args.number in
    agrees-from_has (file c.args.spec.now) g c.args.pattern.now n c.has_results-2.result
    c.as_slice-values-2.result.now c.deref-3.result.now
    (IsRow-from_values g n c.deref.result.now c.as_slice-values-2.result.now c.deref-3.result.now
    (c.deref.ensures.value ∙ c.requires.table.sorts g h) (c.as_slice-values-2.ensures ∙ c.in_ok-inputs.ensures)
    (c.deref-3.ensures.value ∙ c.in_ok-wanted.ensures.values g h)) c.has_results-2.ensures.has
