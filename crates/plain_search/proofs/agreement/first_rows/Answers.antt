use Rattle.std.proofs.Common.{◌∙◌, ap}
use Rattle.pattern_core.specs.Rule.{goal_results}
use Rattle.plain_search.specs.declared.agreement.Row.{Row}
use Rattle.plain_search.proofs.AgreementLemmas.{inputs_sorted, rows_more, rows_all}
use Rattle.plain_search.proofs.agreement.first_rows.Goals as goal

pub goal_results-requires-clause-inputs : goal.goal_results-requires-clause-inputs
goal_results-requires-clause-inputs c = λ g h.
    inputs_sorted g c.args.sorts.now c.loop-number.number c.as_slice-values.result.now (c.requires.sorts g h)
    (c.as_slice-values.ensures ∙ c.in_ok-inputs.ensures) (c.requires.plain g h)

pub loop-number-preserved : goal.loop-number-preserved
loop-number-preserved c = record {
  evaluation = c.goal_results.ensures.evaluation;
  so_far = λ g h.
      let row : Row = record { inputs = c.in_ok-inputs.inputs.values; results = c.from_vec.result } in
      rows_more g c.loop-number.number c.args.sorts.now c.loop-number.rows c.push.new.self row
      (c.loop-number.invariant.so_far g h) (c.requires.sorts g h) c.in_ok-inputs.ensures
      (c.from_vec.ensures ∙ c.in_ok-results.ensures.values g h ∙ ap (goal_results g) c.as_slice-values.ensures)
      c.in_ok-push.ensures.ok;
}

pub returns-clause-rows : goal.returns-clause-rows
returns-clause-rows c = λ g h.
    rows_all g c.loop-number.number c.loop-number.rows (c.loop-number.invariant.so_far g h)
