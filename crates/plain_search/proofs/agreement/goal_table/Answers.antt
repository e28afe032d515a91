use Rattle.std.proofs.Common.{◌∙◌}
use Rattle.pattern_core.proofs.EvalLemmas.{some_goal}
use Rattle.plain_search.proofs.AgreementLemmas.{few_bits, sorts_are}
use Rattle.plain_search.proofs.agreement.goal_table.Goals as goal

pub first_rows-requires-clause-sorts : goal.first_rows-requires-clause-sorts
first_rows-requires-clause-sorts c = λ g h.
    let d = c.goal-definition.ensures in
    sorts_are c.args.spec.now c.args.goal d.0 c.goal-definition.result.now c.deref.result.now c.as_slice.result.now d.1
    (c.deref.ensures.value ∙ c.in_ok-sorts.ensures) c.as_slice.ensures g h

pub first_rows-requires-clause-few : goal.first_rows-requires-clause-few
first_rows-requires-clause-few c =
    let d = c.goal-definition.ensures in
    let g = some_goal c.args.spec.now c.args.goal c.requires.there in
    few_bits c.deref.result.now g.0
    (sorts_are c.args.spec.now c.args.goal d.0 c.goal-definition.result.now c.deref.result.now c.as_slice.result.now d.1
    (c.deref.ensures.value ∙ c.in_ok-sorts.ensures) c.as_slice.ensures g.0 g.1) (c.requires.few g.0 g.1)

pub returns-clause-table : goal.returns-clause-table
returns-clause-table c =
    let d = c.goal-definition.ensures in
    record {
      nodes = c.in_ok-nodes.ensures;
      sorts = λ g h.
          sorts_are c.args.spec.now c.args.goal d.0 c.goal-definition.result.now c.in_ok-sorts.sorts.items
          c.as_slice.result.now d.1 c.in_ok-sorts.ensures c.as_slice.ensures g h;
      rows = c.in_ok-rows.ensures.rows;
    }
