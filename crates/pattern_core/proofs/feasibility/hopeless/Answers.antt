use Rattle.std.proofs.Common.{List, ◌≤◌, length, sym, subst, ◌∙◌}
use Rattle.bv_terms.specs.declared.op.TermId.{TermId}
use Rattle.isel_spec.proofs.SpecLemmas.{IsSoundGoal_at}
use Rattle.pattern_core.proofs.HopelessLemmas.{hopeless-is}
use Rattle.pattern_core.proofs.SymbolicTables.{goal-in}
use Rattle.pattern_core.proofs.feasibility.hopeless.Goals as goal

pub lacks_source-lacks-requires-clause-there : goal.lacks_source-lacks-requires-clause-there
lacks_source-lacks-requires-clause-there c =
    let d = c.goal-definition.ensures in
    goal-in c.args.spec.now c.args.goal d.0 c.goal-definition.result.now c.as_slice-results.result.now d.1
    c.as_slice-results.ensures

pub has_spare_nodes-spare-requires-clause-few_results : goal.has_spare_nodes-spare-requires-clause-few_results
has_spare_nodes-spare-requires-clause-few_results c =
    let k = IsSoundGoal_at c.args.spec.now c.args.goal _ c.goal-definition.ensures.1 in
    subst (λ (results : List TermId). length results ≤ 3) (sym c.as_slice-results.ensures) k.most

pub returns : goal.returns
returns c = λ g there.
    let d = c.goal-definition.ensures in
    c.one_of.ensures
    ∙ hopeless-is c.args.spec.now c.args.goal d.0 c.goal-definition.result.now g c.as_slice-args.result.now
    c.as_slice-results.result.now c.ops-ops.result.now c.args.multi.now c.lacks_source-lacks.result
    c.adds_memory-adds.result c.has_spare_nodes-spare.result d.1 there c.as_slice-args.ensures
    c.as_slice-results.ensures c.ops-ops.ensures.numbers c.lacks_source-lacks.ensures c.adds_memory-adds.ensures
    c.has_spare_nodes-spare.ensures
