use Rattle.std.proofs.Common.{◌∙◌, ap, arith, length}
use Rattle.isel_spec.proofs.SpecLemmas.{IsSoundGoal_at, IsSoundResult-goal}
use Rattle.loc_encode.proofs.ReadingLemmas.{results-read, same-pattern}
use Rattle.loc_encode.proofs.decoding.pattern_of.Goals as goal

pub results_at-requires-clause-results : goal.results_at-requires-clause-results
results_at-requires-clause-results c =
    let d = c.goal.ensures in
    let sound = IsSoundGoal_at c.args.spec.now c.args.goal (d.0, c.goal.result.now) d.1 in
    let few = sound.most in
    let same = ap length c.as_slice-terms.ensures in
    omega (arith, few, same)

pub results_at-requires-clause-terms : goal.results_at-requires-clause-terms
results_at-requires-clause-terms c = λ k r within.
    let d = c.goal.ensures in
    let sound =
    IsSoundResult-goal c.args.spec.now c.args.goal d.0 c.goal.result.now c.as_slice-terms.result.now k r d.1
    c.as_slice-terms.ensures within in
    sound.there

pub returns : goal.returns
returns c = λ claim p is pattern stands.
    let d = c.goal.ensures in
    let nodes = c.in_ok-nodes.ensures.nodes claim p is pattern stands in
    same-pattern c.from_vec.result c.in_ok-results.results p (c.from_vec.ensures ∙ nodes)
    (results-read c.args.spec.now c.args.goal c.args.ops.now claim c.args.values.now p is pattern stands d.0
    c.goal.result.now d.1 c.as_slice-terms.result.now c.as_slice-terms.ensures c.as_slice.result.now
    (c.as_slice.ensures.value ∙ nodes) c.in_ok-results.results c.in_ok-results.ensures)
