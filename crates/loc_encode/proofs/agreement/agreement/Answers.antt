use Rattle.std.proofs.Common.{sym, subst, List, ℕ, ◌≤◌, length}
use Rattle.loc_encode.specs.Parts.{IsAgreement}
use Rattle.loc_encode.proofs.AgreementLemmas.{example-inputs, example-fits, few-results, results-fit, agreement-made}
use Rattle.loc_encode.proofs.AgreementLemmas.{if_ok_three}
use Rattle.loc_encode.proofs.agreement.agreement.Goals as goal

pub all_sources-requires-clause-few : goal.all_sources-requires-clause-few
all_sources-requires-clause-few c =
    subst (λ (xs : List ℕ). length xs ≤ 6) (sym c.ops.ensures.numbers) c.ops.ensures.multi.0

pub all_sources-requires-clause-inputs : goal.all_sources-requires-clause-inputs
all_sources-requires-clause-inputs c =
    example-inputs c.args.spec.now c.args.goal c.args.multi.now c.ops.result.now c.args.example.now
    c.as_slice-inputs.result.now c.requires.example c.ops.ensures.numbers c.as_slice-inputs.ensures

pub eval_goal-requires-clause-inputs : goal.eval_goal-requires-clause-inputs
eval_goal-requires-clause-inputs c =
    example-fits c.args.spec.now c.args.goal c.args.multi.now c.args.example.now c.as_slice-inputs.result.now
    c.requires.example c.as_slice-inputs.ensures

pub all_equal-requires-clause-few : goal.all_equal-requires-clause-few
all_equal-requires-clause-few c =
    few-results c.args.spec.now c.args.goal c.goal-definition.ensures.0 c.goal-definition.result.now
    c.as_slice-results.result.now c.goal-definition.ensures.1 c.as_slice-results.ensures

pub all_equal-requires-clause-results : goal.all_equal-requires-clause-results
all_equal-requires-clause-results c =
    results-fit c.args.spec.now c.len-2.ensures.table c.args.goal c.args.multi.now c.args.example.now
    c.as_slice-inputs.result.now c.requires.example c.as_slice-inputs.ensures c.requires.given
    c.goal-definition.ensures.0 c.goal-definition.result.now c.goal-definition.ensures.1
    c.as_slice-results.result.now c.as_slice-results.ensures c.in_ok-values.values.items c.deref.result.now
    c.deref.ensures.value c.in_ok-values.ensures.values

pub returns-clause-agreement : goal.returns-clause-agreement
returns-clause-agreement c =
    λ claim is. if_ok_three c.all_equal.result _ _ _ (IsAgreement claim c.args.example.now.inputs c.all_equal.new.terms)
    (λ id made truth within. agreement-made c.args.spec.now c.len-2.ensures.table c.args.goal c.args.multi.now
    c.ops.result.now c.ops.ensures.numbers claim is c.args.example.now.inputs c.as_slice-inputs.result.now
    c.as_slice-inputs.ensures c.all_sources.new.terms c.all_equal.new.terms c.in_ok-sources.sources.items
    c.deref-2.result.now c.deref-2.ensures.value c.in_ok-sources.ensures.meant c.goal-definition.ensures.0
    c.goal-definition.result.now c.goal-definition.ensures.1 c.as_slice-results.result.now c.as_slice-results.ensures
    c.in_ok-values.values.items c.deref.result.now c.deref.ensures.value c.in_ok-values.ensures.values id made truth
    within) c.all_equal.ensures.term c.all_equal.ensures.truth c.all_equal.ensures.within
