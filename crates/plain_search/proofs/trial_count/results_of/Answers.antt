use Rattle.std.proofs.Common.{◌≤◌, sym, subst, ◌∙◌, arith}
use Rattle.isel_spec.proofs.SpecLemmas.{IsSoundOp_at}
use Rattle.plain_search.proofs.TrialLemmas.{results_at}
use Rattle.plain_search.proofs.trial_count.results_of.Goals as goal

pub overflow_cast-result : goal.overflow_cast-result
overflow_cast-result c =
    let k = IsSoundOp_at c.args.spec.now c.args.op _ c.op.ensures.1 in
    let few = k.most in
    let size = c.len.ensures in
    omega (arith, few, size)

pub returns-clause-value : goal.returns-clause-value
returns-clause-value c = c.len.ensures ∙ results_at c.args.spec.now c.args.op _ _ c.op.ensures.1

pub returns-clause-small : goal.returns-clause-small
returns-clause-small c =
    let k = IsSoundOp_at c.args.spec.now c.args.op _ c.op.ensures.1 in
    subst (λ n. n ≤ 3) (sym c.len.ensures) k.most
