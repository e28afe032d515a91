use Rattle.std.proofs.Common.{◌≤◌, length, sym, subst, ap, ◌∙◌, refl}
use Rattle.isel_spec.proofs.SpecLemmas.{IsSoundOp_at}
use Rattle.pattern_core.proofs.HopelessLemmas.{args-of}
use Rattle.pattern_core.proofs.feasibility.arity.Goals as goal

pub returns-clause-value : goal.returns-clause-value
returns-clause-value c =
    c.len.ensures
    ∙ ap length (args-of c.args.spec.now c.args.op c.op.ensures.0 c.op.result.now c.op.result.now.args c.op.ensures.1
    refl)

pub returns-clause-small : goal.returns-clause-small
returns-clause-small c =
    let k = IsSoundOp_at c.args.spec.now c.args.op _ c.op.ensures.1 in
    subst (λ n. n ≤ 4) (sym c.len.ensures) k.few
