use Rattle.std.proofs.Common.{ℕ, List, ◌≤◌, length, sum, ap, sym, subst, ◌∙◌}
use Rattle.isel_spec.proofs.SpecLemmas.{IsSoundOp_at}
use Rattle.plain_search.proofs.ExtentLemmas.{attribute_bits_at}
use Rattle.plain_search.proofs.extent.attribute_bits_of.Goals as goal

pub sum_of-requires : goal.sum_of-requires
sum_of-requires c =
    let k = IsSoundOp_at c.args.spec.now c.args.op _ c.op.ensures.1 in
    subst (λ (ws : List ℕ). length ws ≤ 2) (sym c.as_slice.ensures) k.few_attrs

pub returns-clause-value : goal.returns-clause-value
returns-clause-value c =
    c.sum_of.ensures.value ∙ ap sum c.as_slice.ensures
    ∙ attribute_bits_at c.args.spec.now c.args.op _ _ c.op.ensures.1
