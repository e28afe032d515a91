use Rattle.std.proofs.Common.{◌/◌, ◌^◌, length, refl}
use Rattle.std.proofs.lemmas.Result.{IfOk-weaker}
use Rattle.bv_terms.specs.declared.op.Op.TheVariants as op
use Rattle.bv_terms.specs.Words.{ashr}
use Rattle.bit_blast.proofs.OperationLemmas.{arithmetic-as}
use Rattle.bit_blast.proofs.word.moved.Goals as goal

pub returns-in-BvLshr-clause-word : goal.returns-in-BvLshr-clause-word
returns-in-BvLshr-clause-word c = IfOk-weaker c.shifted_right.result _ _
    (λ r is. arithmetic-as c.args.op op.BvLshr c.in-BvLshr.is _ c.args.left.now c.args.right.now r (λ m k. m / 2 ^ k)
    (λ inputs m k. refl) is)
    c.shifted_right.ensures.word

pub returns-in-BvAshr-clause-word : goal.returns-in-BvAshr-clause-word
returns-in-BvAshr-clause-word c = IfOk-weaker c.shifted_right_signed.result _ _
    (λ r is. arithmetic-as c.args.op op.BvAshr c.in-BvAshr.is _ c.args.left.now c.args.right.now r
    (ashr (length c.args.left.now)) (λ inputs m k. refl) is)
    c.shifted_right_signed.ensures.word
