use Rattle.std.proofs.Common.{bit_and, bit_or, bit_xor, length, refl}
use Rattle.std.proofs.lemmas.Result.{IfOk-weaker}
use Rattle.bv_terms.specs.declared.op.Op.TheVariants as op
use Rattle.bv_terms.specs.Words.{udiv, urem}
use Rattle.bit_blast.proofs.OperationLemmas.{arithmetic-as}
use Rattle.bit_blast.proofs.word.arithmetic.Goals as goal

pub returns-in-BvAnd-clause-word : goal.returns-in-BvAnd-clause-word
returns-in-BvAnd-clause-word c = IfOk-weaker c.zip.result _ _
    (λ r is. arithmetic-as c.args.op op.BvAnd c.in-BvAnd.is _ c.args.left.now c.args.right.now r bit_and
    (λ inputs m k. refl) is)
    c.zip.ensures.word

pub returns-in-BvOr-clause-word : goal.returns-in-BvOr-clause-word
returns-in-BvOr-clause-word c = IfOk-weaker c.zip-in-BvOr.result _ _
    (λ r is. arithmetic-as c.args.op op.BvOr c.in-BvOr.is _ c.args.left.now c.args.right.now r bit_or
    (λ inputs m k. refl) is)
    c.zip-in-BvOr.ensures.word

pub returns-in-BvXor-clause-word : goal.returns-in-BvXor-clause-word
returns-in-BvXor-clause-word c = IfOk-weaker c.zip-in-BvXor.result _ _
    (λ r is. arithmetic-as c.args.op op.BvXor c.in-BvXor.is _ c.args.left.now c.args.right.now r bit_xor
    (λ inputs m k. refl) is)
    c.zip-in-BvXor.ensures.word

pub returns-in_ok-division-in-BvUdiv-clause-word : goal.returns-in_ok-division-in-BvUdiv-clause-word
returns-in_ok-division-in-BvUdiv-clause-word c =
    arithmetic-as c.args.op op.BvUdiv c.in-BvUdiv.is _ c.args.left.now c.args.right.now _
    (udiv (length c.args.left.now)) (λ inputs m k. refl) c.in_ok-division-in-BvUdiv.ensures.quotient

pub returns-in_ok-division-in-BvUrem-clause-word : goal.returns-in_ok-division-in-BvUrem-clause-word
returns-in_ok-division-in-BvUrem-clause-word c =
    arithmetic-as c.args.op op.BvUrem c.in-BvUrem.is _ c.args.left.now c.args.right.now _
    urem (λ inputs m k. refl) c.in_ok-division-in-BvUrem.ensures.rest
