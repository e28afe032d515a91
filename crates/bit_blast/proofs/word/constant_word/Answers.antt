use Rattle.std.proofs.Common.{[], sym, subst}
use Rattle.std.proofs.lemmas.Result.{IfOk-weaker}
use Rattle.bit_blast.specs.Operations.{MayStand, IsOpWord}
use Rattle.bit_blast.proofs.OperationLemmas.{none-else, constant-word}
use Rattle.bit_blast.proofs.word.constant_word.Goals as goal

pub unreachable-requires : goal.unreachable-requires
unreachable-requires c = none-else c.args.op c.in_default.not-Bool c.in_default.not-Bits c.requires.constant
    c.requires.stands

pub returns-in-Bits : goal.returns-in-Bits
returns-in-Bits c = IfOk-weaker c.constant.result _ _
    (λ word is n. subst (λ o. IsOpWord n o [] word) (sym c.in-Bits.is)
    (constant-word c.in-Bits.width c.in-Bits.number c.from.result c.from.ensures
    (subst (λ o. MayStand o []) c.in-Bits.is c.requires.stands) n word (is n)))
    c.constant.ensures
