use Rattle.std.proofs.Common.{subst, sym}
use Rattle.std.proofs.lemmas.Result.{IfOk-weaker}
use Rattle.word_circuits.specs.Word.{IsWordOf}
use Rattle.word_circuits.proofs.PartLemmas.{part-of}
use Rattle.word_circuits.proofs.parts.part.Goals as goal

pub returns : goal.returns
returns c =
    IfOk-weaker c.copied.result _ _
    (λ r e n over. subst (IsWordOf n _ _) (sym e)
    (part-of c.args.word.now c.args.low c.args.high over c.requires.order c.requires.within)) c.copied.ensures
