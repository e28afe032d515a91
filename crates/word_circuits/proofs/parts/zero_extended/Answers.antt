use Rattle.std.proofs.Common.{subst, sym}
use Rattle.std.proofs.lemmas.Result.{IfOk-weaker}
use Rattle.word_circuits.specs.Word.{IsWordOf}
use Rattle.word_circuits.proofs.PartLemmas.{zero_extended-of}
use Rattle.word_circuits.proofs.parts.zero_extended.Goals as goal

pub returns : goal.returns
returns c =
    IfOk-weaker c.extended.result _ _
    (λ r e n over. subst (IsWordOf n _ _) (sym e) (zero_extended-of c.args.word.now c.args.by over))
    c.extended.ensures
