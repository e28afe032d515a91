use Rattle.std.proofs.Common.{subst, sym}
use Rattle.std.proofs.lemmas.Result.{IfOk-weaker}
use Rattle.word_circuits.specs.Word.{IsWordOf}
use Rattle.word_circuits.proofs.PartLemmas.{moved_up-of}
use Rattle.word_circuits.proofs.parts.moved_up.Goals as goal

pub returns : goal.returns
returns c =
    IfOk-weaker c.joined.result _ _
    (λ r e n over. subst (IsWordOf n _ _) (sym e)
    (moved_up-of c.args.word.now c.in_ok-zeros.zeros c.as_slice.result.now c.args.by c.requires
    (c.in_ok-zeros.ensures n) c.as_slice.ensures over))
    c.joined.ensures.signals
