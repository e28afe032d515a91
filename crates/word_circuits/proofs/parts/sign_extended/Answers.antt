use Rattle.std.proofs.Common.{◌-◌, length, false, subst, sym, arith}
use Rattle.std.proofs.lemmas.Result.{IfOk-weaker}
use Rattle.circuit.specs.declared.signal.Signal.TheVariants.{Constant}
use Rattle.word_circuits.specs.Word.{IsWordOf}
use Rattle.word_circuits.proofs.PartLemmas.{sign_extended-of}
use Rattle.word_circuits.proofs.parts.sign_extended.Goals as goal

pub returns : goal.returns
returns c =
    IfOk-weaker c.extended.result _ _
    (λ r e n over. subst (IsWordOf n _ _) (sym e)
    (sign_extended-of c.args.word.now c.args.by (length c.args.word.now - 1) (Constant false) (omega arith) over))
    c.extended.ensures
