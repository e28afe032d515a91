use Rattle.std.proofs.Common.{◌-◌, length, ap, sym, false, arith}
use Rattle.std.proofs.lemmas.Result.{IfOk-weaker}
use Rattle.circuit.specs.declared.signal.Signal.TheVariants.{Constant}
use Rattle.word_circuits.specs.Word.{word_number, shifted_with}
use Rattle.word_circuits.proofs.WordLemmas.{word-as}
use Rattle.word_circuits.proofs.SumLemmas.{is_negative-high}
use Rattle.word_circuits.proofs.shifts.shifted_right_signed.Goals as goal

pub returns-clause-word : goal.returns-clause-word
returns-clause-word c =
    IfOk-weaker c.filled.result _ _
    (λ r is. word-as is _ (λ v h. ap (shifted_with (length c.args.word.now) (word_number v c.args.word.now)
    (word_number v c.args.amount.now)) (sym (is_negative-high v c.args.word.now (length c.args.word.now - 1)
    (Constant false) (omega arith)))))
    c.filled.ensures.word
