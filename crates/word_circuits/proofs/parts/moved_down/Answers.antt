use Rattle.std.proofs.Common.{◌-◌, ◌++◌, length, drop, replicate, ap, subst, sym, ◌∙◌, arith}
use Rattle.std.proofs.lemmas.List.{take_all, length-drop}
use Rattle.std.proofs.lemmas.Result.{IfOk-weaker}
use Rattle.word_circuits.specs.Word.{IsWordOf}
use Rattle.word_circuits.proofs.PartLemmas.{moved_down-of}
use Rattle.word_circuits.proofs.parts.moved_down.Goals as goal

pub returns : goal.returns
returns c =
    IfOk-weaker c.extended.result _ _
    (λ r e n over top. subst (IsWordOf n _ _)
    (sym (e ∙ ap (λ xs. xs ++ replicate c.args.by c.args.fill)
    (take_all (length c.args.word.now - c.args.by) (drop c.args.by c.args.word.now)
    (omega (arith, length-drop c.args.by c.args.word.now)))))
    (moved_down-of c.args.word.now c.args.by c.args.fill c.requires over top))
    c.extended.ensures
