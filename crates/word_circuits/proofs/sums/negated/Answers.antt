use Rattle.std.proofs.Common.{length, ap, subst, sym, ◌∙◌}
use Rattle.std.proofs.lemmas.Result.{IfOk-weaker}
use Rattle.word_circuits.specs.Word.{AreOver}
use Rattle.word_circuits.proofs.WordLemmas.{word-of}
use Rattle.word_circuits.proofs.SumLemmas.{negated-number}
use Rattle.word_circuits.proofs.sums.negated.Goals as goal

pub difference-requires-clause-left : goal.difference-requires-clause-left
difference-requires-clause-left c =
    subst (AreOver c.args.circuit.now) (sym c.as_slice.ensures) (c.in_ok-zero.ensures c.args.circuit.now).over

pub difference-requires-clause-width : goal.difference-requires-clause-width
difference-requires-clause-width c =
    sym (ap length c.as_slice.ensures ∙ (c.in_ok-zero.ensures c.args.circuit.now).places)

pub returns-clause-word : goal.returns-clause-word
returns-clause-word c =
    IfOk-weaker c.difference.result _ _
    (λ r is. word-of is (length c.args.word.now)
    (ap length c.as_slice.ensures ∙ (c.in_ok-zero.ensures c.args.circuit.now).places) _
    (negated-number c.args.word.now c.in_ok-zero.zero c.as_slice.result.now
    (c.in_ok-zero.ensures c.difference.new.circuit) c.as_slice.ensures))
    c.difference.ensures.word
