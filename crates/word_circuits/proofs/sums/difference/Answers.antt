use Rattle.std.proofs.Common.{length, ap, subst, sym, ◌∙◌}
use Rattle.circuit.proofs.GrowthLemmas.{all-over-grows}
use Rattle.word_circuits.specs.Word.{AreOver}
use Rattle.word_circuits.proofs.WordLemmas.{word-as}
use Rattle.word_circuits.proofs.SumLemmas.{difference-number}
use Rattle.word_circuits.proofs.sums.difference.Goals as goal

pub sum-requires-clause-right : goal.sum-requires-clause-right
sum-requires-clause-right c =
    subst (AreOver c.args.circuit.now) (sym c.as_slice.ensures)
    (c.in_ok-opposite.ensures c.args.circuit.now c.requires.right).over

pub sum-requires-clause-width : goal.sum-requires-clause-width
sum-requires-clause-width c =
    ap length c.as_slice.ensures ∙ (c.in_ok-opposite.ensures c.args.circuit.now c.requires.right).places
    ∙ c.requires.width

pub returns-clause-word : goal.returns-clause-word
returns-clause-word c =
    word-as c.in_ok-result.ensures.word _
    (difference-number c.args.left.now c.args.right.now c.in_ok-opposite.opposite c.as_slice.result.now
    (c.in_ok-opposite.ensures c.sum.new.circuit
    (all-over-grows c.in_ok-result.ensures.grows c.args.right.now c.requires.right)) c.as_slice.ensures
    c.requires.width)
