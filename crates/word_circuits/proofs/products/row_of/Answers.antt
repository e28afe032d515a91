use Rattle.std.proofs.Common.{length, ap, subst, sym, ◌∙◌}
use Rattle.circuit.proofs.GrowthLemmas.{all-over-grows}
use Rattle.word_circuits.specs.Word.{AreOver}
use Rattle.word_circuits.proofs.WordLemmas.{word-of}
use Rattle.word_circuits.proofs.LoopLemmas.{ok-then}
use Rattle.word_circuits.proofs.ProductLemmas.{row-number}
use Rattle.word_circuits.proofs.products.row_of.Goals as goal

pub select-requires-clause-chosen : goal.select-requires-clause-chosen
select-requires-clause-chosen c =
    subst (AreOver c.args.circuit.now) (sym c.as_slice.ensures)
    (c.in_ok-moved.ensures c.args.circuit.now c.requires.word).over

pub select-requires-clause-otherwise : goal.select-requires-clause-otherwise
select-requires-clause-otherwise c =
    subst (AreOver c.args.circuit.now) (sym c.as_slice-2.ensures) (c.in_ok-zeros.ensures c.args.circuit.now).over

pub select-requires-clause-width : goal.select-requires-clause-width
select-requires-clause-width c =
    ap length c.as_slice-2.ensures ∙ (c.in_ok-zeros.ensures c.args.circuit.now).places
    ∙ sym (ap length c.as_slice.ensures ∙ (c.in_ok-moved.ensures c.args.circuit.now c.requires.word).places)

pub returns-clause-word : goal.returns-clause-word
returns-clause-word c =
    ok-then c.select.result c.select.ensures.grows c.select.ensures.word
    (λ growth r is. word-of is (length c.args.word.now)
    (ap length c.as_slice.ensures ∙ (c.in_ok-moved.ensures c.args.circuit.now c.requires.word).places) _
    (row-number c.args.word.now c.in_ok-moved.moved c.as_slice.result.now c.in_ok-zeros.zeros c.as_slice-2.result.now
    c.args.place c.args.condition c.as_slice.ensures c.as_slice-2.ensures
    (c.in_ok-moved.ensures c.select.new.circuit (all-over-grows growth c.args.word.now c.requires.word))
    (c.in_ok-zeros.ensures c.select.new.circuit)))
