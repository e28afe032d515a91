use Rattle.std.proofs.Common.{length, ap, subst, sym, ◌∙◌, arith}
use Rattle.circuit.proofs.GrowthLemmas.{grows-itself, grows-then, all-over-grows}
use Rattle.word_circuits.specs.Word.{AreOver}
use Rattle.word_circuits.proofs.ProductLemmas.{partial-start, partial-grows, partial-more, partial-end, partial-above}
use Rattle.word_circuits.proofs.products.product_with.Goals as goal

pub loop-place-init : goal.loop-place-init
loop-place-init c = (
  grows-itself c.requires.netlist,
  partial-start c.args.word.now c.args.number c.in_ok-result.result (c.in_ok-result.ensures c.args.circuit.now),
)

pub returns-then-rest-eq0-clause-word : goal.returns-then-rest-eq0-clause-word
returns-then-rest-eq0-clause-word c =
    partial-end c.args.word.now c.args.number c.loop-place.place c.loop-place.rest c.loop-place.result
    c.loop-place.invariant.1 (omega arith)

pub added_row-requires-clause-row : goal.added_row-requires-clause-row
added_row-requires-clause-row c =
    subst (AreOver c.loop-place.circuit) (sym c.as_slice-in-loop-place.ensures)
    (c.in_ok-row.ensures c.loop-place.circuit
    (all-over-grows c.loop-place.invariant.0 c.args.word.now c.requires.word)).over

pub added_row-requires-clause-width : goal.added_row-requires-clause-width
added_row-requires-clause-width c =
    ap length c.as_slice-in-loop-place.ensures
    ∙ (c.in_ok-row.ensures c.loop-place.circuit
    (all-over-grows c.loop-place.invariant.0 c.args.word.now c.requires.word)).places
    ∙ sym (ap length c.as_slice.ensures ∙ c.loop-place.invariant.1.places)

pub loop-place-preserved : goal.loop-place-preserved
loop-place-preserved c =
    let growth = grows-then c.loop-place.invariant.0 c.in_ok-result-2.ensures.grows in (
      growth,
      partial-more c.args.word.now c.args.number c.loop-place.place c.loop-place.rest c.lowest_digit-digit.result.1
          c.lowest_digit-digit.result.0 c.loop-place.result c.as_slice.result.now c.in_ok-row.row
          c.as_slice-in-loop-place.result.now c.in_ok-result-2.result c.lowest_digit-digit.ensures c.as_slice.ensures
          c.as_slice-in-loop-place.ensures (partial-grows c.in_ok-result-2.ensures.grows c.loop-place.invariant.1)
          (c.in_ok-row.ensures c.added_row.new.circuit (all-over-grows growth c.args.word.now c.requires.word))
          c.in_ok-result-2.ensures.word,
    )

pub returns-clause-word : goal.returns-clause-word
returns-clause-word c =
    partial-above c.args.word.now c.args.number c.loop-place.place c.loop-place.rest c.loop-place.result
    c.loop-place.invariant.1 (omega arith)
