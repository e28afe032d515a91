use Rattle.std.proofs.Common.{◌+◌, length, ap, subst, sym, ◌∙◌, false, arith}
use Rattle.circuit.specs.declared.signal.Signal.TheVariants.{Constant}
use Rattle.circuit.proofs.GrowthLemmas.{grows-itself, grows-then, all-over-grows}
use Rattle.word_circuits.specs.Word.{AreOver}
use Rattle.word_circuits.proofs.QuotientLemmas.{divided-start, divided-grows, divided-more, divided-quotient}
use Rattle.word_circuits.proofs.QuotientLemmas.{divided-rest}
use Rattle.word_circuits.proofs.quotients.division.Goals as goal

pub loop-place-init : goal.loop-place-init
loop-place-init c = (
  grows-itself c.requires.netlist,
  divided-start c.args.dividend.now c.args.divisor.now c.new-quotient.result c.in_ok-rest.rest c.new-quotient.ensures
      (c.in_ok-rest.ensures c.args.circuit.now),
)

pub digit_of-requires-clause-divisor : goal.digit_of-requires-clause-divisor
digit_of-requires-clause-divisor c =
    subst (AreOver c.loop-place.circuit) (sym c.as_slice-in-loop-place.ensures)
    (c.in_ok-wide.ensures c.loop-place.circuit
    (all-over-grows c.loop-place.invariant.0 c.args.divisor.now c.requires.divisor)).over

pub digit_of-requires-clause-width : goal.digit_of-requires-clause-width
digit_of-requires-clause-width c =
    ap length c.as_slice-in-loop-place.ensures
    ∙ (c.in_ok-wide.ensures c.args.circuit.now c.requires.divisor).places ∙ ap (λ k. k + 1) c.requires.width
    ∙ ap (λ k. k + 1) (sym (ap length c.as_slice.ensures ∙ c.loop-place.invariant.1.rest_is.places))

pub loop-place-preserved : goal.loop-place-preserved
loop-place-preserved c =
    let growth = grows-then c.loop-place.invariant.0 c.in_ok-digit.ensures.grows in (
      growth,
      divided-more c.args.dividend.now c.args.divisor.now c.in_ok-wide.wide c.as_slice-in-loop-place.result.now
          c.loop-place.quotient c.as_slice-in-loop-place-2.result.now c.in_ok-quotient.quotient c.loop-place.rest
          c.as_slice.result.now c.in_ok-digit.left c.loop-place.place (Constant false) c.in_ok-digit.digit (omega arith)
          (divided-grows c.in_ok-digit.ensures.grows c.loop-place.invariant.1) c.requires.width
          (c.in_ok-wide.ensures c.digit_of.new.circuit
          (all-over-grows growth c.args.divisor.now c.requires.divisor)) c.as_slice-in-loop-place.ensures
          c.as_slice-in-loop-place-2.ensures c.in_ok-quotient.ensures c.as_slice.ensures
          c.in_ok-digit.ensures.digit c.in_ok-digit.ensures.rest,
    )

pub returns-clause-quotient : goal.returns-clause-quotient
returns-clause-quotient c =
    divided-quotient c.args.dividend.now c.args.divisor.now c.loop-place.quotient c.loop-place.rest c.loop-place.place
    c.loop-place.invariant.1 (omega arith)

pub returns-clause-rest : goal.returns-clause-rest
returns-clause-rest c =
    divided-rest c.args.dividend.now c.args.divisor.now c.loop-place.quotient c.loop-place.rest c.loop-place.place
    c.loop-place.invariant.1 (omega arith)
