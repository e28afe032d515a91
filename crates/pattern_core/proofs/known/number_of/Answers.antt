use Rattle.std.proofs.Common.{◌≡◌, refl, arith, ap, ◌∙◌, drop}
use Rattle.pattern_core.specs.Known.{number_of}
use Rattle.pattern_core.proofs.KnownLemmas.{number_start, number_more, places}
use Rattle.pattern_core.proofs.known.number_of.Goals as goal

pub loop-place-init : goal.loop-place-init
loop-place-init c = (number_start c.args.values.now _ refl, places)

pub loop-place-preserved : goal.loop-place-preserved
loop-place-preserved c =
    let is = c.in_ok-number.ensures in (
      number_more c.args.values.now c.loop-place.place _ c.loop-place.number c.in_ok-number.number
          (omega (arith, c.loop-place-test.true)) c.loop-place.auto.place c.loop-place.invariant.0 is.0,
      is.1,
    )

pub returns : goal.returns
returns c =
    let none : c.loop-place.place ≡ 0 = omega (arith, c.loop-place-test.false) in
    (c.loop-place.invariant.0 ∙ ap (λ i. number_of (drop i c.args.values.now)) none, c.loop-place.invariant.1)
