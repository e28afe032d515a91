use Rattle.std.proofs.Common.{get_or, slice_get, ◌≡◌, ℕ, Some, List, arith}
use Rattle.std.proofs.lemmas.Option.{slice_get-get_or}
use Rattle.bv_terms.specs.declared.value.Value.{Value}
use Rattle.bv_terms.proofs.GraftLemmas.{Extends-further}
use Rattle.loc_encode.specs.declared.slots.Slot.TheVariants as slot
use Rattle.loc_encode.specs.Matching.{IsNumber}
use Rattle.loc_encode.proofs.ConditionLemmas.{below-more, below-whole, number-at}
use Rattle.loc_encode.proofs.difference.and_attrs.Goals as goal

pub loop-place-preserved : goal.loop-place-preserved
loop-place-preserved c =
    let widths = c.args.widths.now in
    let numbers = c.args.numbers.now in
    let place = c.loop-place.place in
    let width : ℕ = get_or widths place 0 in
    let number : ℕ = get_or numbers place 0 in
    let at : slice_get widths place ≡ Some width = slice_get-get_or widths place 0 c.loop-place-test.true in
    let of : slice_get numbers place ≡ Some number = slice_get-get_or numbers place 0 (omega arith) in
    let P : ℕ → ℕ → List Value → Type 0 =
    λ k w env. (a : ℕ) → slice_get numbers k ≡ Some a → IsNumber (slot.Attr c.args.line c.args.op k) w a env in (
      Extends-further c.args.terms.now c.loop-place.terms c.and_number.new.terms c.loop-place.invariant.0
          c.and_number.ensures.extends,
      c.in_ok-all.ensures.there,
      λ claim slots.
          below-more claim c.args.terms.now c.loop-place.terms c.and_number.new.terms c.args.earlier c.loop-place.all
          c.in_ok-all.all P widths place width at (c.loop-place.invariant.2 claim slots)
          (number-at claim c.loop-place.terms c.and_number.new.terms c.loop-place.all c.in_ok-all.all
          (slot.Attr c.args.line c.args.op place) width number numbers place of
          (c.in_ok-all.ensures.both claim (slots place width at))),
    )

pub returns-clause-both : goal.returns-clause-both
returns-clause-both c = λ claim slots.
    let P : ℕ → ℕ → List Value → Type 0 =
    λ k w env. (a : ℕ) → slice_get c.args.numbers.now k ≡ Some a
    → IsNumber (slot.Attr c.args.line c.args.op k) w a env in
    below-whole claim c.args.terms.now c.loop-place.terms c.args.earlier c.loop-place.all P c.args.widths.now
    c.loop-place.place (omega arith) (c.loop-place.invariant.2 claim slots)
