use Rattle.std.proofs.Common.{get_or, slice_get, ◌≡◌, Some, arith}
use Rattle.std.proofs.lemmas.Option.{slice_get-get_or}
use Rattle.bv_terms.proofs.GraftLemmas.{Extends-further}
use Rattle.pattern_core.specs.declared.pattern.Src.{Src}
use Rattle.pattern_core.specs.declared.pattern.Src.TheVariants.{Input}
use Rattle.loc_encode.specs.declared.slots.Slot.TheVariants as slot
use Rattle.loc_encode.specs.Matching.{IsSet}
use Rattle.loc_encode.proofs.ConditionLemmas.{below-more, below-whole}
use Rattle.loc_encode.proofs.difference.and_results.Goals as goal

pub loop-place-preserved : goal.loop-place-preserved
loop-place-preserved c =
    let args = c.args.results.now in
    let place = c.loop-place.place in
    let source : Src = get_or args place (Input 0) in
    let at : slice_get args place ≡ Some source = slice_get-get_or args place (Input 0) c.loop-place-test.true in (
      Extends-further c.args.terms.now c.loop-place.terms c.and_choice.new.terms c.loop-place.invariant.0
          c.and_choice.ensures.extends,
      c.in_ok-all.ensures.there,
      λ claim slots.
          below-more claim c.args.terms.now c.loop-place.terms c.and_choice.new.terms c.args.earlier c.loop-place.all
          c.in_ok-all.all (λ k s. IsSet (slot.Result k s)) args place source at
          (c.loop-place.invariant.2 claim slots) (c.in_ok-all.ensures.both claim (slots place source at)),
    )

pub returns-clause-both : goal.returns-clause-both
returns-clause-both c = λ claim slots.
    below-whole claim c.args.terms.now c.loop-place.terms c.args.earlier c.loop-place.all
    (λ k s. IsSet (slot.Result k s)) c.args.results.now c.loop-place.place (omega arith)
    (c.loop-place.invariant.2 claim slots)
