use Rattle.std.proofs.Common.{arith}
use Rattle.loc_encode.specs.Lines.{sourced, IsIn}
use Rattle.loc_encode.proofs.GrowthLemmas.{sources_keep, all-stay}
use Rattle.loc_encode.proofs.FrontLemmas.{IsComparing-start, IsComparing-more, IsComparing-end, as-many, result-at}
use Rattle.loc_encode.proofs.agreement.all_equal.Goals as goal

pub loop-place-init : goal.loop-place-init
loop-place-init c =
    IsComparing-start c.args.terms.now c.constant.new.terms c.args.from.now c.args.results.now c.args.values.now
    c.args.sources.now c.in_ok-so_far.so_far c.constant.ensures.table c.constant.ensures.extends
    c.in_ok-so_far.ensures.within c.in_ok-so_far.ensures.term

pub bounds-values-place : goal.bounds-values-place
bounds-values-place c =
    let same = as-many c.args.from.now c.args.results.now c.args.values.now c.requires.results in
    omega (arith, same, c.loop-place-test.true)

pub compared-requires-clause-result : goal.compared-requires-clause-result
compared-requires-clause-result c =
    result-at c.args.from.now c.args.results.now c.args.values.now c.loop-place.place _ _ c.requires.results
    c.loop-place-test.true

pub compared-requires-clause-sources : goal.compared-requires-clause-sources
compared-requires-clause-sources c =
    all-stay IsIn sourced sources_keep c.args.terms.now c.loop-place.terms c.loop-place.invariant.extends
    c.args.sources.now c.requires.sources

pub loop-place-preserved : goal.loop-place-preserved
loop-place-preserved c =
    let same = as-many c.args.from.now c.args.results.now c.args.values.now c.requires.results in
    IsComparing-more c.args.terms.now c.loop-place.terms c.compared.new.terms c.args.from.now c.args.results.now
    c.args.values.now c.args.sources.now c.loop-place.place c.loop-place.so_far c.in_ok-so_far-2.so_far _ _
    c.loop-place.invariant c.loop-place-test.true (omega (arith, same, c.loop-place-test.true)) c.requires.sources
    c.compared.ensures.table c.compared.ensures.extends c.in_ok-so_far-2.ensures.within c.in_ok-so_far-2.ensures.truth
    c.in_ok-so_far-2.ensures.term

pub returns-clause-term : goal.returns-clause-term
returns-clause-term c =
    IsComparing-end c.args.terms.now c.loop-place.terms c.args.from.now c.args.results.now c.args.values.now
    c.args.sources.now c.loop-place.place c.loop-place.so_far c.loop-place.invariant c.loop-place-test.false
