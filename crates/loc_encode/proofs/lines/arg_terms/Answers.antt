use Rattle.std.proofs.Common.{◌∙◌, ap, map, List}
use Rattle.bv_terms.specs.declared.value.Sort.TheVariants as sort
use Rattle.bv_terms.specs.Table.{term_at}
use Rattle.loc_encode.specs.declared.taking.Taker.TheVariants as taker
use Rattle.loc_encode.specs.Lines.{Sourced, sourced, IsIn, IsId, taken_term}
use Rattle.loc_encode.proofs.GrowthLemmas.{ids_keep, sources_keep, all-stay, all-same}
use Rattle.loc_encode.proofs.GrowthLemmas.{IsListing-none, IsListing-more, IsListing-end}
use Rattle.loc_encode.proofs.FrontLemmas.{arg-front, arg-end}
use Rattle.loc_encode.proofs.lines.arg_terms.Goals as goal

pub loop-place-init : goal.loop-place-init
loop-place-init c =
    IsListing-none IsId term_at c.args.terms.now c.new-ids.result.items _ c.requires.table c.new-ids.ensures.items

pub taken_term-requires-clause-sources : goal.taken_term-requires-clause-sources
taken_term-requires-clause-sources c =
    all-stay IsIn sourced sources_keep c.args.terms.now c.loop-place.terms c.loop-place.invariant.extends
    c.args.sources.now c.requires.sources

pub loop-place-preserved : goal.loop-place-preserved
loop-place-preserved c =
    let old = c.args.terms.now in
    let sources : List Sourced = map (sourced old) c.args.sources.now in
    let i = c.loop-place.place in
    IsListing-more IsId term_at ids_keep old c.loop-place.terms c.taken_term.new.terms c.loop-place.ids.items
    c.push.new.self.items c.in_ok-id.id _ _ _ _ c.loop-place.invariant
    (arg-front c.args.line sources c.args.sorts.now i sort.Bool c.loop-place-test.true) c.taken_term.ensures.table
    c.taken_term.ensures.extends c.in_ok-id.ensures.within
    (c.in_ok-id.ensures.term ∙ ap (taken_term (taker.Arg c.args.line i) _)
    (all-same IsIn sourced sources_keep old c.loop-place.terms c.loop-place.invariant.extends c.args.sources.now
    c.requires.sources))
    c.in_ok-push.ensures.items

pub returns-clause-terms : goal.returns-clause-terms
returns-clause-terms c =
    let old = c.args.terms.now in
    let sources : List Sourced = map (sourced old) c.args.sources.now in
    IsListing-end IsId term_at old c.loop-place.terms c.loop-place.ids.items _ _ c.loop-place.invariant
    (arg-end c.args.line sources c.args.sorts.now c.loop-place.place c.loop-place-test.false)
