use Rattle.std.proofs.Common.{◌≡◌, ◌∙◌, Some, sym, subst, get_or, slice_get, arith}
use Rattle.std.proofs.lemmas.List.{take_all}
use Rattle.std.proofs.lemmas.Option.{slice_get-get_or}
use Rattle.bv_terms.specs.declared.op.TermId.{TermId}
use Rattle.isel_spec.specs.Spec.{file}
use Rattle.pattern_core.specs.declared.pattern.Src.{Src}
use Rattle.pattern_core.specs.declared.pattern.Src.TheVariants.{Input}
use Rattle.loc_encode.specs.SlotValues.{IsChosenSource}
use Rattle.loc_encode.proofs.ReadingLemmas.{take-with}
use Rattle.loc_encode.proofs.decoding.results_at.Goals as goal

pub loop-place-preserved : goal.loop-place-preserved
loop-place-preserved c = λ g sources here count each.
    let results = c.args.results.now in
    let place = c.loop-place.place in
    let at : TermId = get_or results place (record { 0 = 0 }) in
    let source : Src = get_or sources place (Input 0) in
    let within = c.loop-place-test.true in
    let there : slice_get results place ≡ Some at = slice_get-get_or results place (record { 0 = 0 }) within in
    let of : slice_get sources place ≡ Some source =
    slice_get-get_or sources place (Input 0) (omega (arith, count, within)) in
    let chosen
    : IsChosenSource (file c.args.spec.now) g c.args.nodes.now c.sort-sort.result c.args.values.now c.number.result
    source =
    subst (λ n. IsChosenSource (file c.args.spec.now) g c.args.nodes.now c.sort-sort.result c.args.values.now n source)
    (sym c.number.ensures) (each place at c.sort-sort.result source there c.sort-sort.ensures of) in
    c.in_ok-push.ensures.items
    ∙ take-with sources c.loop-place.sources.items place source c.source_of.result of
    (c.source_of.ensures g source here chosen) (c.loop-place.invariant g sources here count each)

pub returns : goal.returns
returns c = λ g sources here count each.
    let past = c.loop-place-test.false in
    c.from_vec.ensures ∙ c.loop-place.invariant g sources here count each
    ∙ take_all c.loop-place.place sources (omega (arith, count, past))
