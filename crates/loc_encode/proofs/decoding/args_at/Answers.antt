use Rattle.std.proofs.Common.{◌≡◌, ◌∙◌, Some, sym, subst, get_or, slice_get, arith}
use Rattle.std.proofs.lemmas.List.{take_all}
use Rattle.std.proofs.lemmas.Option.{slice_get-get_or}
use Rattle.bv_terms.specs.declared.value.Sort.{Sort}
use Rattle.bv_terms.specs.declared.value.Sort.TheVariants as sort
use Rattle.isel_spec.specs.Spec.{file}
use Rattle.pattern_core.specs.declared.pattern.Src.{Src}
use Rattle.pattern_core.specs.declared.pattern.Src.TheVariants.{Input}
use Rattle.loc_encode.specs.SlotValues.{IsChosenSource}
use Rattle.loc_encode.proofs.ReadingLemmas.{take-with}
use Rattle.loc_encode.proofs.decoding.args_at.Goals as goal

pub loop-place-preserved : goal.loop-place-preserved
loop-place-preserved c = λ g args here count each.
    let sorts = c.args.sorts.now in
    let place = c.loop-place.place in
    let t : Sort = get_or sorts place sort.Bool in
    let source : Src = get_or args place (Input 0) in
    let within = c.loop-place-test.true in
    let at : slice_get sorts place ≡ Some t = slice_get-get_or sorts place sort.Bool within in
    let of : slice_get args place ≡ Some source =
    slice_get-get_or args place (Input 0) (omega (arith, count, within)) in
    let chosen : IsChosenSource (file c.args.spec.now) g c.args.nodes.now t c.args.values.now c.number.result source =
    subst (λ n. IsChosenSource (file c.args.spec.now) g c.args.nodes.now t c.args.values.now n source)
    (sym c.number.ensures) (each place t source at of) in
    c.in_ok-push.ensures.items
    ∙ take-with args c.loop-place.args.items place source c.source_of.result of
    (c.source_of.ensures g source here chosen) (c.loop-place.invariant g args here count each)

pub returns : goal.returns
returns c = λ g args here count each.
    let past = c.loop-place-test.false in
    c.from_vec.ensures ∙ c.loop-place.invariant g args here count each
    ∙ take_all c.loop-place.place args (omega (arith, count, past))
