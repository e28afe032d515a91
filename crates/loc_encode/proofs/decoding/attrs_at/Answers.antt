use Rattle.std.proofs.Common.{◌≡◌, ◌∙◌, ℕ, Some, ap, get_or, slice_get, arith}
use Rattle.std.proofs.lemmas.Option.{slice_get-get_or}
use Rattle.loc_encode.specs.SlotValues.{number_in}
use Rattle.loc_encode.proofs.ReadingLemmas.{take-with}
use Rattle.loc_encode.proofs.decoding.attrs_at.Goals as goal

pub loop-place-preserved : goal.loop-place-preserved
loop-place-preserved c = λ numbers count each.
    let widths = c.args.widths.now in
    let place = c.loop-place.place in
    let width : ℕ = get_or widths place 0 in
    let number : ℕ = get_or numbers place 0 in
    let within = c.loop-place-test.true in
    let at : slice_get widths place ≡ Some width = slice_get-get_or widths place 0 within in
    let of : slice_get numbers place ≡ Some number = slice_get-get_or numbers place 0 (omega (arith, count, within)) in
    let same : c.number_of.result ≡ number =
    c.number_of.ensures ∙ ap (λ n. number_in (slice_get c.args.values.now n)) c.number.ensures
    ∙ ap number_in (each place width number at of) in
    c.in_ok-push.ensures.items
    ∙ take-with numbers c.loop-place.numbers.items place number c.number_of.result of same
    (c.loop-place.invariant numbers count each)
