-- The first misfit is that of the given slots, or else the first further argument that does not fit the last one.
use Rattle.std.proofs.Common.{◌+◌, length, option_map, position, not, sym, ap, ◌∙◌, arith}
use Rattle.bv_terms.specs.Signature.{fits}
use Rattle.term_text.proofs.SlotLemmas.{misfit-front, misfit-later, misfit-short}
use Rattle.term_text.proofs.judge.misfit_of_more.Goals as goal

pub returns-in-Some : goal.returns-in-Some
returns-in-Some c =
    sym (misfit-front c.args.pointer c.args.index c.args.slots.now (length c.args.sorts.now) c.args.sorts.now
    c.in-Some.place (sym c.misfit.ensures ∙ c.in-Some.is))

pub returns-then-sorts-slots : goal.returns-then-sorts-slots
returns-then-sorts-slots c =
    sym (misfit-short c.args.pointer c.args.index c.args.slots.now c.in-Some-last.last.now (length c.args.sorts.now)
    c.args.sorts.now (sym c.in-Some-last.ensures.value) c.if-sorts-slots.true (omega arith)
    (sym c.misfit.ensures ∙ c.in_default.is))

pub returns-in_err-place : goal.returns-in_err-place
returns-in_err-place c =
    let later = misfit-later c.args.pointer c.args.index c.args.slots.now c.in-Some-last.last.now
    (length c.args.sorts.now) c.args.sorts.now (sym c.in-Some-last.ensures.value) (omega arith)
    (sym c.misfit.ensures ∙ c.in_default.is) in
    c.from_residual.ensures
    ∙ ap (option_map (λ k. length c.args.slots.now + k))
    (sym c.in_err-place.was ∙ c.misfit_of_one.ensures.place
    ∙ ap (position (λ s. not (fits c.args.pointer c.args.index c.args.sorts.now c.in-Some-last.last.now s)))
    c.split_at.ensures.back)
    ∙ sym later

pub returns : goal.returns
returns c =
    let later = misfit-later c.args.pointer c.args.index c.args.slots.now c.in-Some-last.last.now
    (length c.args.sorts.now) c.args.sorts.now (sym c.in-Some-last.ensures.value) (omega arith)
    (sym c.misfit.ensures ∙ c.in_default.is) in
    ap (option_map (λ k. length c.args.slots.now + k))
    (sym c.in_ok-place.was ∙ c.misfit_of_one.ensures.place
    ∙ ap (position (λ s. not (fits c.args.pointer c.args.index c.args.sorts.now c.in-Some-last.last.now s)))
    c.split_at.ensures.back)
    ∙ sym later
