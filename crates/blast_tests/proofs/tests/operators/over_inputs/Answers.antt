use Rattle.std.proofs.Common.{◌<◌, length, All, arith, sym, subst}
use Rattle.std.proofs.lemmas.List.Elements.{All-push}
use Rattle.bv_terms.specs.declared.op.TermId.{TermId}
use Rattle.blast_tests.proofs.tests.operators.over_inputs.Goals as goal

pub loop-place-preserved : goal.loop-place-preserved
loop-place-preserved c =
    let P : TermId → Type 0 = λ at. at.0 < length c.made.new.terms.nodes in
    let longer = c.in_ok-made.ensures.longer in
    let old : All P c.loop-place.args.items = λ k d l.
    let before = c.loop-place.invariant k d l in
    omega (arith, before, longer) in
    subst (All P) (sym c.in_ok-push.ensures.items)
    (All-push P c.loop-place.args.items c.in_ok-made.field-0 old c.in_ok-made.ensures.there)
