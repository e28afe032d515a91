use Rattle.std.proofs.Common.{◌-◌, refl, ℕ, arith}
use Rattle.bv_terms.specs.declared.op.TermId.{TermId}
use Rattle.term_text.proofs.WritingLemmas.{operands-more, operands-start}
use Rattle.term_text.proofs.write.push_operands.Goals as goal

abbrev zeroth : TermId
zeroth = record { 0 = 0 }

pub loop-place-init : goal.loop-place-init
loop-place-init c = operands-start _ _ c.args.args.now _ refl (omega arith)

pub loop-place-preserved : goal.loop-place-preserved
loop-place-preserved c =
    let i : ℕ = c.loop-place.place - 1 in
    operands-more _ _ _ c.args.args.now i c.loop-place.place zeroth (omega arith) (omega arith) c.loop-place.invariant
    c.in_ok-push.ensures.items
