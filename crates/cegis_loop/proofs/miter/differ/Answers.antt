use Rattle.std.proofs.Common.{◌≡◌, length, min, arith}
use Rattle.bv_terms.specs.declared.op.TermId.{TermId}
use Rattle.cegis_loop.proofs.MiterTables.{IsDiffering-more, IsDiffering-all}
use Rattle.cegis_loop.proofs.miter.differ.Goals as goal

pub loop-place-preserved : goal.loop-place-preserved
loop-place-preserved c =
    let zeroth : TermId = record { 0 = 0 } in
    IsDiffering-more c.args.terms.now c.loop-place.terms c.or_unequal.new.terms c.args.left.now c.args.right.now
    c.loop-place.place c.loop-place.formula c.in_ok-formula-2.formula zeroth zeroth c.loop-place.invariant
    c.requires.left c.requires.right (omega arith) (omega arith) c.in_ok-formula-2.ensures.table
    c.in_ok-formula-2.ensures.extends c.in_ok-formula-2.ensures.within c.in_ok-formula-2.ensures.term

pub returns-clause-term : goal.returns-clause-term
returns-clause-term c =
    let at_end : c.loop-place.place ≡ min (length c.args.left.now) (length c.args.right.now) = omega arith in
    IsDiffering-all c.args.terms.now c.loop-place.terms c.args.left.now c.args.right.now c.loop-place.place
    c.loop-place.formula c.loop-place.invariant at_end
