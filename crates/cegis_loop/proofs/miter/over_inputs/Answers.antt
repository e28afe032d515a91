use Rattle.bv_terms.specs.declared.op.TermId.{TermId}
use Rattle.cegis_loop.proofs.MiterTables.{IsOverInputs-more}
use Rattle.cegis_loop.proofs.miter.over_inputs.Goals as goal

pub loop-input-preserved : goal.loop-input-preserved
loop-input-preserved c =
    let zeroth : TermId = record { 0 = 0 } in
    IsOverInputs-more c.args.terms.now c.loop-input.terms c.and_equal.new.terms c.args.formula c.args.inputs.now
    c.loop-input.input-index c.loop-input.whole c.in_ok-whole.whole zeroth c.loop-input.invariant c.requires.inputs
    c.loop-input-test.true c.in_ok-whole.ensures.table c.in_ok-whole.ensures.extends c.in_ok-whole.ensures.within
    c.in_ok-whole.ensures.term
