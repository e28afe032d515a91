use Rattle.std.proofs.Common.{below_more, subst}
use Rattle.bv_terms.specs.WellSorted.{InputFits}
use Rattle.bv_terms.proofs.EvalLemmas.{InputsFit-node}
use Rattle.term_tests.proofs.tests.terms.inputs_fit.Goals as goal

pub loop-place-preserved : goal.loop-place-preserved
loop-place-preserved c =
    let own = subst (λ inputs. InputFits inputs c.node.result.0.now) c.as_slice.ensures
    (c.input_fits.ensures c.if-not-input_fits.false) in
    below_more _ _ c.loop-place.invariant
    (InputsFit-node c.args.terms.now c.len-place-end.ensures.table c.args.env.now.values c.loop-place.place _
    c.node.ensures own c.loop-place.invariant)
