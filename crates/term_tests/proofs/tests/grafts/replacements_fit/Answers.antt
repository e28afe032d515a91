use Rattle.std.proofs.Common.{below_more, map}
use Rattle.bv_terms.specs.Table.{term_at}
use Rattle.bv_terms.proofs.ReplacedLemmas.{ReplacementsFit-node}
use Rattle.term_tests.proofs.tests.grafts.replacements_fit.Goals as goal

pub loop-place-preserved : goal.loop-place-preserved
loop-place-preserved c =
    let ts = map (term_at c.args.terms.now) c.args.inputs.now in
    below_more _ _ c.loop-place.invariant
    (ReplacementsFit-node c.args.terms.now.pointer ts c.args.from.now c.len-place-end.ensures.table c.loop-place.place _
    c.node.ensures (c.replacement_fits.ensures c.if-not-replacement_fits.false) c.loop-place.invariant)
