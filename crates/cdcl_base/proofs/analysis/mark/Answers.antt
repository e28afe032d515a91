use Rattle.cdcl_base.proofs.MarkLemmas.{marked-next, front-trans}
use Rattle.cdcl_base.proofs.analysis.mark.Goals as goal

pub loop-lit-preserved : goal.loop-lit-preserved
loop-lit-preserved c = record {
  marks =
      marked-next c.args.marks.now c.loop-lit.marks c.mark_one.new.marks c.args.lits.now c.loop-lit.lit-index
      c.variable.result c.lit-item.result c.loop-lit-test.true c.lit-item.is c.variable.ensures.variable
      c.mark_one.ensures.length c.in_ok-mark_one.ensures.marks c.loop-lit.invariant.marks;
  listed = λ h. c.mark_one.ensures.listed (c.loop-lit.invariant.listed h);
  same =
      front-trans c.args.marked.now.items c.loop-lit.marked.items c.mark_one.new.marked.items c.loop-lit.invariant.same
      c.mark_one.ensures.same;
}
