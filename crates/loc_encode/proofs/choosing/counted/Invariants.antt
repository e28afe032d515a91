use Rattle.bv_terms.specs.Table.{Extends}
use Rattle.loc_encode.specs.Counts.{AreThere}
use Rattle.loc_encode.proofs.CountLemmas.{AreCountsBelow}
use Rattle.loc_encode.proofs.choosing.counted.Given as goal

abbrev pub invariant-loop-count : goal.invariant-loop-count
invariant-loop-count l = record {
  extends : Extends l.fn.terms l.terms;
  there : AreThere l.terms l.more;
  counts : AreCountsBelow l.fn.terms l.terms l.slot l.counts l.most l.count l.more;
}
