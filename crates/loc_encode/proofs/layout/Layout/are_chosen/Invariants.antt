use Rattle.std.proofs.Common.{take}
use Rattle.std.specs.Prelude.{count_by}
use Rattle.bv_terms.specs.Table.{Extends}
use Rattle.loc_encode.specs.Counts.{AreThere, AreCounts}
use Rattle.loc_encode.specs.Claimed.{claim_in}
use Rattle.loc_encode.proofs.layout.Layout.are_chosen.Given as goal

abbrev pub invariant-loop-slot : goal.invariant-loop-slot
invariant-loop-slot l =
    record {
      extends : Extends l.fn.terms l.terms;
      there : AreThere l.terms l.counts;
      counts : AreCounts (claim_in l.self) l.terms l.counts l.count (λ g. count_by g (take l.slot-index l.slots));
    }
