use Rattle.std.proofs.Common.{length, reverse}
use Rattle.bv_terms.proofs.CollectLemmas.{IsCollecting, last_taken}
use Rattle.bv_terms.proofs.terms.Terms.subterms.Given as goal

-- each node is smaller than those before it
abbrev pub invariant-loop-at : goal.invariant-loop-at
invariant-loop-at l = IsCollecting l.self l.results l.pending.keys (reverse l.found.items)

abbrev pub decreases-loop-at : goal.decreases-loop-at
decreases-loop-at l = last_taken (length l.self.nodes) (reverse l.found.items)
