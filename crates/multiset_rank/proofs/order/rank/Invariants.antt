use Rattle.multiset_rank.proofs.PlaceLemmas.{IsRanked}
use Rattle.multiset_rank.proofs.order.rank.Given as goal

abbrev pub invariant-loop-place : goal.invariant-loop-place
invariant-loop-place l = IsRanked l.kinds l.number l.place l.from l.ops
