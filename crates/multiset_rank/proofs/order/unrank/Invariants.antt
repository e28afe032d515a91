use Rattle.multiset_rank.proofs.PlaceLemmas.{IsUnranked}
use Rattle.multiset_rank.proofs.order.unrank.Given as goal

abbrev pub invariant-loop-place : goal.invariant-loop-place
invariant-loop-place l = IsUnranked l.kinds l.size l.number l.place l.from l.inner l.places
