use Rattle.std.proofs.Common.{◌≡◌, ◌-◌}
use Rattle.multiset_rank.specs.Rising.{multichoose}
use Rattle.multiset_rank.proofs.PlaceLemmas.{IsReached}
use Rattle.multiset_rank.proofs.order.first_number.Given as goal

abbrev pub invariant-loop-block : goal.invariant-loop-block
invariant-loop-block l = record {
  reached : IsReached l.from l.kinds l.size l.number l.first l.rest;
  block : l.block ≡ multichoose (l.kinds - l.first) l.size;
}

abbrev pub decreases-loop-block : goal.decreases-loop-block
decreases-loop-block l = l.kinds - l.first
