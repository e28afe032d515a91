use Rattle.std.proofs.Common.{◌≡◌}
use Rattle.multiset_rank.specs.Rising.{multichoose}
use Rattle.multiset_rank.proofs.binomial.multichoose.Given as goal

abbrev pub invariant-loop-chosen : goal.invariant-loop-chosen
invariant-loop-chosen l = l.ways ≡ multichoose l.kinds l.chosen
