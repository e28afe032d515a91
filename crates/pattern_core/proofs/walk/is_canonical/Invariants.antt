use Rattle.std.proofs.Common.{drop, length}
use Rattle.pattern_core.proofs.WalkLemmas.{HasWalked}
use Rattle.pattern_core.proofs.walk.is_canonical.Given as goal

abbrev pub invariant-loop-source : goal.invariant-loop-source
invariant-loop-source l =
    HasWalked l.nodes (length l.nodes) 0 l.left l.source-items (drop l.source-index l.source-items)
