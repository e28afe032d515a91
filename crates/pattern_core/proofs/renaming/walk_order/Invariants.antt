use Rattle.std.proofs.Common.{drop, length, []}
use Rattle.pattern_core.proofs.OrderOfWalk.{HasLeft}
use Rattle.pattern_core.proofs.renaming.walk_order.Given as goal

abbrev pub invariant-loop-source : goal.invariant-loop-source
invariant-loop-source l =
    HasLeft l.pattern.nodes (length l.pattern.nodes) [] l.order.items l.source-items
    (drop l.source-index l.source-items)
