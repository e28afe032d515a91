use Rattle.std.proofs.Common.{drop}
use Rattle.pattern_core.proofs.WalkLemmas.{depth_of}
use Rattle.pattern_core.proofs.OrderOfWalk.{HasLeft}
use Rattle.pattern_core.proofs.renaming.+visit.Given as goal

abbrev pub decreases-visit : goal.decreases-visit
decreases-visit l = depth_of l.source

abbrev pub invariant-loop-argument : goal.invariant-loop-argument
invariant-loop-argument l =
    HasLeft l.nodes l.node l.initial.left.items l.left.items l.arguments (drop l.argument-index l.arguments)
