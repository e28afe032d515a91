use Rattle.std.proofs.Common.{drop}
use Rattle.pattern_core.proofs.WalkLemmas.{HasWalked, depth_of}
use Rattle.pattern_core.proofs.walk.+visit.Given as goal

abbrev pub decreases-visit : goal.decreases-visit
decreases-visit l = depth_of l.source

abbrev pub invariant-loop-argument : goal.invariant-loop-argument
invariant-loop-argument l = HasWalked l.nodes l.node l.count l.left l.arguments (drop l.argument-index l.arguments)
