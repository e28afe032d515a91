use Rattle.pattern_core.specs.Known.{AreKnown}
use Rattle.pattern_core.proofs.EvalLemmas.{IsGiven}
use Rattle.pattern_core.proofs.evaluation.all_results.Given as goal

abbrev pub invariant-loop-place : goal.invariant-loop-place
invariant-loop-place l = IsGiven l.spec l.goal l.nodes l.inputs l.outs.items l.place × AreKnown l.spec l.known
