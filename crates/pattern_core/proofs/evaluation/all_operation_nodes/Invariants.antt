use Rattle.std.proofs.Common.{take}
use Rattle.pattern_core.specs.Evaluation.{HaveNodes}
use Rattle.pattern_core.proofs.evaluation.all_operation_nodes.Given as goal

abbrev pub invariant-loop-place : goal.invariant-loop-place
invariant-loop-place l = HaveNodes l.spec.terms (take l.place l.spec.ops) l.lists
