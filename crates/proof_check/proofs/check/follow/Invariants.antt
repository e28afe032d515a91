use Rattle.std.proofs.Common.{◌++◌, drop}
use Rattle.proof_check.proofs.StepLemmas.{Follows}
use Rattle.proof_check.proofs.check.follow.Given as goal

abbrev pub invariant-loop-pivot : goal.invariant-loop-pivot
invariant-loop-pivot l = Follows (l.clauses ++ l.earlier) l.steps (drop l.pivot-index l.steps) l.initial.so_far l.so_far
