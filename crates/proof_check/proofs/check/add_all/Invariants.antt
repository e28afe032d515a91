use Rattle.std.proofs.Common.{take}
use Rattle.proof_check.proofs.StepLemmas.{Adds}
use Rattle.proof_check.proofs.check.add_all.Given as goal

abbrev pub invariant-loop-lit : goal.invariant-loop-lit
invariant-loop-lit l = Adds l.initial.so_far l.so_far (take l.lit-index l.lits)
