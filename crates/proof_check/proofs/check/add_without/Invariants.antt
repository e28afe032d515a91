use Rattle.std.proofs.Common.{take}
use Rattle.cnf_core.specs.Resolution.{without}
use Rattle.proof_check.proofs.StepLemmas.{Adds}
use Rattle.proof_check.proofs.check.add_without.Given as goal

abbrev pub invariant-loop-lit : goal.invariant-loop-lit
invariant-loop-lit l = Adds l.initial.so_far l.so_far (without l.except (take l.lit-index l.lits))
