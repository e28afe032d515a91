use Rattle.std.proofs.Common.{◌≡◌, false, take}
use Rattle.cnf_core.specs.Clause.{contains}
use Rattle.proof_check.proofs.check.contains.Given as goal

abbrev pub invariant-loop-other : goal.invariant-loop-other
invariant-loop-other l = contains (take l.other-index l.lits) l.lit ≡ false
