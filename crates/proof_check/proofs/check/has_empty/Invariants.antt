use Rattle.std.proofs.Common.{[], take}
use Rattle.std.specs.Prelude.{Contains}
use Rattle.cnf_core.specs.Resolution.{clause}
use Rattle.proof_check.proofs.check.has_empty.Given as goal

abbrev pub invariant-loop-clause : goal.invariant-loop-clause
invariant-loop-clause l = ¬ Contains (take l.clause-index l.clauses) (clause [])
