use Rattle.std.proofs.Common.{◌≡◌, None, drop}
use Rattle.cdcl_core.specs.ClauseStatus.{clause_status}
use Rattle.cdcl_core.proofs.propagation.status_of.Given as goal

abbrev pub invariant-loop-lit : goal.invariant-loop-lit
invariant-loop-lit l =
    clause_status l.trail.lits (drop l.lit-index l.lits) l.only ≡ clause_status l.trail.lits l.lits None
