use Rattle.std.proofs.Common.{arith}
use Rattle.std.proofs.lemmas.Grind.{common_steps}
use Rattle.cdcl_core.specs.declared.propagation.ClauseStatus.TheVariants.{Unresolved, Unit, Falsified}
use Rattle.cdcl_core.proofs.StatusLemmas.{clause_status-is}
use Rattle.cdcl_core.proofs.propagation.status_of.Goals as goal

pub returns-then-ne-clause-status : goal.returns-then-ne-clause-status
returns-then-ne-clause-status c =
    clause_status-is c.args.trail.now.lits c.args.lits.now Unresolved (grind (arith, common_steps))

pub returns-in-Some-only-clause-status : goal.returns-in-Some-only-clause-status
returns-in-Some-only-clause-status c =
    clause_status-is c.args.trail.now.lits c.args.lits.now (Unit c.in-Some-only.lit) (grind (arith, common_steps))

pub returns-in-None-clause-status : goal.returns-in-None-clause-status
returns-in-None-clause-status c =
    clause_status-is c.args.trail.now.lits c.args.lits.now Falsified (grind (arith, common_steps))
