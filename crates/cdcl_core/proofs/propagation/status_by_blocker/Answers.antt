use Rattle.cnf_core.proofs.Over.{over-at}
use Rattle.cdcl_core.proofs.propagation.status_by_blocker.Goals as goal

pub is_true-requires : goal.is_true-requires
is_true-requires c =
    over-at c.args.trail.now.variables c.args.lits.now c.args.blocker c.requires.over c.requires.blocker
