use Rattle.cdcl_base.proofs.TrailLemmas.{ExtendsTrail-itself}
use Rattle.cdcl_core.proofs.propagation.propagate.Goals as goal

pub loop-number-init : goal.loop-number-init
loop-number-init c =
    record {
      extends = ExtendsTrail-itself c.args.trail.now;
      reasons = c.requires.reasons;
      blockers = c.requires.blockers;
    }
