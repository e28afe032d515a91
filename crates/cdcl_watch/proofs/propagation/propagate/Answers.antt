use Rattle.cdcl_base.proofs.TrailLemmas.{ExtendsTrail-itself}
use Rattle.cdcl_watch.proofs.propagation.propagate.Goals as goal

pub loop-head-init : goal.loop-head-init
loop-head-init c = record {
  trail = c.requires.trail;
  extends = ExtendsTrail-itself c.args.trail.now;
  watching = c.requires.watching;
}
