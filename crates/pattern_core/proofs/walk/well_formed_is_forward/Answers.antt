use Rattle.pattern_core.proofs.ForwardLemmas.{IsForward-from_spec}
use Rattle.pattern_core.proofs.walk.well_formed_is_forward.Goals as goal

pub returns : goal.returns
returns c = λ g p there w. IsForward-from_spec c.args.spec.now c.args.goal g c.len.ensures.table there p w
