use Rattle.pattern_core.proofs.HopelessLemmas.{args-of}
use Rattle.pattern_core.proofs.feasibility.args_of.Goals as goal

pub returns : goal.returns
returns c = args-of c.args.spec.now c.args.op c.op.ensures.0 c.op.result.now _ c.op.ensures.1 c.as_slice.ensures
