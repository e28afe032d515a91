use Rattle.pattern_core.proofs.HopelessLemmas.{no_pattern_of}
use Rattle.pattern_core.proofs.feasibility.hopeless_has_no_pattern.Goals as goal

pub returns : goal.returns
returns c = λ claim p. no_pattern_of c.args.spec.now c.args.goal claim p c.len.ensures.table
