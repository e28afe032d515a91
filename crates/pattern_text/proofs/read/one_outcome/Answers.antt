use Rattle.pattern_text.proofs.OutcomeLemmas.{one-outcome}
use Rattle.pattern_text.proofs.read.one_outcome.Goals as goal

pub returns : goal.returns
returns c = one-outcome
