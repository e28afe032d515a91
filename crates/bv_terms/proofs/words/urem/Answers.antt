use Rattle.bv_terms.proofs.WordLemmas.{bits-urem}
use Rattle.bv_terms.proofs.words.urem.Goals as goal

pub returns-else-t-eq0 : goal.returns-else-t-eq0
returns-else-t-eq0 c = λ fits. bits-urem c.args.width c.args.s c.args.t fits c.if-t-eq0.false
