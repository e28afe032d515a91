use Rattle.bv_terms.proofs.WordLemmas.{bits-udiv}
use Rattle.bv_terms.proofs.words.udiv.Goals as goal

pub returns-else-t-eq0 : goal.returns-else-t-eq0
returns-else-t-eq0 c = λ narrow fits. bits-udiv c.args.width c.args.s c.args.t fits c.if-t-eq0.false
