use Rattle.std.proofs.Common.{◌∙◌}
use Rattle.bv_terms.proofs.WordLemmas.{bits-not}
use Rattle.bv_terms.proofs.words.not.Goals as goal

pub returns : goal.returns
returns c = λ narrow fits. c.bits.ensures narrow ∙ bits-not c.args.width c.args.s narrow fits
