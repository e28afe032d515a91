use Rattle.std.proofs.Common.{◌∙◌}
use Rattle.std.proofs.Math.Nat.{le_of_lt}
use Rattle.bv_terms.proofs.WordLemmas.{bits-sub}
use Rattle.bv_terms.proofs.words.sub.Goals as goal

pub returns : goal.returns
returns c = λ narrow fits. c.bits.ensures narrow ∙ bits-sub c.args.width c.args.s c.args.t narrow (le_of_lt fits)
