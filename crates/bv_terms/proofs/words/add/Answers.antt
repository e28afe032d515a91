use Rattle.std.proofs.Common.{◌+◌, ◌∙◌}
use Rattle.bv_terms.proofs.WordLemmas.{bits-word}
use Rattle.bv_terms.proofs.words.add.Goals as goal

pub returns : goal.returns
returns c = λ narrow. c.bits.ensures narrow ∙ bits-word c.args.width (c.args.s + c.args.t) narrow
