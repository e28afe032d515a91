use Rattle.bv_terms.proofs.WordLemmas.{bits-masked}
use Rattle.bv_terms.proofs.words.bits.Goals as goal

pub returns : goal.returns
returns c = λ narrow. bits-masked c.args.width c.args.number c.mask.result narrow c.mask.ensures
