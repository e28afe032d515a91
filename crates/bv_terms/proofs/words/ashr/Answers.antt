use Rattle.bv_terms.proofs.WordLemmas.{bits-ashr}
use Rattle.bv_terms.proofs.words.ashr.Goals as goal

pub returns : goal.returns
returns c = λ narrow fits.
    let inverted = c.if_negative-inverted in
    bits-ashr c.args.width c.args.s c.args.t c.mask.result inverted.result c.shift_right.result narrow fits
    c.mask.ensures (inverted.ensures narrow) c.shift_right.ensures
