-- The sorts of two bit-vectors are their widths.
use Rattle.bv_terms.proofs.ApplyLemmas.{value-words}
use Rattle.bv_terms.proofs.eval.binary.Goals as goal

pub returns-in-Bits-Bits : goal.returns-in-Bits-Bits
returns-in-Bits-Bits c =
    let at = c.in-Bits-Bits in
    value-words c.args.op.now c.args.first c.args.second at.width at.s at.low_width at.t c.two_words.result
    at.is-0 at.is-1 c.two_words.ensures
