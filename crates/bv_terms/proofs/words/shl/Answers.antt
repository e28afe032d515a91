use Rattle.std.proofs.Common.{◌*◌, ◌^◌, ap, ◌∙◌}
use Rattle.bv_terms.specs.Term.{bits}
use Rattle.bv_terms.proofs.WordLemmas.{bits-word}
use Rattle.bv_terms.proofs.words.shl.Goals as goal

pub returns : goal.returns
returns c = λ narrow.
    c.bits.ensures narrow ∙ ap (bits c.args.width) c.shift_left.ensures
    ∙ bits-word c.args.width (c.args.s * 2 ^ c.args.t) narrow
