use Rattle.std.proofs.Common.{◌≡◌, ◌+◌, ◌%◌, bit_or, ap, ◌∙◌, arith}
use Rattle.std.proofs.Math.Nat.{mod-eq_of_lt}
use Rattle.bv_terms.specs.Term.{bits}
use Rattle.bv_terms.proofs.WordLemmas.{bits-sign_extended}
use Rattle.bv_terms.proofs.words.sign_extend.Goals as goal

pub returns : goal.returns
returns c = λ narrow fits.
    let w = c.args.width in
    let v = c.args.width + c.args.by in
    let whole : v % 256 ≡ v = mod-eq_of_lt (omega arith) in
    c.bits.ensures (omega arith) ∙ ap (λ n. bits n (bit_or c.args.s c.if_negative.result)) whole
    ∙ bits-sign_extended w v c.args.s c.mask.result c.if_negative.result (omega arith) narrow fits c.mask.ensures
    (c.if_negative.ensures (omega arith))
