use Rattle.std.proofs.Common.{◌+◌, ◌*◌, ◌^◌, ◌%◌, bit_or, ap, ◌∙◌, arith}
use Rattle.std.proofs.Math.Nat.{mod-eq_of_lt}
use Rattle.bv_terms.specs.declared.value.Value.TheVariants as val
use Rattle.bv_terms.proofs.WordLemmas.{joined}
use Rattle.bv_terms.proofs.words.concat.Goals as goal

pub returns : goal.returns
returns c = λ narrow high low.
    let w = c.args.width in
    let v = c.args.low_width in
    let shifted = c.wrapping_shl.ensures ∙ ap (λ k. c.args.s * 2 ^ (k % 64) % 2 ^ 64) c.from.ensures in
    ap (λ n. val.Bits n (bit_or c.wrapping_shl.result c.args.t)) (mod-eq_of_lt (omega arith))
    ∙ ap (val.Bits (w + v)) (joined w v c.args.s c.args.t c.wrapping_shl.result narrow high low shifted)
