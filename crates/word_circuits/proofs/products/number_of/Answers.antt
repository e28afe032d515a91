use Rattle.std.proofs.Common.{◌^◌, ◌<◌, ◌≤◌, Bool, true, false, subst, sym, arith}
use mir.Val.{bool_byte}
use Rattle.word_circuits.proofs.ProductLemmas.{known-lt}
use Rattle.word_circuits.proofs.products.number_of.Goals as goal

byte-le : (b : Bool) → bool_byte b ≤ 1
byte-le true = omega arith
byte-le false = omega arith

pub overflow_mul-number : goal.overflow_mul-number
overflow_mul-number c =
    let small : c.loop-place.number < 2 ^ 63 =
    known-lt c.args.word.now c.loop-place.place c.loop-place.number c.loop-place.invariant.1 c.requires (omega arith)
    in omega arith

pub overflow_add-number : goal.overflow_add-number
overflow_add-number c =
    let small : c.loop-place.number < 2 ^ 63 =
    known-lt c.args.word.now c.loop-place.place c.loop-place.number c.loop-place.invariant.1 c.requires (omega arith)
    in
    let one : c.from.result ≤ 1 = subst (λ k. k ≤ 1) (sym c.from.ensures) (byte-le c.in-Constant.bit) in
    omega arith
