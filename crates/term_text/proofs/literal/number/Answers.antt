use Rattle.std.proofs.Common.{◌^◌, length, sym, arith}
use Rattle.term_text.specs.Literal.{digit_in, digit_bits}
use Rattle.term_text.proofs.DigitLemmas.{each_more, digit_fits, digit_fits_word}
use Rattle.term_text.proofs.literal.number.Goals as goal

pub overflow_mul-number : goal.overflow_mul-number
overflow_mul-number c =
    let fits = digit_fits_word (digit_bits c.args.base) c.loop-byte.number c.in_ok-digit.digit c.loop-byte.byte-index
    (length c.args.digits.now) c.loop-byte.invariant.1 c.in_ok-digit.ensures.small (omega arith) c.requires in
    grind arith

pub overflow_add-number : goal.overflow_add-number
overflow_add-number c =
    let fits = digit_fits_word (digit_bits c.args.base) c.loop-byte.number c.in_ok-digit.digit c.loop-byte.byte-index
    (length c.args.digits.now) c.loop-byte.invariant.1 c.in_ok-digit.ensures.small (omega arith) c.requires in
    grind arith

pub loop-byte-preserved : goal.loop-byte-preserved
loop-byte-preserved c =
    let bits = digit_bits c.args.base in
    let more = each_more (2 ^ bits) c.loop-byte.number c.in_ok-digit.digit
    (digit_in c.args.base) c.args.digits.now c.loop-byte.byte-index (omega arith) (sym c.in_ok-digit.ensures.value)
    in
    let fits = digit_fits bits c.loop-byte.number c.in_ok-digit.digit c.loop-byte.byte-index c.loop-byte.invariant.1
    c.in_ok-digit.ensures.small in
    (grind arith, grind arith)
