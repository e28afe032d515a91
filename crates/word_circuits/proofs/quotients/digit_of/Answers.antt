use Rattle.std.proofs.Common.{◌≤◌, ◌%◌, ◌^◌, length, refl, ap, ◌∙◌, arith}
use Rattle.word_circuits.specs.Word.{word_number}
use Rattle.word_circuits.proofs.WordLemmas.{word-of}
use Rattle.word_circuits.proofs.QuotientLemmas.{less-where, taken-of}
use Rattle.word_circuits.proofs.quotients.digit_of.Goals as goal

pub returns-clause-rest : goal.returns-clause-rest
returns-clause-rest c =
    let next = c.as_slice.ensures ∙ c.in_ok-next.ensures in
    word-of (taken-of c.in_ok-digit.ensures.rest c.as_slice-2.result.now c.in_ok-rest.rest (length c.args.rest.now)
    (let fits : length c.args.rest.now ≤ length c.as_slice.result.now = omega (arith, ap length next) in fits)
    c.as_slice-2.ensures c.in_ok-rest.ensures) (length c.args.rest.now) refl _
    (λ v h. ap (λ xs. less-where (word_number v xs) (word_number v c.args.divisor.now) % 2 ^ length c.args.rest.now)
    next)
