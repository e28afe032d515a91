use Rattle.std.proofs.Common.{◌+◌, ◌*◌, ◌-◌, get_or, drop, map, arith}
use Rattle.std.proofs.lemmas.Bool.Decides.{nat_tests}
use Rattle.sexp_read.proofs.NumeralLemmas.{value_more, number_from-ge}
use Rattle.sexp_read.proofs.words.numeral_between.Goals as goal

pub returns-then-number-from-clause-value : goal.returns-then-number-from-clause-value
returns-then-number-from-clause-value c =
    let word = c.args.word.now in
    let i = c.loop-byte.byte-index in
    let n = c.loop-byte.number in
    let more = value_more n word i (omega arith) in
    let above = number_from-ge (10 * n + (get_or word i 0 - 48)) (map (λ b. b - 48) (drop (i + 1) word)) in
    grind (arith, nat_tests)
