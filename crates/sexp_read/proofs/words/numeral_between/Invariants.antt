use Rattle.std.proofs.Common.{◌≡◌, ◌≤◌, drop}
use Rattle.sexp_read.specs.Words.{decimal_value}
use Rattle.sexp_read.proofs.NumeralLemmas.{value_from}
use Rattle.sexp_read.proofs.words.numeral_between.Given as goal

abbrev pub invariant-loop-byte : goal.invariant-loop-byte
invariant-loop-byte l =
    (decimal_value l.word ≡ value_from l.number (drop l.byte-index l.word)) × (l.number ≤ l.high)
