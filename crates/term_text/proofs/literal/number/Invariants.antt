use Rattle.std.proofs.Common.{◌≡◌, ◌<◌, ◌^◌, ◌*◌, drop, option_map}
use Rattle.term_text.specs.Literal.{number, each, digit_in, digit_bits}
use Rattle.term_text.proofs.DigitLemmas.{number_from}
use Rattle.term_text.proofs.literal.number.Given as goal

abbrev pub invariant-loop-byte : goal.invariant-loop-byte
invariant-loop-byte l =
    (number l.base l.digits
    ≡ option_map (number_from (2 ^ digit_bits l.base) l.number) (each (digit_in l.base) (drop l.byte-index l.digits)))
    × (l.number < 2 ^ (digit_bits l.base * l.byte-index))
