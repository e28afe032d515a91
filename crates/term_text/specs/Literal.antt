-- Constants. Source: SMT-LIB 2.6, section 3.1 (binary and hexadecimal literals), theory Core (truth values) and logic
-- QF_BV (`(_ bvX n)`).
use Rattle.std.specs.Prelude.{ℕ, ◌-◌, ◌*◌, ◌^◌, List, [], ◌∷◌, length, drop, Option, Some, None, true, false, ◌==◌}
use Rattle.std.specs.Prelude.{◌&&◌, if◌then◌else◌, bytes_eq, codes, option_and_then, option_map}
use Rattle.bv_terms.specs.declared.op.Op.{Op}
use Rattle.bv_terms.specs.declared.op.Op.TheVariants as op
use Rattle.sexp_read.specs.Words.{is_between, is_digit, number_in, numeral_between}
use Rattle.term_text.specs.declared.literal.Base.{Base}
use Rattle.term_text.specs.declared.literal.Base.TheVariants.{Binary, Hexadecimal}

-- the value of a hexadecimal digit, of either case
abbrev pub hex_digit : ℕ → Option ℕ
hex_digit b =
    if is_digit b then Some (b - 48)
    else if is_between 65 70 b then Some (b - 55)
    else if is_between 97 102 b then Some (b - 87)
    else None

abbrev pub binary_digit : ℕ → Option ℕ
binary_digit b = if is_between 48 49 b then Some (b - 48) else None

abbrev pub digit_in : Base → ℕ → Option ℕ
digit_in Binary b = binary_digit b
digit_in Hexadecimal b = hex_digit b

-- how many bits a digit has
abbrev pub digit_bits : Base → ℕ
digit_bits Binary = 1
digit_bits Hexadecimal = 4

-- what each of them gives, where each gives something
abbrev pub each : {A B : Type 0} → (A → Option B) → List A → Option (List B)
each f [] = Some []
each f (x ∷ xs) = option_and_then (λ y. option_and_then (λ ys. Some (y ∷ ys)) (each f xs)) (f x)

-- the number that digits stand for
abbrev pub number : Base → List ℕ → Option ℕ
number base digits = option_map (number_in (2 ^ digit_bits base)) (each (digit_in base) digits)

-- how many bits that many digits have, at most 64
abbrev pub width : Base → ℕ → Option ℕ
width base count = if is_between 1 64 (digit_bits base * count) then Some (digit_bits base * count) else None

abbrev pub constant_in : Base → List ℕ → Option Op
constant_in base digits =
    option_and_then (λ w. option_map (op.Bits w) (number base digits)) (width base (length digits))

-- `#b` and 1 to 64 binary digits, or `#x` and 1 to 16 hexadecimal digits
abbrev pub literal : List ℕ → Option Op
literal (hash ∷ base ∷ digits) =
    if hash == 35 && base == 98 then constant_in Binary digits
    else if hash == 35 && base == 120 then constant_in Hexadecimal digits
    else None
literal _ = None

-- `bvX` and `n` as X at width n, which is 1 to 64
abbrev pub decimal_literal : List ℕ → List ℕ → Option Op
decimal_literal word width =
    option_and_then (λ w. option_map (op.Bits w) (numeral_between 0 (2 ^ w - 1) (drop 2 word)))
    (numeral_between 1 64 width)

abbrev pub truth_value : List ℕ → Option Op
truth_value word =
    if bytes_eq word (codes "true") then Some (op.Bool true)
    else if bytes_eq word (codes "false") then Some (op.Bool false)
    else None
