-- The words that more than one text has: numerals and names. Numerals are those of SMT-LIB 2.6, section 3.1; names are
-- this project's own.
use Rattle.std.specs.Prelude.{ℕ, ◌-◌, ◌+◌, ◌*◌, ◌^◌, List, [], ◌∷◌, fold, map, Option, Some, None, min, Bool, false}
use Rattle.std.specs.Prelude.{◌&&◌, ◌||◌, ◌==◌, not, nat_le, if◌then◌else◌, codes}
use Rattle.std.specs.List.{list_all}
use Rattle.std.specs.Str.{bytes_eq}

abbrev pub is_between : ℕ → ℕ → ℕ → Bool
is_between low high n = nat_le low n && nat_le n high

abbrev pub is_digit : ℕ → Bool
is_digit b = is_between 48 57 b

-- a letter of the alphabet, of either case
abbrev pub is_alphabetic : ℕ → Bool
is_alphabetic b = is_between 65 90 b || is_between 97 122 b

-- `0`, or digits without a leading zero
abbrev pub is_numeral : List ℕ → Bool
is_numeral [] = false
is_numeral (b ∷ []) = is_digit b
is_numeral (b ∷ c ∷ rest) = not (b == 48) && list_all is_digit (b ∷ c ∷ rest)

-- the number that digits stand for in a base
abbrev pub number_in : ℕ → List ℕ → ℕ
number_in base digits = fold (λ n digit. base * n + digit) 0 digits

-- the number that a numeral stands for
abbrev pub decimal_value : List ℕ → ℕ
decimal_value word = number_in 10 (map (λ b. b - 48) word)

-- the number of a numeral, or 2 ^ 64 - 1 where it is greater
abbrev pub numeral : List ℕ → Option ℕ
numeral word = if is_numeral word then Some (min (decimal_value word) (2 ^ 64 - 1)) else None

-- the number of a numeral, where it is between two numbers
abbrev pub numeral_between : ℕ → ℕ → List ℕ → Option ℕ
numeral_between low high word =
    if is_numeral word && is_between low high (decimal_value word) then Some (decimal_value word) else None

abbrev pub is_name_byte : ℕ → Bool
is_name_byte b = is_alphabetic b || is_digit b || (b == 95) || (b == 46) || (b == 45)

abbrev pub starts_alphabetic : List ℕ → Bool
starts_alphabetic [] = false
starts_alphabetic (b ∷ rest) = is_alphabetic b

abbrev pub is_truth_value : List ℕ → Bool
is_truth_value word = bytes_eq word (codes "true") || bytes_eq word (codes "false")

-- a letter, then letters, digits, `_`, `.` and `-`; neither of the truth values
abbrev pub is_name : List ℕ → Bool
is_name word = starts_alphabetic word && list_all is_name_byte word && not (is_truth_value word)
