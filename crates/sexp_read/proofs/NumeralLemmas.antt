-- Numerals read digit by digit.
use Rattle.std.proofs.Common.{◌≡◌, ℕ, ◌+◌, ◌-◌, ◌*◌, ◌<◌, ◌≤◌, List, [], ◌∷◌, length, get_or, drop, fold, map}
use Rattle.std.proofs.Common.{Bool, refl, arith, add-one, true, false, min}
use Rattle.std.specs.Prelude.{nat_le, unwrap_or}
use Rattle.std.proofs.Math.Seq.{drop-cons}
use Rattle.std.proofs.lemmas.List.Recursion.{and_at}
use Rattle.std.proofs.lemmas.Bool.Decides.{nat_tests}
use Rattle.std.specs.List.{list_all}
use Rattle.sexp_read.specs.Words.{is_digit, is_numeral, decimal_value, numeral_between}

-- the number that more digits make of a number
abbrev pub number_from : ℕ → List ℕ → ℕ
number_from n digits = fold (λ n digit. 10 * n + digit) n digits

abbrev pub value_from : ℕ → List ℕ → ℕ
value_from n word = number_from n (map (λ b. b - 48) word)

pub number_from-ge : (n : ℕ) (digits : List ℕ) → n ≤ number_from n digits
number_from-ge n [] = omega arith
number_from-ge n (d ∷ ds) = omega (arith, number_from-ge (10 * n + d) ds)

pub value_more : (n : ℕ) (word : List ℕ) (i : ℕ) → i < length word
    → value_from n (drop i word) ≡ value_from (10 * n + (get_or word i 0 - 48)) (drop (i + 1) word)
value_more n word i h = rw (add-one, drop-cons word i 0) refl

-- the digits of a numeral are digits
digits-of-numeral : (word : List ℕ) → is_numeral word ≡ true → list_all is_digit word ≡ true
digits-of-numeral [] h = refl
digits-of-numeral (b ∷ []) h = grind arith
digits-of-numeral (b ∷ c ∷ rest) h = grind arith

pub digit-at : (word : List ℕ) (i : ℕ) → is_numeral word ≡ true → i < length word → 48 ≤ get_or word i 0
digit-at word i h l =
    let e : is_digit (get_or word i 0) ≡ true =
    and_at (list_all is_digit) is_digit refl (λ _ _. refl) word i 0 l (digits-of-numeral word h) in
    grind (arith, nat_tests)

-- the number of a numeral up to a bound, or the bound
pub saturated : (most : ℕ) (word : List ℕ) → is_numeral word ≡ true
    → unwrap_or (numeral_between 0 most word) most ≡ min (decimal_value word) most
saturated most word h = by (nat_le (decimal_value word) most) refl
  where
    by : (b : Bool) → nat_le (decimal_value word) most ≡ b
        → unwrap_or (numeral_between 0 most word) most ≡ min (decimal_value word) most
    by true e = rw (h, e) (grind (arith, nat_tests))
    by false e = rw (h, e) (grind (arith, nat_tests))
