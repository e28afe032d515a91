-- Words that are numbers: a numeral in a range is the decimal of its value.
use Rattle.std.proofs.Common.{◌≡◌, ℕ, ◌-◌, ◌+◌, ◌*◌, ◌^◌, ◌<◌, ◌≤◌, Bool, true, false, ◌&&◌, not, eqb, refl, sym, ◌∙◌}
use Rattle.std.proofs.Common.{ap, List, [], ◌∷◌, length, get_or, map, fold, Option, Some, None}
use Rattle.std.proofs.Common.{if◌then◌else◌, arith}
use Rattle.std.specs.List.{list_all}
use Rattle.std.specs.Fmt.{decimal}
use Rattle.std.specs.Prelude.{IfSome, IfNone}
use Rattle.std.proofs.lemmas.Bool.Decides.{nat_tests}
use Rattle.std.proofs.lemmas.Fmt.{decimal-digits_value}
use Rattle.std.proofs.lemmas.Option.{same_Some}
use Rattle.std.proofs.lemmas.Str.Parse.{IsDigitsTest, FoldsDigits, IsNumeralModel, numerals_by_fold}
use Rattle.list_lemmas.proofs.Bools.{and_parts, and-both}
use Rattle.sexp_read.specs.Words.{is_between, is_digit, is_numeral, decimal_value, numeral_between}
use Rattle.pattern_text.proofs.Decimals.{decimal-read}

digit-parts : (b : ℕ) → is_digit b ≡ true → (48 ≤ b) × (b ≤ 57)
digit-parts b h = (grind (arith, nat_tests), grind (arith, nat_tests))

digit-from : (b : ℕ) → 48 ≤ b → b ≤ 57 → is_digit b ≡ true
digit-from b low high = grind (arith, nat_tests)

digits-test : IsDigitsTest (λ (word : List ℕ). list_all is_digit word ≡ true)
digits-test = record {
  empty = refl;
  parts = λ c cs h. let both = and_parts (is_digit c) (list_all is_digit cs) h in (digit-parts c both.0, both.1);
  more = λ c cs k h. and-both (is_digit c) (list_all is_digit cs) (digit-from c k.0 k.1) h;
}

abbrev read_on : ℕ → List ℕ → ℕ
read_on n word = fold (λ m digit. 10 * m + digit) n (map (λ b. b - 48) word)

reads-digits : FoldsDigits read_on
reads-digits = record {
  empty = λ n. refl;
  more = λ n c cs k. let same : 10 * n + (c - 48) ≡ n * 10 + (c - 48) = omega arith in ap (λ m. read_on m cs) same;
}

numeral-model : IsNumeralModel (λ (word : List ℕ). list_all is_digit word ≡ true) (read_on 0)
numeral-model = numerals_by_fold (λ (word : List ℕ). list_all is_digit word ≡ true) digits-test read_on reads-digits

not_zero : (b : ℕ) → not (eqb b 48) ≡ true → b ≡ 48 → ⊥
not_zero b h e = grind (arith, nat_tests)

-- digits, and no leading zero
pub record IsPlain (word : List ℕ) : Type 0 where
  pub digits : list_all is_digit word ≡ true
  pub some : 0 < length word
  pub lead : get_or word 0 0 ≡ 48 → length word ≡ 1

numeral-plain : (word : List ℕ) → is_numeral word ≡ true → IsPlain word
numeral-plain [] h = absurd (cc)
numeral-plain (b ∷ []) h = record {
  digits = and-both (is_digit b) true h refl;
  some = omega arith;
  lead = λ zero. refl;
}
numeral-plain (b ∷ c ∷ rest) h =
    let both = and_parts (not (eqb b 48)) (list_all is_digit (b ∷ c ∷ rest)) h in
    record { digits = both.1; some = omega arith; lead = λ zero. absurd (not_zero b both.0 zero) }

-- a numeral is the decimal of its value
numeral-decimal : (word : List ℕ) → is_numeral word ≡ true → decimal_value word < 2 ^ 64
    → decimal (decimal_value word) ≡ word
numeral-decimal word h small =
    let plain = numeral-plain word h in
    decimal-digits_value numeral-model word plain.digits plain.some plain.lead small

where_some : (b : Bool) (v n : ℕ) → (if b then Some v else None) ≡ Some n → (b ≡ true) × (v ≡ n)
where_some true v n e = (refl, same_Some v n e)
where_some false v n e = absurd (cc)

between-parts : (low high n : ℕ) → is_between low high n ≡ true → (low ≤ n) × (n ≤ high)
between-parts low high n h = (grind (arith, nat_tests), grind (arith, nat_tests))

-- what a number in a range is, that a word says
pub number-said : (low high n : ℕ) (word : List ℕ) → high < 2 ^ 64 → numeral_between low high word ≡ Some n
    → (word ≡ decimal n) × (low ≤ n) × (n ≤ high)
number-said low high n word small e =
    let found = where_some (is_numeral word && is_between low high (decimal_value word)) (decimal_value word) n e in
    let both = and_parts (is_numeral word) (is_between low high (decimal_value word)) found.0 in
    let range = between-parts low high (decimal_value word) both.1 in
    let value = found.1 in (
      sym (numeral-decimal word both.0 (omega (arith, range.1, small))) ∙ ap decimal value,
      omega (arith, range.0, value),
      omega (arith, range.1, value),
    )

-- no number of the range is said by a word that has none
pub number-unsaid : (low high n : ℕ) (word : List ℕ) → high < 2 ^ 64 → None ≡ numeral_between low high word
    → low ≤ n → n ≤ high → word ≡ decimal n → ⊥
number-unsaid low high n word small none above below said =
    no (none ∙ ap (numeral_between low high) said
    ∙ decimal-read low high n (omega (arith, below, small)) above below)
  where
    no : None ≡ Some n → ⊥
    no e = cc

-- the same of an answer
pub all-said : (low high : ℕ) (word same : List ℕ) (r : Option ℕ) → high < 2 ^ 64 → same ≡ word
    → r ≡ numeral_between low high same → IfSome r (λ n. (word ≡ decimal n) × (low ≤ n) × (n ≤ high))
all-said low high word same None small e h = tt
all-said low high word same (Some n) small e h =
    let said = number-said low high n same small (sym h) in (sym e ∙ said.0, said.1, said.2)

pub none-said : (low high : ℕ) (word same : List ℕ) (r : Option ℕ) → high < 2 ^ 64 → same ≡ word
    → r ≡ numeral_between low high same → IfNone r ((n : ℕ) → low ≤ n → n ≤ high → word ≡ decimal n → ⊥)
none-said low high word same (Some n) small e h = tt
none-said low high word same None small e h =
    λ n above below said. number-unsaid low high n same small h above below (e ∙ said)
