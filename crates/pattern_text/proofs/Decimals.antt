-- The digits of a number are a numeral, which has the number as its value.
use Rattle.std.proofs.Common.{◌≡◌, ℕ, ◌+◌, ◌-◌, ◌*◌, ◌/◌, ◌%◌, ◌^◌, ◌<◌, ◌≤◌, true, false, cond, eqb, not, nat_le}
use Rattle.std.proofs.Common.{List, [], ◌∷◌, ◌++◌, length, map, fold, Some, None, refl, ap, ◌∙◌, arith, ◌&&◌}
use Rattle.std.specs.List.{list_all}
use Rattle.std.specs.Fmt.{decimal}
use Rattle.std.proofs.lemmas.Bool.Decides.{nat_tests}
use Rattle.std.proofs.lemmas.Fmt.{decimal_by_steps}
use Rattle.std.proofs.lemmas.List.{map-append}
use Rattle.std.proofs.lemmas.List.Folds.{list_all-append}
use Rattle.list_lemmas.proofs.Bools.{and_parts, and-both, le_true}
use Rattle.sexp_read.specs.Words.{is_between, is_digit, is_numeral, decimal_value, numeral_between}
use Rattle.pattern_text.proofs.Spelling.{is_word_byte, word-byte}

pub record Denotes (n : ℕ) (ds : List ℕ) : Type 0 where
  pub digits : list_all is_digit ds ≡ true
  pub numeral : is_numeral ds ≡ true
  pub value : decimal_value ds ≡ n

abbrev step : ℕ → ℕ → ℕ
step n digit = 10 * n + digit

fold-push : (n : ℕ) (ds : List ℕ) (d : ℕ) → fold step n (ds ++ d ∷ []) ≡ 10 * fold step n ds + d
fold-push n [] d = refl
fold-push n (c ∷ ds) d = fold-push (10 * n + c) ds d

value-push : (ds : List ℕ) (b : ℕ) → decimal_value (ds ++ b ∷ []) ≡ 10 * decimal_value ds + (b - 48)
value-push ds b =
    ap (fold step 0) (map-append (λ b. b - 48) ds (b ∷ [])) ∙ fold-push 0 (map (λ b. b - 48) ds) (b - 48)

digit-is : (d : ℕ) → d < 10 → is_digit (48 + d) ≡ true
digit-is d h = grind (arith, nat_tests)

one-digit : (n : ℕ) → n < 10 → Denotes n ((48 + n) ∷ [])
one-digit n h = record {
  digits = and-both (is_digit (48 + n)) true (digit-is n h) refl;
  numeral = digit-is n h;
  value = omega arith;
}

not_zero : (b n : ℕ) → b - 48 ≡ n → 1 ≤ n → not (eqb b 48) ≡ true
not_zero b n h k = grind (arith, nat_tests)

numeral-push : (n : ℕ) (ds : List ℕ) (b : ℕ) → 1 ≤ n → Denotes n ds → is_digit b ≡ true
    → is_numeral (ds ++ b ∷ []) ≡ true
numeral-push n [] b some h digit = absurd (cc h.numeral)
numeral-push n (c ∷ []) b some h digit =
    let value : c - 48 ≡ n = omega (arith, h.value) in
    and-both (not (eqb c 48)) (list_all is_digit (c ∷ b ∷ [])) (not_zero c n value some)
    (list_all-append is_digit (c ∷ []) (b ∷ [])
    ∙ and-both (list_all is_digit (c ∷ [])) (list_all is_digit (b ∷ [])) h.digits
    (and-both (is_digit b) true digit refl))
numeral-push n (c ∷ d ∷ ds) b some h digit =
    let parts = and_parts (not (eqb c 48)) (list_all is_digit (c ∷ d ∷ ds)) h.numeral in
    and-both (not (eqb c 48)) (list_all is_digit (c ∷ d ∷ (ds ++ b ∷ []))) parts.0
    (list_all-append is_digit (c ∷ d ∷ ds) (b ∷ [])
    ∙ and-both (list_all is_digit (c ∷ d ∷ ds)) (list_all is_digit (b ∷ [])) h.digits
    (and-both (is_digit b) true digit refl))

more-digits : (n : ℕ) (ds : List ℕ) → 10 ≤ n → Denotes (n / 10) ds → Denotes n (ds ++ ((48 + n % 10) ∷ []))
more-digits n ds h d =
    let small : n % 10 < 10 = omega arith in
    let digit = digit-is (n % 10) small in
    let some : 1 ≤ n / 10 = omega arith in
    record {
      digits = list_all-append is_digit ds ((48 + n % 10) ∷ [])
          ∙ and-both (list_all is_digit ds) (list_all is_digit ((48 + n % 10) ∷ [])) d.digits
          (and-both (is_digit (48 + n % 10)) true digit refl);
      numeral = numeral-push (n / 10) ds (48 + n % 10) some d digit;
      value = omega (arith, value-push ds (48 + n % 10), d.value);
    }

pub decimal-denotes : (n : ℕ) → n < 2 ^ 64 → Denotes n (decimal n)
decimal-denotes n h = decimal_by_steps Denotes one-digit more-digits n h

-- a number read back
pub decimal-read : (low high n : ℕ) → n < 2 ^ 64 → low ≤ n → n ≤ high → numeral_between low high (decimal n) ≡ Some n
decimal-read low high n small above below =
    let d = decimal-denotes n small in
    let inside = and-both (nat_le low n) (nat_le n high) (le_true low n above) (le_true n high below) in
    let word = decimal n in
    ap (λ b. cond (b && is_between low high (decimal_value word)) (Some (decimal_value word)) None) d.numeral
    ∙ ap (λ v. cond (is_between low high v) (Some v) None) d.value
    ∙ ap (λ b. cond b (Some n) None) inside

digit-word : (b : ℕ) → is_digit b ≡ true → is_word_byte b ≡ true
digit-word b h =
    let low : 48 ≤ b = grind (arith, nat_tests) in
    let high : b ≤ 57 = grind (arith, nat_tests) in
    let other : eqb b 59 ≡ false = grind (arith, nat_tests) in
    word-byte b (omega arith) (omega arith) other

digits-word : (ds : List ℕ) → list_all is_digit ds ≡ true → list_all is_word_byte ds ≡ true
digits-word [] h = refl
digits-word (b ∷ ds) h =
    let parts = and_parts (is_digit b) (list_all is_digit ds) h in
    and-both (is_word_byte b) (list_all is_word_byte ds) (digit-word b parts.0) (digits-word ds parts.1)

pub decimal-word : (n : ℕ) → n < 2 ^ 64 → list_all is_word_byte (decimal n) ≡ true
decimal-word n h = digits-word (decimal n) (decimal-denotes n h).digits

some_digit : (n : ℕ) (ds : List ℕ) → Denotes n ds → 0 < length ds
some_digit n [] h = absurd (cc h.numeral)
some_digit n (b ∷ ds) h = omega arith

pub decimal-some : (n : ℕ) → n < 2 ^ 64 → 0 < length (decimal n)
decimal-some n h = some_digit n (decimal n) (decimal-denotes n h)
