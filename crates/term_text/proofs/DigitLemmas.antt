-- Numbers read digit by digit, in a base.
use Rattle.std.proofs.Common.{◌≡◌, ℕ, ◌+◌, ◌*◌, ◌^◌, ◌<◌, ◌≤◌, List, ◌∷◌, length, get_or, drop, fold}
use Rattle.std.proofs.Common.{refl, ap, ◌∙◌, suc, mul-add, arith, add-one, Option, Some, None}
use Rattle.std.proofs.Common.{option_map, option_and_then}
use Rattle.std.proofs.Math.Seq.{drop-cons}
use Rattle.std.proofs.Math.Nat.{mul-le-mul_left, pow-le-pow_right}
use Rattle.std.proofs.lemmas.Nat.{pow-add}
use Rattle.std.proofs.lemmas.List.{drop_all}
use Rattle.term_text.specs.Literal.{each}

-- the number that more digits make of a number
abbrev pub number_from : ℕ → ℕ → List ℕ → ℕ
number_from base n digits = fold (λ n digit. base * n + digit) n digits

front : (base n d : ℕ) (rest : Option (List ℕ)) →
    option_map (number_from base n) (option_and_then (λ ys. Some (d ∷ ys)) rest)
    ≡ option_map (number_from base (base * n + d)) rest
front base n d None = refl
front base n d (Some ds) = refl

pub each_more : (base n d : ℕ) (f : ℕ → Option ℕ) (bytes : List ℕ) (i : ℕ) → i < length bytes
    → f (get_or bytes i 0) ≡ Some d →
    option_map (number_from base n) (each f (drop i bytes))
    ≡ option_map (number_from base (base * n + d)) (each f (drop (i + 1) bytes))
each_more base n d f bytes i h e = rw (add-one, drop-cons bytes i 0, e) (front base n d (each f (drop (suc i) bytes)))

pub each_stop : (base n : ℕ) (f : ℕ → Option ℕ) (bytes : List ℕ) (i : ℕ) → i < length bytes
    → f (get_or bytes i 0) ≡ None →
    option_map (number_from base n) (each f (drop i bytes)) ≡ None
each_stop base n f bytes i h e = rw (drop-cons bytes i 0, e) refl

pub each_nothing : (base n : ℕ) (f : ℕ → Option ℕ) (bytes : List ℕ) (i : ℕ) → length bytes ≤ i →
    option_map (number_from base n) (each f (drop i bytes)) ≡ Some n
each_nothing base n f bytes i h = rw (drop_all i bytes) refl

-- one more digit
pub digit_fits : (bits n d i : ℕ) → n < 2 ^ (bits * i) → d < 2 ^ bits → 2 ^ bits * n + d < 2 ^ (bits * (i + 1))
digit_fits bits n d i h l =
    let e : 2 ^ (bits * (i + 1)) ≡ 2 ^ bits * 2 ^ (bits * i) = ap (λ k. 2 ^ k) (mul-add bits i 1 ∙ omega arith)
    ∙ pow-add 2 bits (bits * i) in
    rw e (omega (arith, mul-le-mul_left {m = n + 1} {n = 2 ^ (bits * i)} (2 ^ bits) (omega arith)))

pub digit_fits_word : (bits n d i len : ℕ) → n < 2 ^ (bits * i) → d < 2 ^ bits → i < len → bits * len ≤ 64
    → 2 ^ bits * n + d < 2 ^ 64
digit_fits_word bits n d i len h l below fits =
    let most : bits * (i + 1) ≤ 64 = omega (arith, mul-le-mul_left {m = i + 1} {n = len} bits (omega arith)) in
    omega (arith, digit_fits bits n d i h l, pow-le-pow_right {n = 2} (omega arith) most)
