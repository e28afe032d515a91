-- Division digit by digit, the highest first.
use Rattle.std.proofs.Common.{◌≡◌, ℕ, ◌+◌, ◌-◌, ◌*◌, ◌/◌, ◌^◌, ◌%◌, ◌<◌, ◌≤◌, ◌==◌, Bool, true, false, not, nat_lt}
use Rattle.std.proofs.Common.{nat_le}
use Rattle.std.proofs.Common.{IsTrue, List, [], ◌∷◌, length, take, drop, get_or, refl, sym, ap, subst, ◌∙◌, ⊎_elim}
use Rattle.std.proofs.Common.{arith}
use Rattle.std.proofs.Common.{if◌then◌else◌, zero, suc}
use Rattle.std.proofs.lemmas.Bool.{cases_lt, cond-false}
use Rattle.std.proofs.lemmas.Bool.Decides.{nat_tests}
use Rattle.std.proofs.lemmas.List.{length-drop, length-take-le}
use Rattle.std.proofs.lemmas.List.Elements.{All-cons, All-nil, All-take}
use Rattle.std.proofs.lemmas.Nat.{div-mul-add, mod-mul-add, div-add-mod', pow_pos}
use Rattle.std.proofs.Math.Nat.{pow-suc, zero-mod, zero-div, mod-eq_of_lt, mod-lt, add-mod_right, lt_of_lt_of_le}
use Rattle.std.proofs.Math.Nat.{mod-le}
use Rattle.std.proofs.Math.Nat.{pow-le-pow_right}
use Rattle.std.proofs.Math.Numerals.{add-one}
use Rattle.circuit.specs.declared.signal.Signal.{Signal}
use Rattle.circuit.specs.Signal.{signal_true, IsSignalOver}
use Rattle.circuit.specs.Gate.{Netlist, Grows, IsSignalOf, hold}
use Rattle.bv_terms.specs.Words.{udiv, urem}
use Rattle.word_circuits.specs.Word.{bit, word_number, AreOver, IsWordOf}
use Rattle.word_circuits.proofs.WordLemmas.{bit-le, word_number-at, word_number-end, word_number-lt, word-grows}
use Rattle.word_circuits.proofs.WordLemmas.{word-of}
use Rattle.word_circuits.proofs.PartLemmas.{word_number-take}

-- ---- numbers

below-lt : (n d : ℕ) → n < d → nat_le d n ≡ false
below-lt n d h = grind (arith, nat_tests)

below-le : (n d : ℕ) → d ≤ n → nat_le d n ≡ true
below-le n d h = grind (arith, nat_tests)

-- a number less another, where that goes into it
abbrev pub less-where : ℕ → ℕ → ℕ
less-where n d = if nat_le d n then n - d else n

low-whole : (b : Bool) (h d q r : ℕ) → q * d + r ≡ h → bit b + 2 * h ≡ 2 * q * d + (bit b + 2 * r)
low-whole b h d q r e = omega arith

high-whole : (b : Bool) (h d q r : ℕ) → q * d + r ≡ h → d ≤ bit b + 2 * r →
    bit b + 2 * h ≡ (2 * q + 1) * d + (bit b + 2 * r - d)
high-whole b h d q r e le = omega arith

small-rest : (b : Bool) (r d : ℕ) → r < d → d ≤ bit b + 2 * r → bit b + 2 * r - d < d
small-rest b r d less le = omega (arith, bit-le b)

-- the quotient and the remainder with one digit more
quotient-more : (b : Bool) (h d : ℕ) → 0 < d →
    (bit b + 2 * h) / d ≡ bit (nat_le d (bit b + 2 * (h % d))) + 2 * (h / d)
quotient-more b h d pos =
    ⊎_elim
    (λ (less : bit b + 2 * (h % d) < d).
    ap (λ k. k / d) (low-whole b h d (h / d) (h % d) (div-add-mod' h d))
    ∙ div-mul-add (2 * (h / d)) d (bit b + 2 * (h % d)) less ∙ none (2 * (h / d))
    ∙ ap (λ c. bit c + 2 * (h / d)) (sym (below-lt (bit b + 2 * (h % d)) d less)))
    (λ (le : d ≤ bit b + 2 * (h % d)).
    ap (λ k. k / d) (high-whole b h d (h / d) (h % d) (div-add-mod' h d) le)
    ∙ div-mul-add (2 * (h / d) + 1) d (bit b + 2 * (h % d) - d) (small-rest b (h % d) d (mod-lt h pos) le)
    ∙ one (2 * (h / d))
    ∙ ap (λ c. bit c + 2 * (h / d)) (sym (below-le (bit b + 2 * (h % d)) d le)))
    (cases_lt (bit b + 2 * (h % d)) d)
  where
    none : (k : ℕ) → k ≡ 0 + k
    none k = omega arith

    one : (k : ℕ) → k + 1 ≡ 1 + k
    one k = omega arith

remainder-more : (b : Bool) (h d : ℕ) → 0 < d → (bit b + 2 * h) % d ≡ less-where (bit b + 2 * (h % d)) d
remainder-more b h d pos =
    ⊎_elim
    (λ (less : bit b + 2 * (h % d) < d).
    ap (λ k. k % d) (low-whole b h d (h / d) (h % d) (div-add-mod' h d))
    ∙ mod-mul-add (2 * (h / d)) d (bit b + 2 * (h % d)) less
    ∙ ap (λ c. if c then bit b + 2 * (h % d) - d else bit b + 2 * (h % d))
    (sym (below-lt (bit b + 2 * (h % d)) d less)))
    (λ (le : d ≤ bit b + 2 * (h % d)).
    ap (λ k. k % d) (high-whole b h d (h / d) (h % d) (div-add-mod' h d) le)
    ∙ mod-mul-add (2 * (h / d) + 1) d (bit b + 2 * (h % d) - d) (small-rest b (h % d) d (mod-lt h pos) le)
    ∙ ap (λ c. if c then bit b + 2 * (h % d) - d else bit b + 2 * (h % d)) (sym (below-le (bit b + 2 * (h % d)) d le)))
    (cases_lt (bit b + 2 * (h % d)) d)

-- by 0, and by a number that isn't 0
not-zero : (d : ℕ) → (suc d == 0) ≡ false
not-zero d = grind (arith, nat_tests)

udiv-pos : (k s d : ℕ) → udiv k s (suc d) ≡ s / suc d
udiv-pos k s d = cond-false (suc d == 0) (2 ^ k - 1) (s / suc d) (not-zero d)

urem-pos : (s d : ℕ) → urem s (suc d) ≡ s % suc d
urem-pos s d = cond-false (suc d == 0) s (s % suc d) (not-zero d)

one-more : (p q : ℕ) → 1 ≤ p → q ≡ p * 2 → q - 1 ≡ 1 + 2 * (p - 1)
one-more p q pos e = omega arith

udiv-more : (b : Bool) (k h d : ℕ) →
    udiv (k + 1) (bit b + 2 * h) d ≡ bit (nat_le d (bit b + 2 * urem h d)) + 2 * udiv k h d
udiv-more b k h zero =
    one-more (2 ^ k) (2 ^ (k + 1)) (pow_pos k) (ap (λ j. 2 ^ j) (add-one k) ∙ pow-suc 2 k)
    ∙ ap (λ c. bit c + 2 * (2 ^ k - 1)) (sym (below-le (bit b + 2 * h) 0 (omega arith)))
udiv-more b k h (suc d) =
    udiv-pos (k + 1) (bit b + 2 * h) d ∙ quotient-more b h (suc d) (omega arith)
    ∙ ap (λ j. bit (nat_le (suc d) (bit b + 2 * j)) + 2 * (h / suc d)) (sym (urem-pos h d))
    ∙ ap (λ j. bit (nat_le (suc d) (bit b + 2 * urem h (suc d))) + 2 * j) (sym (udiv-pos k h d))

less-nothing : (n : ℕ) → n ≡ less-where n 0
less-nothing n =
    (let same : n ≡ n - 0 = omega arith in same)
    ∙ ap (λ c. if c then n - 0 else n) (sym (below-le n 0 (omega arith)))

urem-more : (b : Bool) (h d : ℕ) → urem (bit b + 2 * h) d ≡ less-where (bit b + 2 * urem h d) d
urem-more b h zero = less-nothing (bit b + 2 * h)
urem-more b h (suc d) =
    urem-pos (bit b + 2 * h) d ∙ remainder-more b h (suc d) (omega arith)
    ∙ ap (λ j. less-where (bit b + 2 * j) (suc d)) (sym (urem-pos h d))

urem-lt : (s d p : ℕ) → s < p → urem s d < p
urem-lt s zero p less = less
urem-lt s (suc d) p less =
    subst (λ k. k < p) (sym (urem-pos s d))
    (let small : s % suc d < p = omega (arith, mod-le s (suc d)) in small)

udiv-nothing : (d : ℕ) → udiv 0 0 d ≡ 0
udiv-nothing zero = refl
udiv-nothing (suc d) = udiv-pos 0 0 d ∙ zero-div (suc d)

urem-nothing : (d : ℕ) → urem 0 d ≡ 0
urem-nothing zero = refl
urem-nothing (suc d) = urem-pos 0 d ∙ zero-mod (suc d)

-- ---- a number less another, where that goes into it

pub not-less : (s t : ℕ) → not (nat_lt s t) ≡ nat_le t s
not-less s t =
    ⊎_elim
    (λ (less : s < t). ap not (lt-true s t less) ∙ sym (below-lt s t less))
    (λ (le : t ≤ s). ap not (lt-false s t le) ∙ sym (below-le s t le))
    (cases_lt s t)
  where
    lt-true : (a b : ℕ) → a < b → nat_lt a b ≡ true
    lt-true a b h = grind (arith, nat_tests)

    lt-false : (a b : ℕ) → b ≤ a → nat_lt a b ≡ false
    lt-false a b h = grind (arith, nat_tests)

turned : (b : Bool) (s t : ℕ) → (if b then s else t) ≡ (if not b then t else s)
turned true s t = refl
turned false s t = refl

left-step : (s t p : ℕ) → s < p → t ≤ s → (s + (p - t)) % p ≡ s - t
left-step s t p less le =
    ap (λ k. k % p) (let whole : s + (p - t) ≡ (s - t) + p = omega arith in whole)
    ∙ add-mod_right (s - t) p ∙ mod-eq_of_lt (let small : s - t < p = omega arith in small)

reduced-step : (s t p : ℕ) → s < p → (if nat_le t s then (s + (p - t)) % p else s) ≡ less-where s t
reduced-step s t p less =
    ⊎_elim
    (λ (below : s < t). ap (λ c. if c then (s + (p - t)) % p else s) (below-lt s t below)
    ∙ sym (ap (λ c. if c then s - t else s) (below-lt s t below)))
    (λ (le : t ≤ s). ap (λ c. if c then (s + (p - t)) % p else s) (below-le s t le) ∙ left-step s t p less le
    ∙ sym (ap (λ c. if c then s - t else s) (below-le s t le)))
    (cases_lt s t)

-- the choice between a word and what is left of it
pub reduced-number : {n : Netlist} (word divisor left given : List Signal) (less : Signal) →
    IsSignalOf n (λ v. nat_lt (word_number v word) (word_number v divisor)) less →
    IsWordOf n (length word)
    (λ v. (word_number v word + (2 ^ length word - word_number v divisor)) % 2 ^ length word) left → given ≡ left →
    (v : ℕ → Bool) → IsTrue (hold v n.gates) →
    (if signal_true v less then word_number v word else word_number v given)
    ≡ less-where (word_number v word) (word_number v divisor)
reduced-number {n} word divisor left given less below is same v h =
    turned (signal_true v less) (word_number v word) (word_number v given)
    ∙ ap (λ c. if c then word_number v given else word_number v word)
    (ap not (below.value v h) ∙ not-less (word_number v word) (word_number v divisor))
    ∙ ap (λ k. if nat_le (word_number v divisor) (word_number v word) then k else word_number v word)
    (ap (word_number v) same ∙ is.number v h)
    ∙ reduced-step (word_number v word) (word_number v divisor) (2 ^ length word) (word_number-lt v word)

-- ---- parts of a word that is known

pub taken-of : {n : Netlist} {w : ℕ} {f : (ℕ → Bool) → ℕ} {word : List Signal} → IsWordOf n w f word →
    (given copy : List Signal) (k : ℕ) → k ≤ w → given ≡ word → copy ≡ take k given →
    IsWordOf n k (λ v. f v % 2 ^ k) copy
taken-of {n} {w} {f} {word} is given copy k le same e =
    record {
      over = subst (AreOver n) (sym whole) (All-take (IsSignalOver (length n.gates)) k word is.over);
      places = ap length whole ∙ length-take-le k word fits;
      number =
          λ v h. ap (word_number v) whole ∙ word_number-take v word k fits ∙ ap (λ j. j % 2 ^ k) (is.number v h);
    }
  where
    whole : copy ≡ take k word
    whole = e ∙ ap (take k) same

    fits : k ≤ length word
    fits = subst (λ j. k ≤ j) (sym is.places) le

-- ---- digits

-- the quotient and the remainder of the bits from a place on
pub record IsDivided (n : Netlist) (dividend divisor : List Signal) (place : ℕ) (quotient rest : List Signal)
    : Type 0 where
  pub within : place ≤ length dividend
  pub quotient_is : IsWordOf n (length dividend - place)
      (λ v. udiv (length dividend - place) (word_number v (drop place dividend)) (word_number v divisor)) quotient
  pub rest_is : IsWordOf n (length dividend)
      (λ v. urem (word_number v (drop place dividend)) (word_number v divisor)) rest

pub divided-grows : {old new : Netlist} → Grows old new → {dividend divisor : List Signal} {place : ℕ}
    {quotient rest : List Signal} → IsDivided old dividend divisor place quotient rest →
    IsDivided new dividend divisor place quotient rest
divided-grows growth is =
    record {
      within = is.within;
      quotient_is = word-grows growth is.quotient_is;
      rest_is = word-grows growth is.rest_is;
    }

pub divided-start : {n : Netlist} (dividend divisor quotient rest : List Signal) → quotient ≡ [] →
    IsWordOf n (length dividend) (λ v. 0 % 2 ^ length dividend) rest →
    IsDivided n dividend divisor (length dividend) quotient rest
divided-start {n} dividend divisor quotient rest e is =
    record {
      within = omega arith;
      quotient_is =
          record {
            over = subst (AreOver n) (sym e) (All-nil (IsSignalOver (length n.gates)));
            places = ap length e ∙ sym none;
            number =
                λ v h. ap (word_number v) e ∙ sym (udiv-nothing (word_number v divisor))
                ∙ ap (λ k. udiv k 0 (word_number v divisor)) (sym none)
                ∙ ap (λ k. udiv (length dividend - length dividend) k (word_number v divisor)) (sym (nothing v));
          };
      rest_is =
          word-of is (length dividend) refl _
          (λ v h. zero-mod (2 ^ length dividend) ∙ sym (urem-nothing (word_number v divisor))
          ∙ ap (λ k. urem k (word_number v divisor)) (sym (nothing v)));
    }
  where
    none : length dividend - length dividend ≡ 0
    none = omega arith

    nothing : (v : ℕ → Bool) → word_number v (drop (length dividend) dividend) ≡ 0
    nothing v = word_number-end v dividend (length dividend) (omega arith)

-- one digit more
pub divided-more : {n : Netlist} (dividend divisor wide wide_given quotient quotient_given more rest rest_given left
    : List Signal) (place : ℕ) (d digit : Signal) → 0 < place → IsDivided n dividend divisor place quotient rest →
    length divisor ≡ length dividend →
    IsWordOf n (length divisor + 1) (λ v. word_number v divisor) wide → wide_given ≡ wide →
    quotient_given ≡ quotient → more ≡ digit ∷ quotient_given → rest_given ≡ rest →
    IsSignalOf n
    (λ v. nat_le (word_number v wide_given) (word_number v (get_or dividend (place - 1) d ∷ rest_given))) digit →
    IsWordOf n (length rest_given)
    (λ v. less-where (word_number v (get_or dividend (place - 1) d ∷ rest_given)) (word_number v wide_given)
    % 2 ^ length rest_given) left →
    IsDivided n dividend divisor (place - 1) more left
divided-more {n} dividend divisor wide wide_given quotient quotient_given more rest rest_given left place d digit pos is
    width wider same_wide same_quotient joined same_rest digit_is left_is =
    record {
      within = omega (arith, is.within);
      quotient_is =
          record {
            over =
                subst (AreOver n) (sym whole)
                (All-cons (IsSignalOver (length n.gates)) digit quotient digit_is.over is.quotient_is.over);
            places = ap length whole ∙ ap suc is.quotient_is.places ∙ sym longer;
            number =
                λ v h. ap (word_number v) whole
                ∙ ap (λ b. bit b + 2 * word_number v quotient) (digit_is.value v h ∙ digit-number v h)
                ∙ ap (λ k. bit (nat_le (word_number v divisor)
                (bit (top v) + 2 * urem (high v) (word_number v divisor)))
                + 2 * k) (is.quotient_is.number v h)
                ∙ sym (udiv-more (top v) (length dividend - place) (high v) (word_number v divisor))
                ∙ ap (λ k. udiv k (bit (top v) + 2 * high v) (word_number v divisor))
                (let next : (length dividend - place) + 1 ≡ length dividend - (place - 1) =
                omega (arith, is.within) in next)
                ∙ ap (λ k. udiv (length dividend - (place - 1)) k (word_number v divisor)) (sym (higher v));
          };
      rest_is =
          word-of left_is (length dividend) size _
          (λ v h. ap (λ k. less-where (word_number v (get_or dividend (place - 1) d ∷ rest_given))
          (word_number v wide_given)
          % 2 ^ k) size
          ∙ ap (λ k. less-where k (word_number v wide_given) % 2 ^ length dividend) (rest-number v h)
          ∙ ap (λ k. less-where (bit (top v) + 2 * urem (high v) (word_number v divisor)) k % 2 ^ length dividend)
          (wide-number v h)
          ∙ ap (λ k. k % 2 ^ length dividend) (sym (urem-more (top v) (high v) (word_number v divisor)))
          ∙ ap (λ k. urem k (word_number v divisor) % 2 ^ length dividend) (sym (higher v))
          ∙ mod-eq_of_lt (urem-lt (word_number v (drop (place - 1) dividend)) (word_number v divisor)
          (2 ^ length dividend)
          (fits v)));
    }
  where
    whole : more ≡ digit ∷ quotient
    whole = joined ∙ ap (λ xs. digit ∷ xs) same_quotient

    longer : length dividend - (place - 1) ≡ suc (length dividend - place)
    longer = omega (arith, is.within)

    size : length rest_given ≡ length dividend
    size = ap length same_rest ∙ is.rest_is.places

    top : (ℕ → Bool) → Bool
    top v = signal_true v (get_or dividend (place - 1) d)

    high : (ℕ → Bool) → ℕ
    high v = word_number v (drop place dividend)

    back : place - 1 + 1 ≡ place
    back = omega arith

    higher : (v : ℕ → Bool) → word_number v (drop (place - 1) dividend) ≡ bit (top v) + 2 * high v
    higher v =
        word_number-at v dividend (place - 1) d (omega (arith, is.within))
        ∙ ap (λ k. bit (top v) + 2 * word_number v (drop k dividend)) back

    rest-number : (v : ℕ → Bool) → IsTrue (hold v n.gates) →
        word_number v (get_or dividend (place - 1) d ∷ rest_given)
        ≡ bit (top v) + 2 * urem (high v) (word_number v divisor)
    rest-number v h = ap (λ k. bit (top v) + 2 * k) (ap (word_number v) same_rest ∙ is.rest_is.number v h)

    wide-number : (v : ℕ → Bool) → IsTrue (hold v n.gates) → word_number v wide_given ≡ word_number v divisor
    wide-number v h = ap (word_number v) same_wide ∙ wider.number v h

    digit-number : (v : ℕ → Bool) → IsTrue (hold v n.gates) →
        nat_le (word_number v wide_given) (word_number v (get_or dividend (place - 1) d ∷ rest_given))
        ≡ nat_le (word_number v divisor) (bit (top v) + 2 * urem (high v) (word_number v divisor))
    digit-number v h =
        ap (λ k. nat_le k (word_number v (get_or dividend (place - 1) d ∷ rest_given))) (wide-number v h)
        ∙ ap (nat_le (word_number v divisor)) (rest-number v h)

    fits : (v : ℕ → Bool) → word_number v (drop (place - 1) dividend) < 2 ^ length dividend
    fits v =
        lt_of_lt_of_le (word_number-lt v (drop (place - 1) dividend))
        (pow-le-pow_right (omega arith)
        (let few : length (drop (place - 1) dividend) ≤ length dividend =
        omega (arith, length-drop (place - 1) dividend)
        in few))

-- all digits
pub divided-quotient : {n : Netlist} (dividend divisor quotient rest : List Signal) (place : ℕ) →
    IsDivided n dividend divisor place quotient rest → place ≡ 0 →
    IsWordOf n (length dividend)
    (λ v. udiv (length dividend) (word_number v dividend) (word_number v divisor)) quotient
divided-quotient {n} dividend divisor quotient rest place is e =
    word-of is.quotient_is (length dividend) all _
    (λ v h. ap (λ k. udiv k (word_number v (drop place dividend)) (word_number v divisor)) all
    ∙ ap (λ k. udiv (length dividend) (word_number v (drop k dividend)) (word_number v divisor)) e)
  where
    all : length dividend - place ≡ length dividend
    all = omega arith

pub divided-rest : {n : Netlist} (dividend divisor quotient rest : List Signal) (place : ℕ) →
    IsDivided n dividend divisor place quotient rest → place ≡ 0 →
    IsWordOf n (length dividend) (λ v. urem (word_number v dividend) (word_number v divisor)) rest
divided-rest {n} dividend divisor quotient rest place is e =
    word-of is.rest_is (length dividend) refl _
    (λ v h. ap (λ k. urem (word_number v (drop k dividend)) (word_number v divisor)) e)
