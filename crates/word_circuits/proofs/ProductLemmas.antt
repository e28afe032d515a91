-- Products by rows.
use Rattle.std.proofs.Common.{◌≡◌, ℕ, ◌+◌, ◌-◌, ◌*◌, ◌/◌, ◌^◌, ◌%◌, ◌<◌, ◌≤◌, Bool, true, false, List}
use Rattle.std.proofs.Common.{IsTrue, length, take, drop, get_or, refl, sym, ap, subst, ◌∙◌, arith}
use Rattle.std.proofs.Common.{if◌then◌else◌}
use Rattle.std.proofs.lemmas.Nat.{pow_pos}
use Rattle.std.proofs.Math.Nat.{pow-suc, zero-mod, mod-eq_of_lt, mod-add-mod, add-mod-mod, mod-add-div, add-mod}
use Rattle.std.proofs.Math.Nat.{add-mul-mod_self_right, mod-lt, lt_of_lt_of_le, pow-le-pow_right}
use Rattle.std.proofs.lemmas.List.{length-drop}
use Rattle.std.proofs.Math.Numerals.{add-one}
use Rattle.circuit.specs.declared.signal.Signal.{Signal}
use Rattle.circuit.specs.Signal.{signal_true}
use Rattle.circuit.specs.Gate.{Netlist, Grows, hold}
use Rattle.circuit.proofs.GrowthLemmas.{grows-hold, all-over-grows}
use Rattle.word_circuits.specs.declared.products.Digit.{Digit}
use Rattle.word_circuits.specs.declared.products.Digit.TheVariants as digit
use Rattle.word_circuits.specs.Digit.{IsDigitOf, with_digit}
use Rattle.word_circuits.specs.Word.{bit, word_number, AreOver, IsWordOf}
use Rattle.word_circuits.proofs.WordLemmas.{word_number-lt, word-of}
use Rattle.word_circuits.proofs.ShiftLemmas.{amount-more}

-- ---- a known number

-- what is made of the product of a word and a number, where the rest is what is left of the number at a place
pub record IsPartial (n : Netlist) (word : List Signal) (number place rest : ℕ) (result : List Signal) : Type 0 where
  pub over : AreOver n result
  pub places : length result ≡ length word
  pub modulo : (v : ℕ → Bool) → IsTrue (hold v n.gates)
      → (word_number v result + rest * (2 ^ place * word_number v word)) % 2 ^ length word
      ≡ number * word_number v word % 2 ^ length word

pub partial-grows : {old new : Netlist} → Grows old new → {word : List Signal} {number place rest : ℕ}
    {result : List Signal} → IsPartial old word number place rest result → IsPartial new word number place rest result
partial-grows {old} {new} growth {word} {number} {place} {rest} {result} is =
    record {
      over = all-over-grows growth result is.over;
      places = is.places;
      modulo = λ v h. is.modulo v (grows-hold growth v h);
    }

pub partial-start : {n : Netlist} (word : List Signal) (number : ℕ) (result : List Signal) →
    IsWordOf n (length word) (λ v. 0 % 2 ^ length word) result → IsPartial n word number 0 number result
partial-start {n} word number result is =
    record {
      over = is.over;
      places = is.places;
      modulo =
          λ v h. ap (λ k. (k + number * (2 ^ 0 * word_number v word)) % 2 ^ length word)
          (is.number v h ∙ zero-mod (2 ^ length word))
          ∙ ap (λ k. k % 2 ^ length word) (once number (word_number v word));
    }
  where
    once : (a b : ℕ) → 0 + a * (1 * b) ≡ a * b
    once a b = omega arith

zero-step : (m s w p left rest : ℕ) → rest ≡ 2 * left → (s + left * (p * 2 * w)) % m ≡ (s + rest * (p * w)) % m
zero-step m s w p left rest e =
    ap (λ k. k % m) ((let spread : s + left * (p * 2 * w) ≡ s + 2 * left * (p * w) = omega arith in spread)
    ∙ ap (λ k. s + k * (p * w)) (sym e))

one-step : (m s w p left rest : ℕ) → rest ≡ 2 * left + 1 →
    ((s + w * p % m) % m + left * (p * 2 * w)) % m ≡ (s + rest * (p * w)) % m
one-step m s w p left rest e =
    mod-add-mod (s + w * p % m) m (left * (p * 2 * w))
    ∙ ap (λ k. k % m) (swapped s (w * p % m) (left * (p * 2 * w)))
    ∙ add-mod-mod (s + left * (p * 2 * w)) (w * p) m
    ∙ ap (λ k. k % m)
    ((let spread : s + left * (p * 2 * w) + w * p ≡ s + (2 * left + 1) * (p * w) = omega arith in spread)
    ∙ ap (λ k. s + k * (p * w)) (sym e))
  where
    swapped : (a b c : ℕ) → a + b + c ≡ a + c + b
    swapped a b c = omega arith

minus-plain : (m s r x y q : ℕ) → r ≤ m → y ≡ x + (r + m * q) → s + (m - r) + y ≡ (s + x) + (q + 1) * m
minus-plain m s r x y q le e = omega arith

minus-step : (m s w p left rest : ℕ) → 0 < m → rest + 1 ≡ 2 * left →
    ((s + (m - w * p % m)) % m + left * (p * 2 * w)) % m ≡ (s + rest * (p * w)) % m
minus-step m s w p left rest pos e =
    mod-add-mod (s + (m - w * p % m)) m (left * (p * 2 * w))
    ∙ ap (λ k. k % m)
    (minus-plain m s (w * p % m) (rest * (p * w)) (left * (p * 2 * w)) (w * p / m) small spread)
    ∙ add-mul-mod_self_right (s + rest * (p * w)) (w * p / m + 1) m
  where
    small : w * p % m ≤ m
    small = omega (arith, mod-lt (w * p) pos)

    spread : left * (p * 2 * w) ≡ rest * (p * w) + (w * p % m + m * (w * p / m))
    spread =
        (let doubled : left * (p * 2 * w) ≡ 2 * left * (p * w) = omega arith in doubled)
        ∙ ap (λ k. k * (p * w)) (sym e)
        ∙ (let one : (rest + 1) * (p * w) ≡ rest * (p * w) + w * p = omega arith in one)
        ∙ ap (λ k. rest * (p * w) + k) (sym (mod-add-div (w * p) m))

digit-step : (d : Digit) (m s w p left rest : ℕ) → 0 < m → IsDigitOf rest d left →
    (with_digit d m s (w * p % m) + left * (p * 2 * w)) % m ≡ (s + rest * (p * w)) % m
digit-step digit.Zero m s w p left rest pos e = zero-step m s w p left rest e
digit-step digit.One m s w p left rest pos e = one-step m s w p left rest e
digit-step digit.MinusOne m s w p left rest pos e = minus-step m s w p left rest pos e

-- one digit more
pub partial-more : {n : Netlist} (word : List Signal) (number place rest left : ℕ) (d : Digit)
    (before given row rows after : List Signal) → IsDigitOf rest d left → given ≡ before → rows ≡ row →
    IsPartial n word number place rest before →
    IsWordOf n (length word) (λ v. word_number v word * 2 ^ place % 2 ^ length word) row →
    IsWordOf n (length given) (λ v. with_digit d (2 ^ length given) (word_number v given) (word_number v rows)) after →
    IsPartial n word number (place + 1) left after
partial-more {n} word number place rest left d before given row rows after is same alike first moved added =
    record {
      over = added.over;
      places = added.places ∙ size;
      modulo =
          λ v h. ap (λ k. (k + left * (2 ^ (place + 1) * word_number v word)) % 2 ^ length word) (made v h)
          ∙ ap (λ k. (with_digit d (2 ^ length word) (word_number v before)
          (word_number v word * 2 ^ place % 2 ^ length word) + left * (k * word_number v word)) % 2 ^ length word)
          (ap (λ k. 2 ^ k) (add-one place) ∙ pow-suc 2 place)
          ∙ digit-step d (2 ^ length word) (word_number v before) (word_number v word) (2 ^ place) left rest
          (pow_pos (length word)) is
          ∙ first.modulo v h;
    }
  where
    size : length given ≡ length word
    size = ap length same ∙ first.places

    made : (v : ℕ → Bool) → IsTrue (hold v n.gates) → word_number v after
        ≡ with_digit d (2 ^ length word) (word_number v before) (word_number v word * 2 ^ place % 2 ^ length word)
    made v h =
        added.number v h
        ∙ ap (λ k. with_digit d (2 ^ k) (word_number v given) (word_number v rows)) size
        ∙ ap (λ k. with_digit d (2 ^ length word) k (word_number v rows)) (ap (word_number v) same)
        ∙ ap (λ k. with_digit d (2 ^ length word) (word_number v before) k)
        (ap (word_number v) alike ∙ moved.number v h)

-- nothing is left
pub partial-end : {n : Netlist} (word : List Signal) (number place rest : ℕ) (result : List Signal) →
    IsPartial n word number place rest result → rest ≡ 0 →
    IsWordOf n (length word) (λ v. number * word_number v word % 2 ^ length word) result
partial-end {n} word number place rest result is none =
    record {
      over = is.over;
      places = is.places;
      number =
          λ v h. sym (mod-eq_of_lt (subst (λ k. word_number v result < 2 ^ k) is.places (word_number-lt v result)))
          ∙ ap (λ k. k % 2 ^ length word) (plain (word_number v result) (2 ^ place * word_number v word))
          ∙ ap (λ k. (word_number v result + k * (2 ^ place * word_number v word)) % 2 ^ length word) (sym none)
          ∙ is.modulo v h;
    }
  where
    plain : (a b : ℕ) → a ≡ a + 0 * b
    plain a b = omega arith

-- what is left is above the word
pub partial-above : {n : Netlist} (word : List Signal) (number place rest : ℕ) (result : List Signal) →
    IsPartial n word number place rest result → place ≡ length word →
    IsWordOf n (length word) (λ v. number * word_number v word % 2 ^ length word) result
partial-above {n} word number place rest result is all =
    record {
      over = is.over;
      places = is.places;
      number =
          λ v h. sym (mod-eq_of_lt (subst (λ k. word_number v result < 2 ^ k) is.places (word_number-lt v result)))
          ∙ sym (add-mul-mod_self_right (word_number v result) (rest * word_number v word) (2 ^ length word))
          ∙ ap (λ k. k % 2 ^ length word)
          (turned (word_number v result) rest (word_number v word) (2 ^ length word))
          ∙ ap (λ k. (word_number v result + rest * (2 ^ k * word_number v word)) % 2 ^ length word) (sym all)
          ∙ is.modulo v h;
    }
  where
    turned : (a b c d : ℕ) → a + b * c * d ≡ a + b * (d * c)
    turned a b c d = omega arith

-- ---- two words

row-step : (c : Bool) (s p m : ℕ) → (if c then s * p % m else 0 % m) ≡ s * (p * bit c) % m
row-step true s p m = ap (λ k. s * k % m) (let once : p ≡ p * 1 = omega arith in once)
row-step false s p m = ap (λ k. k % m) (let none : 0 ≡ s * (p * 0) = omega arith in none)

pub row-number : {n : Netlist} (word moved given zeros nothing : List Signal) (place : ℕ) (condition : Signal) →
    given ≡ moved → nothing ≡ zeros →
    IsWordOf n (length word) (λ v. word_number v word * 2 ^ place % 2 ^ length word) moved →
    IsWordOf n (length word) (λ v. 0 % 2 ^ length word) zeros →
    (v : ℕ → Bool) → IsTrue (hold v n.gates) →
    (if signal_true v condition then word_number v given else word_number v nothing)
    ≡ word_number v word * (2 ^ place * bit (signal_true v condition)) % 2 ^ length word
row-number {n} word moved given zeros nothing place condition same alike up none v h =
    ap (λ k. if signal_true v condition then k else word_number v nothing) (ap (word_number v) same ∙ up.number v h)
    ∙ ap (λ k. if signal_true v condition then word_number v word * 2 ^ place % 2 ^ length word else k)
    (ap (word_number v) alike ∙ none.number v h)
    ∙ row-step (signal_true v condition) (word_number v word) (2 ^ place) (2 ^ length word)

pub product-start : {n : Netlist} (left result : List Signal) →
    IsWordOf n (length left) (λ v. 0 % 2 ^ length left) result →
    IsWordOf n (length left) (λ v. word_number v left * 0 % 2 ^ length left) result
product-start {n} left result is =
    word-of is (length left) refl _ (λ v h. ap (λ k. k % 2 ^ length left) (none (word_number v left)))
  where
    none : (a : ℕ) → 0 ≡ a * 0
    none a = omega arith

sum-step : (s a b m : ℕ) → (s * a % m + s * b % m) % m ≡ s * (a + b) % m
sum-step s a b m =
    sym (add-mod (s * a) (s * b) m) ∙ ap (λ k. k % m) (let spread : s * a + s * b ≡ s * (a + b) = omega arith in spread)

-- one row more
pub product-more : {n : Netlist} (left right before given row rows after : List Signal) (k : ℕ) (d : Signal) →
    k < length right → given ≡ before → rows ≡ row →
    IsWordOf n (length left) (λ v. word_number v left * word_number v (take k right) % 2 ^ length left) before →
    IsWordOf n (length left)
    (λ v. word_number v left * (2 ^ k * bit (signal_true v (get_or right k d))) % 2 ^ length left) row →
    IsWordOf n (length given) (λ v. (word_number v given + word_number v rows) % 2 ^ length given) after →
    IsWordOf n (length left) (λ v. word_number v left * word_number v (take (k + 1) right) % 2 ^ length left) after
product-more {n} left right before given row rows after k d h same alike first second added =
    word-of added (length left) size _ number
  where
    size : length given ≡ length left
    size = ap length same ∙ first.places

    number : (v : ℕ → Bool) → IsTrue (hold v n.gates) →
        (word_number v given + word_number v rows) % 2 ^ length given
        ≡ word_number v left * word_number v (take (k + 1) right) % 2 ^ length left
    number v holds =
        ap (λ j. (word_number v given + word_number v rows) % 2 ^ j) size
        ∙ ap (λ j. (j + word_number v rows) % 2 ^ length left) (ap (word_number v) same ∙ first.number v holds)
        ∙ ap (λ j. (word_number v left * word_number v (take k right) % 2 ^ length left + j) % 2 ^ length left)
        (ap (word_number v) alike ∙ second.number v holds)
        ∙ sum-step (word_number v left) (word_number v (take k right))
        (2 ^ k * bit (signal_true v (get_or right k d))) (2 ^ length left)
        ∙ ap (λ j. word_number v left * j % 2 ^ length left) (sym (amount-more v right k d h))

-- ---- a word whose bits are known

-- the number of the places from one on, other than the lowest
pub known-lt : (word : List Signal) (place number : ℕ) →
    ((v : ℕ → Bool) → word_number v (drop place word) ≡ number) → length word ≤ 64 → 0 < place → number < 2 ^ 63
known-lt word place number is narrow pos =
    subst (λ k. k < 2 ^ 63) (is (λ k. false))
    (lt_of_lt_of_le (word_number-lt (λ k. false) (drop place word))
    (pow-le-pow_right (omega arith) (let few : length (drop place word) ≤ 63 =
    omega (arith, length-drop place word) in few)))
