-- Sums, differences and order, by the lowest bit and the others.
use Rattle.std.proofs.Common.{◌≡◌, ℕ, ◌+◌, ◌-◌, ◌*◌, ◌^◌, ◌%◌, ◌<◌, ◌≤◌, Bool, true, false, not, ◌&&◌, ◌||◌, IsTrue}
use Rattle.std.proofs.Common.{nat_lt, nat_le, List, length, take, drop, get_or, refl, sym, ap}
use Rattle.std.proofs.Common.{subst, ◌∙◌, arith}
use Rattle.std.specs.Bool.{beq}
use Rattle.std.proofs.lemmas.List.{take-append-drop, length-take-le}
use Rattle.std.proofs.lemmas.Bool.Decides.{nat_tests}
use Rattle.std.proofs.Math.Nat.{pow-suc, zero-mod}
use Rattle.std.proofs.Math.Numerals.{add-one}
use Rattle.circuit.specs.declared.signal.Signal.{Signal}
use Rattle.circuit.specs.Signal.{signal_true, IsSignalOver}
use Rattle.circuit.specs.Gate.{Netlist, IsSignalOf, hold, parity, majority}
use Rattle.bv_terms.specs.Words.{is_negative, slt}
use Rattle.word_circuits.specs.Word.{bit, word_number, IsWordOf}
use Rattle.word_circuits.proofs.WordLemmas.{word_number-at, word_number-end, word_number-lt, word_number-append}
use Rattle.word_circuits.proofs.LoopLemmas.{IsBegun}
use Rattle.word_circuits.proofs.BitLemmas.{complement}

-- ---- addition

-- the sum of two words and a carry
abbrev pub added : List Signal → List Signal → Signal → (ℕ → Bool) → ℕ
added left right carry v = word_number v left + word_number v right + bit (signal_true v carry)

added-step : (a b c : Bool) (x y : ℕ) →
    (bit a + 2 * x) + (bit b + 2 * y) + bit c ≡ bit (parity a b c) + 2 * (x + y + bit (majority a b c))
added-step true true true x y = omega arith
added-step true true false x y = omega arith
added-step true false true x y = omega arith
added-step true false false x y = omega arith
added-step false true true x y = omega arith
added-step false true false x y = omega arith
added-step false false true x y = omega arith
added-step false false false x y = omega arith

pub added-at : (v : ℕ → Bool) (left right : List Signal) (i : ℕ) (d e carry out : Signal) → i < length left →
    length right ≡ length left →
    signal_true v out ≡ majority (signal_true v (get_or left i d)) (signal_true v (get_or right i e))
    (signal_true v carry) →
    added (drop i left) (drop i right) carry v
    ≡ bit (parity (signal_true v (get_or left i d)) (signal_true v (get_or right i e)) (signal_true v carry))
    + 2 * added (drop (i + 1) left) (drop (i + 1) right) out v
added-at v left right i d e carry out h same carried =
    ap (λ k. k + word_number v (drop i right) + bit (signal_true v carry)) (word_number-at v left i d h)
    ∙ ap (λ k. bit (signal_true v (get_or left i d)) + 2 * word_number v (drop (i + 1) left) + k
    + bit (signal_true v carry))
    (word_number-at v right i e (omega arith))
    ∙ added-step (signal_true v (get_or left i d)) (signal_true v (get_or right i e)) (signal_true v carry)
    (word_number v (drop (i + 1) left)) (word_number v (drop (i + 1) right))
    ∙ ap (λ b. bit (parity (signal_true v (get_or left i d)) (signal_true v (get_or right i e)) (signal_true v carry))
    + 2 * (word_number v (drop (i + 1) left) + word_number v (drop (i + 1) right) + bit b)) (sym carried)

carry-out : (b : Bool) (word p whole : ℕ) → word < p → word + p * bit b ≡ whole → b ≡ nat_le p whole
carry-out true word p whole less e = grind (arith, nat_tests)
carry-out false word p whole less e = grind (arith, nat_tests)

left-over : (v : ℕ → Bool) (left right : List Signal) (i : ℕ) (carry : Signal) → length left ≤ i →
    length right ≡ length left → added (drop i left) (drop i right) carry v ≡ bit (signal_true v carry)
left-over v left right i carry h same =
    ap (λ k. k + word_number v (drop i right) + bit (signal_true v carry)) (word_number-end v left i h)
    ∙ ap (λ k. 0 + k + bit (signal_true v carry)) (word_number-end v right i (omega arith))
    ∙ (let plain : 0 + 0 + bit (signal_true v carry) ≡ bit (signal_true v carry) = omega arith in plain)

-- the carry that is left says whether the sum is too large
pub carry-of : {n : Netlist} (left right word : List Signal) (i : ℕ) (whole : (ℕ → Bool) → ℕ) (carry : Signal) →
    IsBegun n i (added (drop i left) (drop i right) carry) whole word → IsSignalOver (length n.gates) carry →
    i ≡ length left → length right ≡ length left → IsSignalOf n (λ v. nat_le (2 ^ length left) (whole v)) carry
carry-of {n} left right word i whole carry begun over all same =
    record {
      over = over;
      value =
          λ v h. carry-out (signal_true v carry) (word_number v word) (2 ^ i) (whole v)
          (subst (λ k. word_number v word < 2 ^ k) begun.places (word_number-lt v word))
          (ap (λ k. word_number v word + 2 ^ i * k) (sym (left-over v left right i carry (omega arith) same))
          ∙ begun.number v h)
          ∙ ap (λ k. nat_le (2 ^ k) (whole v)) all;
    }

-- ---- subtraction

pub opposite-added : (s t p : ℕ) → t < p → s + (p - 1 - t) + 1 ≡ s + (p - t)
opposite-added s t p less = omega arith

difference-step : (s t p n k : ℕ) → t < p → k ≡ p - 1 - t → n ≡ p → (s + k + 1) % n ≡ (s + (n - t)) % n
difference-step s t p n k less inverted same =
    ap (λ x. (s + x + 1) % n) inverted ∙ ap (λ x. x % n) (opposite-added s t p less)
    ∙ ap (λ x. (s + (x - t)) % n) (sym same)

-- a word and another inverted, with a carry
pub difference-number : {n : Netlist} (left right opposite given : List Signal) →
    IsWordOf n (length right) (complement right) opposite → given ≡ opposite → length right ≡ length left →
    (v : ℕ → Bool) → IsTrue (hold v n.gates) →
    (word_number v left + word_number v given + 1) % 2 ^ length left
    ≡ (word_number v left + (2 ^ length left - word_number v right)) % 2 ^ length left
difference-number {n} left right opposite given is e same v h =
    difference-step (word_number v left) (word_number v right) (2 ^ length right) (2 ^ length left)
    (word_number v given) (word_number-lt v right) (ap (word_number v) e ∙ is.number v h)
    (ap (λ k. 2 ^ k) (sym same))

zero-less : (t p z n : ℕ) → z ≡ 0 % p → n ≡ p → (z + (n - t)) % n ≡ (p - t) % p
zero-less t p z n nothing same =
    ap (λ k. (z + (k - t)) % k) same
    ∙ ap (λ k. (k + (p - t)) % p) (nothing ∙ zero-mod p)
    ∙ ap (λ k. k % p) (let plain : 0 + (p - t) ≡ p - t = omega arith in plain)

-- a word less than nothing
pub negated-number : {n : Netlist} (word nothing given : List Signal) →
    IsWordOf n (length word) (λ v. 0 % 2 ^ length word) nothing → given ≡ nothing →
    (v : ℕ → Bool) → IsTrue (hold v n.gates) →
    (word_number v given + (2 ^ length given - word_number v word)) % 2 ^ length given
    ≡ (2 ^ length word - word_number v word) % 2 ^ length word
negated-number {n} word nothing given is e v h =
    zero-less (word_number v word) (2 ^ length word) (word_number v given) (2 ^ length given)
    (ap (word_number v) e ∙ is.number v h) (ap (λ k. 2 ^ k) (ap length e ∙ is.places))

-- ---- order

-- whether a word is less than another and a borrow
abbrev pub less-left : List Signal → List Signal → (ℕ → Bool) → Bool → Bool
less-left left right v b = nat_lt (word_number v left) (word_number v right + bit b)

less-step : (a b p : Bool) (x y : ℕ) →
    nat_lt x (y + bit (majority (not a) b p)) ≡ nat_lt (bit a + 2 * x) (bit b + 2 * y + bit p)
less-step true true true x y = grind (arith, nat_tests)
less-step true true false x y = grind (arith, nat_tests)
less-step true false true x y = grind (arith, nat_tests)
less-step true false false x y = grind (arith, nat_tests)
less-step false true true x y = grind (arith, nat_tests)
less-step false true false x y = grind (arith, nat_tests)
less-step false false true x y = grind (arith, nat_tests)
less-step false false false x y = grind (arith, nat_tests)

pub less-at : (v : ℕ → Bool) (borrow opposite : Signal) (left right : List Signal) (i : ℕ) (d e : Signal) →
    i < length left → length right ≡ length left → signal_true v opposite ≡ not (signal_true v (get_or left i d)) →
    less-left (drop (i + 1) left) (drop (i + 1) right) v
    (majority (signal_true v opposite) (signal_true v (get_or right i e)) (signal_true v borrow))
    ≡ less-left (drop i left) (drop i right) v (signal_true v borrow)
less-at v borrow opposite left right i d e h same turned =
    ap (λ b. less-left (drop (i + 1) left) (drop (i + 1) right) v
    (majority b (signal_true v (get_or right i e)) (signal_true v borrow))) turned
    ∙ less-step (signal_true v (get_or left i d)) (signal_true v (get_or right i e)) (signal_true v borrow)
    (word_number v (drop (i + 1) left)) (word_number v (drop (i + 1) right))
    ∙ ap (λ k. nat_lt k (bit (signal_true v (get_or right i e)) + 2 * word_number v (drop (i + 1) right)
    + bit (signal_true v borrow))) (sym (word_number-at v left i d h))
    ∙ ap (λ k. nat_lt (word_number v (drop i left)) (k + bit (signal_true v borrow)))
    (sym (word_number-at v right i e (omega arith)))

pub less-start : (x y : ℕ) → nat_lt x (y + 0) ≡ nat_lt x y
less-start x y = grind (arith, nat_tests)

less-none : (x y : ℕ) (b : Bool) → x ≡ 0 → y ≡ 0 → nat_lt x (y + bit b) ≡ b
less-none x y true e f = grind (arith, nat_tests)
less-none x y false e f = grind (arith, nat_tests)

pub less-end : (v : ℕ → Bool) (left right : List Signal) (i : ℕ) (b : Bool) → length left ≤ i →
    length right ≡ length left → less-left (drop i left) (drop i right) v b ≡ b
less-end v left right i b h same =
    less-none (word_number v (drop i left)) (word_number v (drop i right)) b (word_number-end v left i h)
    (word_number-end v right i (omega arith))

-- ---- order in two's complement

-- a word by its highest bit and the others
pub word_number-high : (v : ℕ → Bool) (word : List Signal) (h : ℕ) (d : Signal) → length word ≡ h + 1 →
    word_number v word ≡ word_number v (take h word) + 2 ^ h * bit (signal_true v (get_or word h d))
word_number-high v word h d size =
    ap (word_number v) (sym (take-append-drop h word)) ∙ word_number-append v (take h word) (drop h word)
    ∙ ap (λ k. word_number v (take h word) + 2 ^ k * word_number v (drop h word)) low
    ∙ ap (λ k. word_number v (take h word) + 2 ^ h * k) top
  where
    low : length (take h word) ≡ h
    low = length-take-le h word (omega arith)

    top : word_number v (drop h word) ≡ bit (signal_true v (get_or word h d))
    top =
        word_number-at v word h d (omega arith)
        ∙ ap (λ k. bit (signal_true v (get_or word h d)) + 2 * k) (word_number-end v word (h + 1) (omega arith))
        ∙ (let plain : bit (signal_true v (get_or word h d)) + 2 * 0 ≡ bit (signal_true v (get_or word h d)) =
        omega arith
        in plain)

pub low-lt : (v : ℕ → Bool) (word : List Signal) (h : ℕ) → h ≤ length word → word_number v (take h word) < 2 ^ h
low-lt v word h le =
    subst (λ k. word_number v (take h word) < 2 ^ k) (length-take-le h word le) (word_number-lt v (take h word))

negative-bit : (b : Bool) (x p q : ℕ) → x < p → q ≡ p * 2 → nat_le q (2 * (x + p * bit b)) ≡ b
negative-bit true x p q less e = grind (arith, nat_tests)
negative-bit false x p q less e = grind (arith, nat_tests)

-- the highest bit is that of the sign
pub is_negative-high : (v : ℕ → Bool) (word : List Signal) (h : ℕ) (d : Signal) → length word ≡ h + 1 →
    is_negative (length word) (word_number v word) ≡ signal_true v (get_or word h d)
is_negative-high v word h d size =
    ap (λ k. nat_le (2 ^ length word) (2 * k)) (word_number-high v word h d size)
    ∙ negative-bit (signal_true v (get_or word h d)) (word_number v (take h word)) (2 ^ h) (2 ^ length word)
    (low-lt v word h (omega arith)) (ap (λ k. 2 ^ k) (size ∙ add-one h) ∙ pow-suc 2 h)

-- the order in two's complement, of the signs and the order of the numbers
abbrev signed : Bool → Bool → Bool → Bool
signed p q less = (p && not q) || (beq p q && less)

or-false : (b : Bool) → (b || false) ≡ b
or-false true = refl
or-false false = refl

raised : (k x y : ℕ) → nat_lt x y ≡ nat_lt (x + k) (y + k)
raised k x y = grind (arith, nat_tests)

signed-step : (a b : Bool) (x y p : ℕ) →
    majority a (not b) (nat_lt x y) ≡ signed a b (nat_lt (x + p * bit a) (y + p * bit b))
signed-step true true x y p = or-false (nat_lt x y) ∙ raised (p * 1) x y
signed-step true false x y p = refl
signed-step false true x y p = refl
signed-step false false x y p = raised (p * 0) x y

pub signed-less : (v : ℕ → Bool) (left right : List Signal) (h : ℕ) (d e opposite borrow : Signal) →
    length left ≡ h + 1 → length right ≡ length left →
    signal_true v opposite ≡ not (signal_true v (get_or right h e)) →
    signal_true v borrow ≡ nat_lt (word_number v (take h left)) (word_number v (take h right)) →
    majority (signal_true v (get_or left h d)) (signal_true v opposite) (signal_true v borrow)
    ≡ slt (length left) (word_number v left) (word_number v right)
signed-less v left right h d e opposite borrow size same turned less =
    ap (λ b. majority a b (signal_true v borrow)) turned ∙ ap (majority a (not b)) less
    ∙ signed-step a b (word_number v (take h left)) (word_number v (take h right)) (2 ^ h)
    ∙ ap (λ k. signed a b (nat_lt k (word_number v (take h right) + 2 ^ h * bit b)))
    (sym (word_number-high v left h d size))
    ∙ ap (λ k. signed a b (nat_lt (word_number v left) k)) (sym (word_number-high v right h e (same ∙ size)))
    ∙ ap (λ k. signed k b (nat_lt (word_number v left) (word_number v right))) (sym (is_negative-high v left h d size))
    ∙ ap (λ k. signed (is_negative (length left) (word_number v left)) k (nat_lt (word_number v left)
    (word_number v right))) (sym negative)
  where
    a : Bool
    a = signal_true v (get_or left h d)

    b : Bool
    b = signal_true v (get_or right h e)

    negative : is_negative (length left) (word_number v right) ≡ b
    negative =
        ap (λ k. is_negative k (word_number v right)) (sym same) ∙ is_negative-high v right h e (same ∙ size)
