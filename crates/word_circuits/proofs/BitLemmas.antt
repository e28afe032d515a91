-- What functions of words bit by bit make of the lowest bit and of the others.
use Rattle.std.proofs.Common.{◌≡◌, ℕ, ◌+◌, ◌-◌, ◌*◌, ◌/◌, ◌^◌, ◌%◌, ◌<◌, ◌≤◌, Bool, true, false, not, ◌&&◌, ◌==◌}
use Rattle.std.proofs.Common.{if◌then◌else◌, List, [], ◌∷◌, length, drop, get_or, refl, sym, ap, ◌∙◌, arith}
use Rattle.std.specs.Bool.{beq}
use Rattle.std.proofs.lemmas.List.{drop_all}
use Rattle.std.proofs.lemmas.Nat.{and_block, or_block, xor_block}
use Rattle.std.proofs.lemmas.Bool.Decides.{nat_tests}
use Rattle.std.proofs.Math.Nat.{pow-succ'}
use Rattle.circuit.specs.declared.signal.Signal.{Signal}
use Rattle.circuit.specs.Signal.{signal_true}
use Rattle.word_circuits.specs.declared.bits.BitFunction.{BitFunction}
use Rattle.word_circuits.specs.declared.bits.BitFunction.TheVariants as bits
use Rattle.word_circuits.specs.Word.{bit, word_number, at_each_bit, of_bits}
use Rattle.word_circuits.proofs.WordLemmas.{bit-le, drop-at, word_number-at, word_number-end, word_number-lt}

-- ---- constants

pub low_bit : (n : ℕ) → n ≡ bit (n % 2 == 1) + 2 * (n / 2)
low_bit n = grind (arith, nat_tests)

-- ---- each bit inverted

-- the bits inverted, as a number
abbrev pub complement : List Signal → (ℕ → Bool) → ℕ
complement word v = 2 ^ length word - 1 - word_number v word

complement-step : (b : Bool) (n p q : ℕ) → n < p → q ≡ 2 * p → q - 1 - (bit b + 2 * n) ≡ bit (not b) + 2 * (p - 1 - n)
complement-step true n p q less e = omega arith
complement-step false n p q less e = omega arith

complement-cons : (v : ℕ → Bool) (s : Signal) (word : List Signal) →
    complement (s ∷ word) v ≡ bit (not (signal_true v s)) + 2 * complement word v
complement-cons v s word =
    complement-step (signal_true v s) (word_number v word) (2 ^ length word) (2 ^ length (s ∷ word))
    (word_number-lt v word) (pow-succ' 2 (length word))

complement-none : (v : ℕ → Bool) (word : List Signal) → word ≡ [] → complement word v ≡ 0
complement-none v word e = ap (λ xs. complement xs v) e

pub complement-end : (v : ℕ → Bool) (word : List Signal) (i : ℕ) → length word ≤ i → complement (drop i word) v ≡ 0
complement-end v word i h = complement-none v (drop i word) (drop_all i word h)

pub complement-at : (v : ℕ → Bool) (word : List Signal) (i : ℕ) (d : Signal) → i < length word →
    complement (drop i word) v ≡ bit (not (signal_true v (get_or word i d))) + 2 * complement (drop (i + 1) word) v
complement-at v word i d h =
    ap (λ xs. complement xs v) (drop-at word i d h) ∙ complement-cons v (get_or word i d) (drop (i + 1) word)

-- ---- two words joined bit by bit

turned : (b : Bool) (x : ℕ) → bit b + 2 * x ≡ x * 2 ^ 1 + bit b
turned b x = omega arith

bit-lt : (b : Bool) → bit b < 2 ^ 1
bit-lt b = omega (arith, bit-le b)

both-bits : (f : BitFunction) (a b : Bool) → at_each_bit f (bit a) (bit b) ≡ bit (of_bits f a b)
both-bits bits.And true true = refl
both-bits bits.And true false = refl
both-bits bits.And false true = refl
both-bits bits.And false false = refl
both-bits bits.Or true true = refl
both-bits bits.Or true false = refl
both-bits bits.Or false true = refl
both-bits bits.Or false false = refl
both-bits bits.Xor true true = refl
both-bits bits.Xor true false = refl
both-bits bits.Xor false true = refl
both-bits bits.Xor false false = refl

at_each_bit-block : (f : BitFunction) (x y a b : ℕ) → a < 2 ^ 1 → b < 2 ^ 1 →
    at_each_bit f (x * 2 ^ 1 + a) (y * 2 ^ 1 + b) ≡ at_each_bit f x y * 2 ^ 1 + at_each_bit f a b
at_each_bit-block bits.And x y a b p q = and_block 1 x y a b p q
at_each_bit-block bits.Or x y a b p q = or_block 1 x y a b p q
at_each_bit-block bits.Xor x y a b p q = xor_block 1 x y a b p q

at_each_bit-step : (f : BitFunction) (a b : Bool) (x y : ℕ) →
    at_each_bit f (bit a + 2 * x) (bit b + 2 * y) ≡ bit (of_bits f a b) + 2 * at_each_bit f x y
at_each_bit-step f a b x y =
    ap (λ k. at_each_bit f k (bit b + 2 * y)) (turned a x) ∙ ap (at_each_bit f (x * 2 ^ 1 + bit a)) (turned b y)
    ∙ at_each_bit-block f x y (bit a) (bit b) (bit-lt a) (bit-lt b)
    ∙ ap (λ k. at_each_bit f x y * 2 ^ 1 + k) (both-bits f a b) ∙ sym (turned (of_bits f a b) (at_each_bit f x y))

-- two words joined, as a number
abbrev pub zipped : BitFunction → List Signal → List Signal → (ℕ → Bool) → ℕ
zipped f left right v = at_each_bit f (word_number v left) (word_number v right)

pub zipped-at : (v : ℕ → Bool) (f : BitFunction) (left right : List Signal) (i : ℕ) (d e : Signal) →
    i < length left → length right ≡ length left →
    zipped f (drop i left) (drop i right) v
    ≡ bit (of_bits f (signal_true v (get_or left i d)) (signal_true v (get_or right i e)))
    + 2 * zipped f (drop (i + 1) left) (drop (i + 1) right) v
zipped-at v f left right i d e h same =
    ap (λ k. at_each_bit f k (word_number v (drop i right))) (word_number-at v left i d h)
    ∙ ap (at_each_bit f (bit (signal_true v (get_or left i d)) + 2 * word_number v (drop (i + 1) left)))
    (word_number-at v right i e (omega arith))
    ∙ at_each_bit-step f (signal_true v (get_or left i d)) (signal_true v (get_or right i e))
    (word_number v (drop (i + 1) left)) (word_number v (drop (i + 1) right))

zeros : (f : BitFunction) → at_each_bit f 0 0 ≡ 0
zeros bits.And = refl
zeros bits.Or = refl
zeros bits.Xor = refl

pub zipped-end : (v : ℕ → Bool) (f : BitFunction) (left right : List Signal) (i : ℕ) → length left ≤ i →
    length right ≡ length left → zipped f (drop i left) (drop i right) v ≡ 0
zipped-end v f left right i h same =
    ap (λ k. at_each_bit f k (word_number v (drop i right))) (word_number-end v left i h)
    ∙ ap (at_each_bit f 0) (word_number-end v right i (omega arith)) ∙ zeros f

-- ---- choice

-- one word or the other, as a number
abbrev pub selected : Signal → List Signal → List Signal → (ℕ → Bool) → ℕ
selected condition chosen otherwise v =
    if signal_true v condition then word_number v chosen else word_number v otherwise

selected-step : (c a b : Bool) (x y : ℕ) →
    (if c then bit a + 2 * x else bit b + 2 * y) ≡ bit (if c then a else b) + 2 * (if c then x else y)
selected-step true a b x y = refl
selected-step false a b x y = refl

pub selected-at : (v : ℕ → Bool) (condition : Signal) (chosen otherwise : List Signal) (i : ℕ) (d e : Signal) →
    i < length chosen → length otherwise ≡ length chosen →
    selected condition (drop i chosen) (drop i otherwise) v
    ≡ bit (if signal_true v condition then signal_true v (get_or chosen i d) else signal_true v (get_or otherwise i e))
    + 2 * selected condition (drop (i + 1) chosen) (drop (i + 1) otherwise) v
selected-at v condition chosen otherwise i d e h same =
    ap (λ k. if signal_true v condition then k else word_number v (drop i otherwise)) (word_number-at v chosen i d h)
    ∙ ap (λ k. if signal_true v condition
    then bit (signal_true v (get_or chosen i d)) + 2 * word_number v (drop (i + 1) chosen) else k)
    (word_number-at v otherwise i e (omega arith))
    ∙ selected-step (signal_true v condition) (signal_true v (get_or chosen i d)) (signal_true v (get_or otherwise i e))
    (word_number v (drop (i + 1) chosen)) (word_number v (drop (i + 1) otherwise))

no-choice : (c : Bool) (x y : ℕ) → x ≡ 0 → y ≡ 0 → (if c then x else y) ≡ 0
no-choice true x y e f = e
no-choice false x y e f = f

pub selected-end : (v : ℕ → Bool) (condition : Signal) (chosen otherwise : List Signal) (i : ℕ) → length chosen ≤ i →
    length otherwise ≡ length chosen → selected condition (drop i chosen) (drop i otherwise) v ≡ 0
selected-end v condition chosen otherwise i h same =
    no-choice (signal_true v condition) (word_number v (drop i chosen)) (word_number v (drop i otherwise))
    (word_number-end v chosen i h) (word_number-end v otherwise i (omega arith))

-- ---- equality

-- whether words are equal, where another condition holds
abbrev pub equal-left : List Signal → List Signal → (ℕ → Bool) → Bool → Bool
equal-left left right v b = b && (word_number v left == word_number v right)

equal-bits : (a b : Bool) (x y : ℕ) → (bit a + 2 * x == bit b + 2 * y) ≡ (beq a b && (x == y))
equal-bits true true x y = grind (arith, nat_tests)
equal-bits true false x y = grind (arith, nat_tests)
equal-bits false true x y = grind (arith, nat_tests)
equal-bits false false x y = grind (arith, nat_tests)

equal-step : (p a b : Bool) (x y : ℕ) →
    ((p && beq a b) && (x == y)) ≡ (p && (bit a + 2 * x == bit b + 2 * y))
equal-step true a b x y = sym (equal-bits a b x y)
equal-step false a b x y = refl

pub equal-at : (v : ℕ → Bool) (before : Signal) (left right : List Signal) (i : ℕ) (d e : Signal) →
    i < length left → length right ≡ length left →
    equal-left (drop (i + 1) left) (drop (i + 1) right) v
    (signal_true v before && beq (signal_true v (get_or left i d)) (signal_true v (get_or right i e)))
    ≡ equal-left (drop i left) (drop i right) v (signal_true v before)
equal-at v before left right i d e h same =
    equal-step (signal_true v before) (signal_true v (get_or left i d)) (signal_true v (get_or right i e))
    (word_number v (drop (i + 1) left)) (word_number v (drop (i + 1) right))
    ∙ ap (λ k. signal_true v before && (k == bit (signal_true v (get_or right i e))
    + 2 * word_number v (drop (i + 1) right))) (sym (word_number-at v left i d h))
    ∙ ap (λ k. signal_true v before && (word_number v (drop i left) == k))
    (sym (word_number-at v right i e (omega arith)))

same-not : (p b : Bool) → (p && not (not b)) ≡ (p && b)
same-not p true = refl
same-not p false = refl

-- the gate of one place
pub equal-gate : (p d n x : Bool) → n ≡ not d → d ≡ not x → (p && n) ≡ (p && x)
equal-gate p d n x e f = ap (λ k. p && k) (e ∙ ap not f) ∙ same-not p x
