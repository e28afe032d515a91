-- Shifts by stages.
use Rattle.std.proofs.Common.{◌≡◌, ℕ, ◌+◌, ◌-◌, ◌*◌, ◌/◌, ◌^◌, ◌%◌, ◌<◌, ◌≤◌, Bool, true, false, ◌||◌, nat_lt, List}
use Rattle.std.proofs.Common.{IsTrue, length, take, drop, get_or, refl, sym, ap, subst, ◌∙◌, arith}
use Rattle.std.proofs.Common.{if◌then◌else◌}
use Rattle.std.proofs.lemmas.Bool.Decides.{nat_tests}
use Rattle.std.proofs.lemmas.List.{length-take-le, take_more}
use Rattle.std.proofs.lemmas.Nat.{mul-mod_first, pow-add, shr-shr}
use Rattle.std.proofs.Math.Nat.{div-le_self, div-one, le-mul_of_pos_right, mod-eq_of_lt, mul_assoc}
use Rattle.std.proofs.Math.Pow.{ones_sub-lt}
use Rattle.circuit.specs.declared.signal.Signal.{Signal}
use Rattle.circuit.specs.Signal.{signal_true}
use Rattle.circuit.specs.Gate.{Netlist, hold}
use Rattle.bv_terms.proofs.WordLemmas.{shifted_out-left, shifted_out-right}
use Rattle.word_circuits.specs.Word.{bit, word_number, AreOver, IsWordOf, shifted_with}
use Rattle.word_circuits.proofs.WordLemmas.{word_number-at, word_number-more, word_number-lt, word-as, word-of}
use Rattle.word_circuits.proofs.WordLemmas.{word-itself}
use Rattle.word_circuits.proofs.PartLemmas.{word_number-split}

-- ---- whether a bit is 1

-- whether a word's number isn't 0, or another condition holds
abbrev pub any-left : List Signal → (ℕ → Bool) → Bool → Bool
any-left word v b = b || nat_lt 0 (word_number v word)

any-step : (p a : Bool) (y : ℕ) → ((p || a) || nat_lt 0 y) ≡ (p || nat_lt 0 (bit a + 2 * y))
any-step true a y = refl
any-step false true y = grind (arith, nat_tests)
any-step false false y = grind (arith, nat_tests)

pub any-at : (v : ℕ → Bool) (before : Signal) (word : List Signal) (i : ℕ) (d : Signal) → i < length word →
    any-left (drop (i + 1) word) v (signal_true v before || signal_true v (get_or word i d))
    ≡ any-left (drop i word) v (signal_true v before)
any-at v before word i d h =
    any-step (signal_true v before) (signal_true v (get_or word i d)) (word_number v (drop (i + 1) word))
    ∙ ap (λ k. signal_true v before || nat_lt 0 k) (sym (word_number-at v word i d h))

-- ---- one stage

moved-step : (c : Bool) (s p by : ℕ) → s < p → (if c then s * 2 ^ by % p else s) ≡ s * 2 ^ (by * bit c) % p
moved-step true s p by less = ap (λ k. s * 2 ^ k % p) (let once : by ≡ by * 1 = omega arith in once)
moved-step false s p by less =
    sym (ap (λ k. s * 2 ^ k % p) (let none : by * 0 ≡ 0 = omega arith in none)
    ∙ ap (λ k. k % p) (let plain : s * 1 ≡ s = omega arith in plain) ∙ mod-eq_of_lt less)

-- a word moved up or left where it is
pub moved-choice : {n : Netlist} (word moved given : List Signal) (by : ℕ) (condition : Signal) →
    IsWordOf n (length word) (λ v. word_number v word * 2 ^ by % 2 ^ length word) moved → given ≡ moved →
    (v : ℕ → Bool) → IsTrue (hold v n.gates) →
    (if signal_true v condition then word_number v given else word_number v word)
    ≡ word_number v word * 2 ^ (by * bit (signal_true v condition)) % 2 ^ length word
moved-choice {n} word moved given by condition is e v h =
    ap (λ k. if signal_true v condition then k else word_number v word) (ap (word_number v) e ∙ is.number v h)
    ∙ moved-step (signal_true v condition) (word_number v word) (2 ^ length word) by (word_number-lt v word)

-- a shift by nothing
unmoved : (w s : ℕ) (f : Bool) → s < 2 ^ w → shifted_with w s 0 f ≡ s
unmoved w s true less =
    ap (λ k. 2 ^ w - 1 - k) (div-one (2 ^ w - 1 - s)) ∙ (let back : 2 ^ w - 1 - (2 ^ w - 1 - s) ≡ s =
    omega arith in back)
unmoved w s false less = div-one s

filled-step : (c f : Bool) (w s by : ℕ) → s < 2 ^ w →
    (if c then shifted_with w s by f else s) ≡ shifted_with w s (by * bit c) f
filled-step true f w s by less =
    ap (λ k. shifted_with w s k f) (let once : by ≡ by * 1 = omega arith in once)
filled-step false f w s by less =
    sym (ap (λ k. shifted_with w s k f) (let none : by * 0 ≡ 0 = omega arith in none) ∙ unmoved w s f less)

-- a word moved down or left where it is
pub filled-choice : {n : Netlist} (word moved given : List Signal) (by : ℕ) (condition fill : Signal) →
    IsWordOf n (length word) (λ v. shifted_with (length word) (word_number v word) by (signal_true v fill)) moved →
    given ≡ moved → (v : ℕ → Bool) → IsTrue (hold v n.gates) →
    (if signal_true v condition then word_number v given else word_number v word)
    ≡ shifted_with (length word) (word_number v word) (by * bit (signal_true v condition)) (signal_true v fill)
filled-choice {n} word moved given by condition fill is e v h =
    ap (λ k. if signal_true v condition then k else word_number v word) (ap (word_number v) e ∙ is.number v h)
    ∙ filled-step (signal_true v condition) (signal_true v fill) (length word) (word_number v word) by
    (word_number-lt v word)

-- ---- one stage after others

moved-twice : (s a b p : ℕ) → (s * 2 ^ a % p) * 2 ^ b % p ≡ s * 2 ^ (a + b) % p
moved-twice s a b p =
    mul-mod_first (s * 2 ^ a) (2 ^ b) p ∙ ap (λ k. k % p) (mul_assoc s (2 ^ a) (2 ^ b))
    ∙ ap (λ k. s * k % p) (sym (pow-add 2 a b))

inverted-back : (p q : ℕ) → q ≤ p - 1 → p - 1 - (p - 1 - q) ≡ q
inverted-back p q le = omega arith

filled-twice : (w s a b : ℕ) (f : Bool) → shifted_with w (shifted_with w s a f) b f ≡ shifted_with w s (a + b) f
filled-twice w s a b true =
    ap (λ k. 2 ^ w - 1 - k / 2 ^ b)
    (inverted-back (2 ^ w) ((2 ^ w - 1 - s) / 2 ^ a)
    (let small : (2 ^ w - 1 - s) / 2 ^ a ≤ 2 ^ w - 1 = omega (arith, div-le_self (2 ^ w - 1 - s) (2 ^ a)) in small))
    ∙ ap (λ k. 2 ^ w - 1 - k) (shr-shr (2 ^ w - 1 - s) a b)
filled-twice w s a b false = shr-shr s a b

-- a bit more of an amount
pub amount-more : (v : ℕ → Bool) (amount : List Signal) (k : ℕ) (d : Signal) → k < length amount →
    word_number v (take (k + 1) amount) ≡ word_number v (take k amount) + 2 ^ k
    * bit (signal_true v (get_or amount k d))
amount-more v amount k d h =
    ap (word_number v) (take_more amount k d h) ∙ word_number-more v (take k amount) (get_or amount k d)
    ∙ ap (λ j. word_number v (take k amount) + 2 ^ j * bit (signal_true v (get_or amount k d)))
    (length-take-le k amount (omega arith))

pub moved-stage : {new : Netlist} (word before given amount after : List Signal) (k by : ℕ) (d : Signal) →
    k < length amount → by ≡ 2 ^ k → given ≡ before →
    IsWordOf new (length word) (λ v. word_number v word * 2 ^ word_number v (take k amount) % 2 ^ length word) before →
    IsWordOf new (length given)
    (λ v. word_number v given * 2 ^ (by * bit (signal_true v (get_or amount k d))) % 2 ^ length given) after →
    IsWordOf new (length word)
    (λ v. word_number v word * 2 ^ word_number v (take (k + 1) amount) % 2 ^ length word) after
moved-stage {new} word before given amount after k by d h place same first second =
    word-of second (length word) (ap length same ∙ first.places) _ number
  where
    number : (v : ℕ → Bool) → IsTrue (hold v new.gates) →
        word_number v given * 2 ^ (by * bit (signal_true v (get_or amount k d))) % 2 ^ length given
        ≡ word_number v word * 2 ^ word_number v (take (k + 1) amount) % 2 ^ length word
    number v holds =
        ap (λ j. word_number v given * 2 ^ (by * bit (signal_true v (get_or amount k d))) % 2 ^ j)
        (ap length same ∙ first.places)
        ∙ ap (λ j. j * 2 ^ (by * bit (signal_true v (get_or amount k d))) % 2 ^ length word)
        (ap (word_number v) same ∙ first.number v holds)
        ∙ moved-twice (word_number v word) (word_number v (take k amount))
        (by * bit (signal_true v (get_or amount k d))) (2 ^ length word)
        ∙ ap (λ j. word_number v word * 2 ^ j % 2 ^ length word)
        (ap (λ j. word_number v (take k amount) + j * bit (signal_true v (get_or amount k d))) place
        ∙ sym (amount-more v amount k d h))

pub filled-stage : {new : Netlist} (word before given amount after : List Signal) (k by : ℕ) (d fill : Signal) →
    k < length amount → by ≡ 2 ^ k → given ≡ before →
    IsWordOf new (length word)
    (λ v. shifted_with (length word) (word_number v word) (word_number v (take k amount)) (signal_true v fill)) before →
    IsWordOf new (length given)
    (λ v. shifted_with (length given) (word_number v given) (by * bit (signal_true v (get_or amount k d)))
    (signal_true v fill)) after →
    IsWordOf new (length word)
    (λ v. shifted_with (length word) (word_number v word) (word_number v (take (k + 1) amount)) (signal_true v fill))
    after
filled-stage {new} word before given amount after k by d fill h place same first second =
    word-of second (length word) (ap length same ∙ first.places) _ number
  where
    number : (v : ℕ → Bool) → IsTrue (hold v new.gates) →
        shifted_with (length given) (word_number v given) (by * bit (signal_true v (get_or amount k d)))
        (signal_true v fill)
        ≡ shifted_with (length word) (word_number v word) (word_number v (take (k + 1) amount)) (signal_true v fill)
    number v holds =
        ap (λ j. shifted_with j (word_number v given) (by * bit (signal_true v (get_or amount k d)))
        (signal_true v fill))
        (ap length same ∙ first.places)
        ∙ ap (λ j. shifted_with (length word) j (by * bit (signal_true v (get_or amount k d))) (signal_true v fill))
        (ap (word_number v) same ∙ first.number v holds)
        ∙ filled-twice (length word) (word_number v word) (word_number v (take k amount))
        (by * bit (signal_true v (get_or amount k d))) (signal_true v fill)
        ∙ ap (λ j. shifted_with (length word) (word_number v word) j (signal_true v fill))
        (ap (λ j. word_number v (take k amount) + j * bit (signal_true v (get_or amount k d))) place
        ∙ sym (amount-more v amount k d h))

-- ---- the high bits of an amount

-- where the high bits d of an amount are not 0, both shifts leave nothing
beyond : (w p d : ℕ) → w ≤ p → 0 < d → w ≤ p * d
beyond w p d le pos =
    let more : p ≤ p * d = le-mul_of_pos_right p pos in omega arith

none-left : (s w t u : ℕ) → w ≤ t → w ≤ u → s * 2 ^ t % 2 ^ w ≡ s * 2 ^ u % 2 ^ w
none-left s w t u first second = sym (shifted_out-left w s t first) ∙ shifted_out-left w s u second

none-right : (s w t u : ℕ) (f : Bool) → s < 2 ^ w → w ≤ t → w ≤ u → shifted_with w s t f ≡ shifted_with w s u f
none-right s w t u true less first second =
    ap (λ k. 2 ^ w - 1 - k)
    (sym (shifted_out-right w (2 ^ w - 1 - s) t (ones_sub-lt w s) first)
    ∙ shifted_out-right w (2 ^ w - 1 - s) u (ones_sub-lt w s) second)
none-right s w t u false less first second =
    sym (shifted_out-right w s t less first) ∙ shifted_out-right w s u less second

positive : (d : ℕ) → true ≡ nat_lt 0 d → 0 < d
positive d e = grind (arith, nat_tests)

nothing : (d : ℕ) → false ≡ nat_lt 0 d → d ≡ 0
nothing d e = grind (arith, nat_tests)

-- whether they are not 0, at the amount that is taken
gone-left : (b : Bool) (d s w p a : ℕ) → b ≡ nat_lt 0 d → w ≤ p →
    s * 2 ^ (a + w * bit b) % 2 ^ w ≡ s * 2 ^ (a + p * d) % 2 ^ w
gone-left true d s w p a e le =
    none-left s w (a + w * 1) (a + p * d) (omega arith)
    (let far : w ≤ p * d = beyond w p d le (positive d e) in omega arith)
gone-left false d s w p a e le =
    ap (λ k. s * 2 ^ (a + k) % 2 ^ w) (let none : w * 0 ≡ p * 0 = omega arith in none)
    ∙ ap (λ k. s * 2 ^ (a + p * k) % 2 ^ w) (sym (nothing d e))

gone-right : (b : Bool) (d s w p a : ℕ) (f : Bool) → b ≡ nat_lt 0 d → s < 2 ^ w → w ≤ p →
    shifted_with w s (a + w * bit b) f ≡ shifted_with w s (a + p * d) f
gone-right true d s w p a f e less le =
    none-right s w (a + w * 1) (a + p * d) f less (omega arith)
    (let far : w ≤ p * d = beyond w p d le (positive d e) in omega arith)
gone-right false d s w p a f e less le =
    ap (λ k. shifted_with w s (a + k) f) (let none : w * 0 ≡ p * 0 = omega arith in none)
    ∙ ap (λ k. shifted_with w s (a + p * k) f) (sym (nothing d e))

pub moved-far : {new : Netlist} (word near given amount high after : List Signal) (k : ℕ) (gone : Signal) →
    k ≤ length amount → length word ≤ 2 ^ k → given ≡ near → high ≡ drop k amount →
    IsWordOf new (length word) (λ v. word_number v word * 2 ^ word_number v (take k amount) % 2 ^ length word) near →
    ((v : ℕ → Bool) → IsTrue (hold v new.gates) → signal_true v gone ≡ nat_lt 0 (word_number v high)) →
    IsWordOf new (length given)
    (λ v. word_number v given * 2 ^ (length word * bit (signal_true v gone)) % 2 ^ length given) after →
    IsWordOf new (length word) (λ v. word_number v word * 2 ^ word_number v amount % 2 ^ length word) after
moved-far {new} word near given amount high after k gone few enough same rest first left second =
    word-of second (length word) (ap length same ∙ first.places) _ number
  where
    number : (v : ℕ → Bool) → IsTrue (hold v new.gates) →
        word_number v given * 2 ^ (length word * bit (signal_true v gone)) % 2 ^ length given
        ≡ word_number v word * 2 ^ word_number v amount % 2 ^ length word
    number v holds =
        ap (λ j. word_number v given * 2 ^ (length word * bit (signal_true v gone)) % 2 ^ j)
        (ap length same ∙ first.places)
        ∙ ap (λ j. j * 2 ^ (length word * bit (signal_true v gone)) % 2 ^ length word)
        (ap (word_number v) same ∙ first.number v holds)
        ∙ moved-twice (word_number v word) (word_number v (take k amount)) (length word * bit (signal_true v gone))
        (2 ^ length word)
        ∙ gone-left (signal_true v gone) (word_number v (drop k amount)) (word_number v word) (length word) (2 ^ k)
        (word_number v (take k amount)) (left v holds ∙ ap (λ xs. nat_lt 0 (word_number v xs)) rest) enough
        ∙ ap (λ j. word_number v word * 2 ^ j % 2 ^ length word) (sym (word_number-split v amount k few))

pub filled-far : {new : Netlist} (word near given amount high after : List Signal) (k : ℕ) (gone fill : Signal) →
    k ≤ length amount → length word ≤ 2 ^ k → given ≡ near → high ≡ drop k amount →
    IsWordOf new (length word)
    (λ v. shifted_with (length word) (word_number v word) (word_number v (take k amount)) (signal_true v fill)) near →
    ((v : ℕ → Bool) → IsTrue (hold v new.gates) → signal_true v gone ≡ nat_lt 0 (word_number v high)) →
    IsWordOf new (length given)
    (λ v. shifted_with (length given) (word_number v given) (length word * bit (signal_true v gone))
    (signal_true v fill))
    after →
    IsWordOf new (length word)
    (λ v. shifted_with (length word) (word_number v word) (word_number v amount) (signal_true v fill)) after
filled-far {new} word near given amount high after k gone fill few enough same rest first left second =
    word-of second (length word) (ap length same ∙ first.places) _ number
  where
    number : (v : ℕ → Bool) → IsTrue (hold v new.gates) →
        shifted_with (length given) (word_number v given) (length word * bit (signal_true v gone)) (signal_true v fill)
        ≡ shifted_with (length word) (word_number v word) (word_number v amount) (signal_true v fill)
    number v holds =
        ap (λ j. shifted_with j (word_number v given) (length word * bit (signal_true v gone)) (signal_true v fill))
        (ap length same ∙ first.places)
        ∙ ap (λ j. shifted_with (length word) j (length word * bit (signal_true v gone)) (signal_true v fill))
        (ap (word_number v) same ∙ first.number v holds)
        ∙ filled-twice (length word) (word_number v word) (word_number v (take k amount))
        (length word * bit (signal_true v gone)) (signal_true v fill)
        ∙ gone-right (signal_true v gone) (word_number v (drop k amount)) (word_number v word) (length word) (2 ^ k)
        (word_number v (take k amount)) (signal_true v fill)
        (left v holds ∙ ap (λ xs. nat_lt 0 (word_number v xs)) rest) (word_number-lt v word) enough
        ∙ ap (λ j. shifted_with (length word) (word_number v word) j (signal_true v fill))
        (sym (word_number-split v amount k few))

-- ---- before the first stage

pub moved-start : {n : Netlist} (word copy : List Signal) → copy ≡ word → AreOver n word →
    IsWordOf n (length word) (λ v. word_number v word * 2 ^ 0 % 2 ^ length word) copy
moved-start {n} word copy e over =
    subst (IsWordOf n (length word) (λ v. word_number v word * 2 ^ 0 % 2 ^ length word)) (sym e)
    (word-as (word-itself word over) _ (λ v h. sym
    (ap (λ k. k % 2 ^ length word) (once (word_number v word)) ∙ mod-eq_of_lt (word_number-lt v word))))
  where
    once : (s : ℕ) → s * 1 ≡ s
    once s = omega arith

pub filled-start : {n : Netlist} (word copy : List Signal) (fill : Signal) → copy ≡ word → AreOver n word →
    IsWordOf n (length word) (λ v. shifted_with (length word) (word_number v word) 0 (signal_true v fill)) copy
filled-start {n} word copy fill e over =
    subst (IsWordOf n (length word) (λ v. shifted_with (length word) (word_number v word) 0 (signal_true v fill)))
    (sym e)
    (word-as (word-itself word over) _
    (λ v h. sym (unmoved (length word) (word_number v word) (signal_true v fill) (word_number-lt v word))))
