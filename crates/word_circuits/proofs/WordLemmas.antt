-- The numbers of words, and words of circuits that grow.
use Rattle.std.proofs.Common.{◌≡◌, ℕ, ◌+◌, ◌*◌, ◌^◌, ◌<◌, ◌≤◌, Bool, true, false, List, [], ◌∷◌, ◌++◌, IsTrue, suc}
use Rattle.std.proofs.Common.{length, drop, get_or, refl, sym, ap, ◌∙◌, arith}
use Rattle.std.proofs.lemmas.List.{drop_all}
use Rattle.std.proofs.lemmas.List.Elements.{All-get_or}
use Rattle.std.proofs.Math.Seq.{drop-cons}
use Rattle.std.proofs.Math.Nat.{pow-succ'}
use Rattle.circuit.specs.declared.signal.Signal.{Signal}
use Rattle.circuit.specs.Signal.{signal_true, IsSignalOver}
use Rattle.circuit.specs.Gate.{Netlist, Grows, hold}
use Rattle.circuit.proofs.GrowthLemmas.{grows-hold, all-over-grows}
use Rattle.word_circuits.specs.Word.{bit, word_number, AreOver, IsWordOf}

-- ---- numbers

pub bit-le : (b : Bool) → bit b ≤ 1
bit-le true = omega arith
bit-le false = omega arith

append-step : (b n m p y : ℕ) → m ≡ n + p * y → b + 2 * m ≡ (b + 2 * n) + 2 * p * y
append-step b n m p y e = omega arith

-- a word above another
pub word_number-append : (v : ℕ → Bool) (xs ys : List Signal) →
    word_number v (xs ++ ys) ≡ word_number v xs + 2 ^ length xs * word_number v ys
word_number-append v [] ys = omega arith
word_number-append v (x ∷ xs) ys =
    append-step (bit (signal_true v x)) (word_number v xs) (word_number v (xs ++ ys)) (2 ^ length xs)
    (word_number v ys) (word_number-append v xs ys)
    ∙ ap (λ k. bit (signal_true v x) + 2 * word_number v xs + k * word_number v ys) (sym (pow-succ' 2 (length xs)))

-- a signal above a word
pub word_number-more : (v : ℕ → Bool) (xs : List Signal) (s : Signal) →
    word_number v (xs ++ s ∷ []) ≡ word_number v xs + 2 ^ length xs * bit (signal_true v s)
word_number-more v xs s =
    word_number-append v xs (s ∷ [])
    ∙ ap (λ k. word_number v xs + 2 ^ length xs * k) (omega arith)

below-step : (b n p q : ℕ) → b ≤ 1 → n < p → q ≡ 2 * p → b + 2 * n < q
below-step b n p q small less e = omega arith

pub word_number-lt : (v : ℕ → Bool) (xs : List Signal) → word_number v xs < 2 ^ length xs
word_number-lt v [] = omega arith
word_number-lt v (x ∷ xs) =
    below-step (bit (signal_true v x)) (word_number v xs) (2 ^ length xs) (2 ^ length (x ∷ xs))
    (bit-le (signal_true v x)) (word_number-lt v xs) (pow-succ' 2 (length xs))

-- what is left of a word at a place, and after it
pub drop-at : {A : Type 0} (xs : List A) (i : ℕ) (d : A) → i < length xs →
    drop i xs ≡ get_or xs i d ∷ drop (i + 1) xs
drop-at xs i d h =
    let next : i + 1 ≡ suc i = omega arith in
    drop-cons xs i d h ∙ ap (λ k. get_or xs i d ∷ drop k xs) (sym next)

pub word_number-at : (v : ℕ → Bool) (xs : List Signal) (i : ℕ) (d : Signal) → i < length xs →
    word_number v (drop i xs) ≡ bit (signal_true v (get_or xs i d)) + 2 * word_number v (drop (i + 1) xs)
word_number-at v xs i d h = ap (word_number v) (drop-at xs i d h)

pub word_number-end : (v : ℕ → Bool) (xs : List Signal) (i : ℕ) → length xs ≤ i → word_number v (drop i xs) ≡ 0
word_number-end v xs i h = ap (word_number v) (drop_all i xs h)

-- ---- words of circuits

pub over-at : (n : Netlist) (xs : List Signal) (i : ℕ) (d : Signal) → i < length xs → AreOver n xs →
    IsSignalOver (length n.gates) (get_or xs i d)
over-at n xs i d h over = All-get_or (IsSignalOver (length n.gates)) xs i d h over

pub word-grows : {old new : Netlist} → Grows old new → {w : ℕ} {f : (ℕ → Bool) → ℕ} {word : List Signal} →
    IsWordOf old w f word → IsWordOf new w f word
word-grows {old} {new} growth {w} {f} {word} is =
    record {
      over = all-over-grows growth word is.over;
      places = is.places;
      number = λ v h. is.number v (grows-hold growth v h);
    }

-- a word of one function is one of another that has the same numbers
pub word-as : {n : Netlist} {w : ℕ} {f : (ℕ → Bool) → ℕ} {word : List Signal} → IsWordOf n w f word →
    (g : (ℕ → Bool) → ℕ) → ((v : ℕ → Bool) → IsTrue (hold v n.gates) → f v ≡ g v) → IsWordOf n w g word
word-as {n} {w} {f} {word} is g same =
    record { over = is.over; places = is.places; number = λ v h. is.number v h ∙ same v h }

-- the same at an equal width
pub word-of : {n : Netlist} {w : ℕ} {f : (ℕ → Bool) → ℕ} {word : List Signal} → IsWordOf n w f word → (u : ℕ) →
    w ≡ u → (g : (ℕ → Bool) → ℕ) → ((v : ℕ → Bool) → IsTrue (hold v n.gates) → f v ≡ g v) → IsWordOf n u g word
word-of {n} {w} {f} {word} is u e g same =
    record { over = is.over; places = is.places ∙ e; number = λ v h. is.number v h ∙ same v h }

-- a word is one of its own number
pub word-itself : {n : Netlist} (word : List Signal) → AreOver n word →
    IsWordOf n (length word) (λ v. word_number v word) word
word-itself {n} word over = record { over = over; places = refl; number = λ v h. refl }
