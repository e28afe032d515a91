-- The numbers of parts of words, and of words joined and moved.
use Rattle.std.proofs.Common.{◌≡◌, ℕ, ◌+◌, ◌-◌, ◌*◌, ◌/◌, ◌^◌, ◌%◌, ◌<◌, ◌≤◌, Bool, true, false, List, ◌++◌}
use Rattle.std.proofs.Common.{length, take, drop, get_or, replicate, sym, ap, subst, ◌∙◌, arith}
use Rattle.std.proofs.Common.{if◌then◌else◌, zero, suc}
use Rattle.std.proofs.lemmas.List.{take-append-drop, length-take-le, length-drop, length-append, length-replicate}
use Rattle.std.proofs.lemmas.List.Elements.{All-append, All-take, All-drop, All-replicate}
use Rattle.std.proofs.lemmas.Nat.{div-mul-add, shl_below, pow_pos, pow-add}
use Rattle.std.proofs.Math.Nat.{pow-succ', zero-mod}
use Rattle.circuit.specs.declared.signal.Signal.{Signal}
use Rattle.circuit.specs.declared.signal.Signal.TheVariants.{Constant}
use Rattle.circuit.specs.Signal.{signal_true, IsSignalOver}
use Rattle.circuit.specs.Gate.{Netlist}
use Rattle.bv_terms.specs.Words.{sign_extended}
use Rattle.word_circuits.specs.Word.{bit, word_number, AreOver, IsWordOf, shifted_with}
use Rattle.word_circuits.proofs.WordLemmas.{word_number-append, word_number-lt, over-at}
use Rattle.word_circuits.proofs.LoopLemmas.{remainder}
use Rattle.word_circuits.proofs.SumLemmas.{low-lt, is_negative-high}

-- ---- parts

-- a word by the places below one and those from there on
pub word_number-split : (v : ℕ → Bool) (word : List Signal) (k : ℕ) → k ≤ length word →
    word_number v word ≡ word_number v (take k word) + 2 ^ k * word_number v (drop k word)
word_number-split v word k le =
    ap (word_number v) (sym (take-append-drop k word)) ∙ word_number-append v (take k word) (drop k word)
    ∙ ap (λ j. word_number v (take k word) + 2 ^ j * word_number v (drop k word)) (length-take-le k word le)

pub word_number-take : (v : ℕ → Bool) (word : List Signal) (k : ℕ) → k ≤ length word →
    word_number v (take k word) ≡ word_number v word % 2 ^ k
word_number-take v word k le =
    remainder (word_number v (take k word)) (2 ^ k) (word_number v (drop k word)) (word_number v word)
    (low-lt v word k le) (sym (word_number-split v word k le))

quotient : (low p high whole : ℕ) → low < p → whole ≡ low + p * high → high ≡ whole / p
quotient low p high whole less e =
    let turned : whole ≡ high * p + low = omega arith in
    sym (ap (λ k. k / p) turned ∙ div-mul-add high p low less)

pub word_number-drop : (v : ℕ → Bool) (word : List Signal) (k : ℕ) → k ≤ length word →
    word_number v (drop k word) ≡ word_number v word / 2 ^ k
word_number-drop v word k le =
    quotient (word_number v (take k word)) (2 ^ k) (word_number v (drop k word)) (word_number v word)
    (low-lt v word k le) (word_number-split v word k le)

pub part-of : {n : Netlist} (word : List Signal) (low high : ℕ) → AreOver n word → low ≤ high → high < length word →
    IsWordOf n (high - low + 1) (λ v. word_number v word / 2 ^ low % 2 ^ (high - low + 1))
    (take (high + 1 - low) (drop low word))
part-of {n} word low high over order within =
    record {
      over =
          All-take (IsSignalOver (length n.gates)) (high + 1 - low) (drop low word)
          (All-drop (IsSignalOver (length n.gates)) low word over);
      places = length-take-le (high + 1 - low) (drop low word) fits ∙ same;
      number =
          λ v h. word_number-take v (drop low word) (high + 1 - low) fits
          ∙ ap (λ k. k % 2 ^ (high + 1 - low)) (word_number-drop v word low (omega arith))
          ∙ ap (λ k. word_number v word / 2 ^ low % 2 ^ k) same;
    }
  where
    same : high + 1 - low ≡ high - low + 1
    same = omega arith

    fits : high + 1 - low ≤ length (drop low word)
    fits = omega (arith, length-drop low word)

-- ---- words joined

pub joined-of : {n : Netlist} (high low word : List Signal) → word ≡ low ++ high → AreOver n high → AreOver n low →
    IsWordOf n (length high + length low) (λ v. word_number v high * 2 ^ length low + word_number v low) word
joined-of {n} high low word e above below =
    record {
      over =
          subst (AreOver n) (sym e) (All-append (IsSignalOver (length n.gates)) low high below above);
      places = ap length e ∙ length-append low high ∙ turned (length low) (length high);
      number =
          λ v h. ap (word_number v) e ∙ word_number-append v low high
          ∙ swapped (word_number v low) (2 ^ length low) (word_number v high);
    }
  where
    turned : (j k : ℕ) → j + k ≡ k + j
    turned j k = omega arith

    swapped : (a p b : ℕ) → a + p * b ≡ b * p + a
    swapped a p b = omega arith

-- ---- words extended

ones-plain : (b m : ℕ) → b + 2 * (b * m) ≡ b * (2 * m + 1)
ones-plain b m = omega arith

ones-step : (b p q : ℕ) → 1 ≤ p → q ≡ 2 * p → b + 2 * (b * (p - 1)) ≡ b * (q - 1)
ones-step b p q pos e =
    ones-plain b (p - 1) ∙ ap (λ k. b * k) (let same : 2 * (p - 1) + 1 ≡ q - 1 = omega arith in same)

-- a product with a number that isn't 0
one-less : (p q : ℕ) → 1 ≤ q → p * q ≡ p * (q - 1) + p
one-less p q pos =
    ap (λ k. p * k) (let whole : q ≡ (q - 1) + 1 = omega arith in whole) ∙ spread p (q - 1)
  where
    spread : (a b : ℕ) → a * (b + 1) ≡ a * b + a
    spread a b = omega arith

-- so many copies of a signal
pub word_number-replicate : (v : ℕ → Bool) (k : ℕ) (s : Signal) →
    word_number v (replicate k s) ≡ bit (signal_true v s) * (2 ^ k - 1)
word_number-replicate v zero s = omega arith
word_number-replicate v (suc k) s =
    ap (λ n. bit (signal_true v s) + 2 * n) (word_number-replicate v k s)
    ∙ ones-step (bit (signal_true v s)) (2 ^ k) (2 ^ suc k) (pow_pos k) (pow-succ' 2 k)

pub extended-number : (v : ℕ → Bool) (word : List Signal) (by : ℕ) (s : Signal) →
    word_number v (word ++ replicate by s)
    ≡ word_number v word + 2 ^ length word * (bit (signal_true v s) * (2 ^ by - 1))
extended-number v word by s =
    word_number-append v word (replicate by s)
    ∙ ap (λ k. word_number v word + 2 ^ length word * k) (word_number-replicate v by s)

extended-over : (n : Netlist) (word : List Signal) (by : ℕ) (s : Signal) → AreOver n word →
    IsSignalOver (length n.gates) s → AreOver n (word ++ replicate by s)
extended-over n word by s over top =
    All-append (IsSignalOver (length n.gates)) word (replicate by s) over
    (All-replicate (IsSignalOver (length n.gates)) by s top)

extended-length : (word : List Signal) (by : ℕ) (s : Signal) → length (word ++ replicate by s) ≡ length word + by
extended-length word by s =
    length-append word (replicate by s) ∙ ap (λ k. length word + k) (length-replicate by s)

nothing : (n p k : ℕ) → n + p * (0 * k) ≡ n
nothing n p k = omega arith

pub zero_extended-of : {n : Netlist} (word : List Signal) (by : ℕ) → AreOver n word →
    IsWordOf n (length word + by) (λ v. word_number v word) (word ++ replicate by (Constant false))
zero_extended-of {n} word by over =
    record {
      over = extended-over n word by (Constant false) over tt;
      places = extended-length word by (Constant false);
      number =
          λ v h. extended-number v word by (Constant false)
          ∙ nothing (word_number v word) (2 ^ length word) (2 ^ by - 1);
    }

sign-step : (b : Bool) (n p q r : ℕ) → 1 ≤ q → r ≡ p * q →
    n + p * (bit b * (q - 1)) ≡ (if b then n + (r - p) else n)
sign-step true n p q r pos e =
    let whole : r ≡ p * (q - 1) + p = e ∙ one-less p q pos in
    let once : p * (1 * (q - 1)) ≡ p * (q - 1) = ap (λ k. p * k) (omega arith) in
    omega arith
sign-step false n p q r pos e = nothing n p (q - 1)

pub sign_extended-of : {n : Netlist} (word : List Signal) (by h : ℕ) (d : Signal) → length word ≡ h + 1 →
    AreOver n word →
    IsWordOf n (length word + by) (λ v. sign_extended (length word) (length word + by) (word_number v word))
    (word ++ replicate by (get_or word h d))
sign_extended-of {n} word by h d size over =
    record {
      over = extended-over n word by (get_or word h d) over (over-at n word h d (omega arith) over);
      places = extended-length word by (get_or word h d);
      number =
          λ v holds. extended-number v word by (get_or word h d)
          ∙ sign-step (signal_true v (get_or word h d)) (word_number v word) (2 ^ length word) (2 ^ by)
          (2 ^ (length word + by)) (pow_pos by) (pow-add 2 (length word) by)
          ∙ ap (λ b. if b then word_number v word + (2 ^ (length word + by) - 2 ^ length word) else word_number v word)
          (sym (is_negative-high v word h d size));
    }

-- ---- words moved

up-step : (l h p q w s : ℕ) → w ≡ q * p → s ≡ l + q * h → l * p + w * h ≡ s * p
up-step l h p q w s e f =
    ap (λ k. l * p + k * h) e
    ∙ (let spread : l * p + q * p * h ≡ (l + q * h) * p = omega arith in spread) ∙ ap (λ k. k * p) (sym f)

pub moved_up-of : {n : Netlist} (word zeros given : List Signal) (by : ℕ) → by ≤ length word →
    IsWordOf n by (λ v. 0 % 2 ^ by) zeros → given ≡ zeros → AreOver n word →
    IsWordOf n (length word) (λ v. word_number v word * 2 ^ by % 2 ^ length word)
    (given ++ take (length word - by) word)
moved_up-of {n} word zeros given by le nothing same over =
    record {
      over =
          All-append (IsSignalOver (length n.gates)) given (take (length word - by) word)
          (subst (AreOver n) (sym same) nothing.over)
          (All-take (IsSignalOver (length n.gates)) (length word - by) word over);
      places =
          length-append given (take (length word - by) word)
          ∙ ap (λ k. k + length (take (length word - by) word)) size
          ∙ ap (λ k. by + k) (length-take-le (length word - by) word (omega arith))
          ∙ (let whole : by + (length word - by) ≡ length word = omega arith in whole);
      number =
          λ v h. word_number-append v given (take (length word - by) word)
          ∙ ap (λ k. k + 2 ^ length given * word_number v (take (length word - by) word))
          (ap (word_number v) same ∙ nothing.number v h ∙ zero-mod (2 ^ by))
          ∙ ap (λ k. 0 + 2 ^ k * word_number v (take (length word - by) word)) size
          ∙ turned (2 ^ by) (word_number v (take (length word - by) word))
          ∙ remainder (word_number v (take (length word - by) word) * 2 ^ by) (2 ^ length word)
          (word_number v (drop (length word - by) word)) (word_number v word * 2 ^ by) (fits v)
          (up-step (word_number v (take (length word - by) word)) (word_number v (drop (length word - by) word))
          (2 ^ by) (2 ^ (length word - by)) (2 ^ length word) (word_number v word) powers
          (word_number-split v word (length word - by) (omega arith)));
    }
  where
    size : length given ≡ by
    size = ap length same ∙ nothing.places

    turned : (p k : ℕ) → 0 + p * k ≡ k * p
    turned p k = omega arith

    apart : (length word - by) + by ≡ length word
    apart = omega arith

    powers : 2 ^ length word ≡ 2 ^ (length word - by) * 2 ^ by
    powers = ap (λ k. 2 ^ k) (sym apart) ∙ pow-add 2 (length word - by) by

    fits : (v : ℕ → Bool) → word_number v (take (length word - by) word) * 2 ^ by < 2 ^ length word
    fits v =
        subst (λ k. word_number v (take (length word - by) word) * 2 ^ by < 2 ^ k) apart
        (shl_below (word_number v (take (length word - by) word)) (length word - by) by
        (low-lt v word (length word - by) (omega arith)))

inverted-split : (l h k p q w s : ℕ) → l < p → q ≡ h + 1 + k → w ≡ q * p → s ≡ l + p * h →
    w - 1 - s ≡ k * p + (p - 1 - l)
inverted-split l h k p q w s less e f g =
    let whole : w ≡ (p * h + p) + k * p = f ∙ ap (λ j. j * p) e ∙ spread h k p in omega arith
  where
    spread : (a b c : ℕ) → (a + 1 + b) * c ≡ (c * a + c) + b * c
    spread a b c = omega arith

inverted-quotient : (l h p q w s : ℕ) → l < p → h < q → w ≡ q * p → s ≡ l + p * h → (w - 1 - s) / p ≡ q - 1 - h
inverted-quotient l h p q w s less high f g =
    ap (λ k. k / p) (inverted-split l h (q - 1 - h) p q w s less (omega arith) f g)
    ∙ div-mul-add (q - 1 - h) p (p - 1 - l) (omega arith)

down-ones : (h p q w : ℕ) → 1 ≤ p → h < q → w ≡ q * p → h + q * (1 * (p - 1)) ≡ w - 1 - (q - 1 - h)
down-ones h p q w pos high e =
    let whole : w ≡ q * (p - 1) + q = e ∙ one-less q p pos in
    let once : q * (1 * (p - 1)) ≡ q * (p - 1) = ap (λ k. q * k) (omega arith) in
    omega arith

down-step : (b : Bool) (l h p q w s : ℕ) → 1 ≤ p → l < p → h < q → w ≡ q * p → s ≡ l + p * h →
    h + q * (bit b * (p - 1)) ≡ (if b then w - 1 - (w - 1 - s) / p else s / p)
down-step true l h p q w s pos less high e f =
    down-ones h p q w pos high e ∙ ap (λ k. w - 1 - k) (sym (inverted-quotient l h p q w s less high e f))
down-step false l h p q w s pos less high e f =
    nothing h q (p - 1) ∙ quotient l p h s less f

pub moved_down-of : {n : Netlist} (word : List Signal) (by : ℕ) (fill : Signal) → by ≤ length word → AreOver n word →
    IsSignalOver (length n.gates) fill →
    IsWordOf n (length word) (λ v. shifted_with (length word) (word_number v word) by (signal_true v fill))
    (drop by word ++ replicate by fill)
moved_down-of {n} word by fill le over top =
    record {
      over = extended-over n (drop by word) by fill (All-drop (IsSignalOver (length n.gates)) by word over) top;
      places =
          extended-length (drop by word) by fill
          ∙ (let whole : length (drop by word) + by ≡ length word = omega (arith, length-drop by word) in whole);
      number =
          λ v h. extended-number v (drop by word) by fill
          ∙ ap (λ k. word_number v (drop by word) + 2 ^ k * (bit (signal_true v fill) * (2 ^ by - 1))) size
          ∙ down-step (signal_true v fill) (word_number v (take by word)) (word_number v (drop by word)) (2 ^ by)
          (2 ^ (length word - by)) (2 ^ length word) (word_number v word) (pow_pos by) (low-lt v word by le)
          (subst (λ k. word_number v (drop by word) < 2 ^ k) size (word_number-lt v (drop by word))) powers
          (word_number-split v word by le);
    }
  where
    size : length (drop by word) ≡ length word - by
    size = length-drop by word

    powers : 2 ^ length word ≡ 2 ^ (length word - by) * 2 ^ by
    powers =
        ap (λ k. 2 ^ k) (let apart : length word ≡ (length word - by) + by = omega arith in apart)
        ∙ pow-add 2 (length word - by) by
