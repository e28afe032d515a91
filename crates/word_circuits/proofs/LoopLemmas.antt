-- What loops over the places of words have made so far: with what is left it makes the whole.
use Rattle.std.proofs.Common.{◌≡◌, ℕ, ◌+◌, ◌*◌, ◌^◌, ◌%◌, ◌<◌, Bool, List, [], ◌∷◌, ◌++◌}
use Rattle.std.proofs.Common.{IsTrue, Result, Ok, Err, OnOk, IfOk, length, sym, ap, subst, ◌∙◌, arith}
use Rattle.std.proofs.lemmas.List.{length-append}
use Rattle.std.proofs.lemmas.List.Elements.{All-push, All-nil}
use Rattle.std.proofs.Math.Nat.{pow-suc, mod-eq_of_lt, add-mul-mod_self_right}
use Rattle.circuit.specs.declared.signal.Signal.{Signal}
use Rattle.circuit.specs.Signal.{signal_true, IsSignalOver}
use Rattle.circuit.specs.Gate.{Netlist, Grows, IsSignalOf, hold}
use Rattle.circuit.proofs.GrowthLemmas.{grows-hold, grows-then, all-over-grows}
use Rattle.word_circuits.specs.Word.{bit, word_number, AreOver, IsWordOf}
use Rattle.word_circuits.proofs.WordLemmas.{word_number-more, word_number-lt}

-- ---- words

-- the places of a word below this one are made; the rest is what is left at that place
pub record IsBegun (n : Netlist) (place : ℕ) (rest whole : (ℕ → Bool) → ℕ) (word : List Signal) : Type 0 where
  pub over : AreOver n word
  pub places : length word ≡ place
  pub number : (v : ℕ → Bool) → IsTrue (hold v n.gates) → word_number v word + 2 ^ place * rest v ≡ whole v

pub begun-start : {n : Netlist} (whole : (ℕ → Bool) → ℕ) (word : List Signal) → word ≡ [] → IsBegun n 0 whole whole word
begun-start {n} whole word e =
    record {
      over = subst (AreOver n) (sym e) (All-nil (IsSignalOver (length n.gates)));
      places = ap length e;
      number = λ v h. ap (λ xs. word_number v xs + 2 ^ 0 * whole v) e ∙ once (whole v);
    }
  where
    once : (k : ℕ) → 0 + 2 ^ 0 * k ≡ k
    once k = omega arith

pub begun-grows : {old new : Netlist} → Grows old new → {place : ℕ} {rest whole : (ℕ → Bool) → ℕ} {word : List Signal} →
    IsBegun old place rest whole word → IsBegun new place rest whole word
begun-grows {old} {new} growth {place} {rest} {whole} {word} is =
    record {
      over = all-over-grows growth word is.over;
      places = is.places;
      number = λ v h. is.number v (grows-hold growth v h);
    }

more-number : (word p q b rest next whole : ℕ) → q ≡ p * 2 → rest ≡ b + 2 * next → word + p * rest ≡ whole →
    word + p * b + q * next ≡ whole
more-number word p q b rest next whole twice e so_far =
    ap (λ k. word + p * b + k * next) twice
    ∙ (let here : word + p * b + p * 2 * next ≡ word + p * (b + 2 * next) = omega arith in here)
    ∙ ap (λ k. word + p * k) (sym e) ∙ so_far

-- one signal more
pub begun-more : {n : Netlist} {place : ℕ} {rest whole : (ℕ → Bool) → ℕ} {word : List Signal} →
    IsBegun n place rest whole word → (s : Signal) → IsSignalOver (length n.gates) s → (next : (ℕ → Bool) → ℕ) →
    ((v : ℕ → Bool) → IsTrue (hold v n.gates) → rest v ≡ bit (signal_true v s) + 2 * next v) →
    IsBegun n (place + 1) next whole (word ++ s ∷ [])
begun-more {n} {place} {rest} {whole} {word} is s over next step =
    record {
      over = All-push (IsSignalOver (length n.gates)) word s is.over over;
      places = length-append word (s ∷ []) ∙ ap (λ k. k + 1) is.places;
      number =
          λ v h. ap (λ k. k + 2 ^ (place + 1) * next v)
          (word_number-more v word s ∙ ap (λ k. word_number v word + 2 ^ k * bit (signal_true v s)) is.places)
          ∙ more-number (word_number v word) (2 ^ place) (2 ^ (place + 1)) (bit (signal_true v s)) (rest v) (next v)
          (whole v) (ap (λ k. 2 ^ k) (omega arith) ∙ pow-suc 2 place) (step v h) (is.number v h);
    }

-- nothing is left
pub begun-end : {n : Netlist} {place : ℕ} {rest whole : (ℕ → Bool) → ℕ} {word : List Signal} →
    IsBegun n place rest whole word → (w : ℕ) → place ≡ w → ((v : ℕ → Bool) → IsTrue (hold v n.gates) → rest v ≡ 0) →
    IsWordOf n w whole word
begun-end {n} {place} {rest} {whole} {word} is w all none =
    record {
      over = is.over;
      places = is.places ∙ all;
      number =
          λ v h. (let plain : word_number v word ≡ word_number v word + 2 ^ place * 0 = omega arith in plain)
          ∙ ap (λ k. word_number v word + 2 ^ place * k) (sym (none v h)) ∙ is.number v h;
    }

pub remainder : (word p rest whole : ℕ) → word < p → word + p * rest ≡ whole → word ≡ whole % p
remainder word p rest whole less e =
    let turned : word + rest * p ≡ whole = omega arith in
    sym (ap (λ k. k % p) (sym turned) ∙ add-mul-mod_self_right word rest p ∙ mod-eq_of_lt less)

-- what is left is above the word
pub begun-modulo : {n : Netlist} {place : ℕ} {rest whole : (ℕ → Bool) → ℕ} {word : List Signal} →
    IsBegun n place rest whole word → (w : ℕ) → place ≡ w → IsWordOf n w (λ v. whole v % 2 ^ w) word
begun-modulo {n} {place} {rest} {whole} {word} is w all =
    record {
      over = is.over;
      places = is.places ∙ all;
      number =
          λ v h. remainder (word_number v word) (2 ^ place) (rest v) (whole v)
          (subst (λ k. word_number v word < 2 ^ k) is.places (word_number-lt v word)) (is.number v h)
          ∙ ap (λ k. whole v % 2 ^ k) all;
    }

-- ---- signals

-- a signal that makes the whole with what is left
pub record IsCarried (n : Netlist) (rest : (ℕ → Bool) → Bool → Bool) (whole : (ℕ → Bool) → Bool) (s : Signal)
    : Type 0 where
  pub over : IsSignalOver (length n.gates) s
  pub value : (v : ℕ → Bool) → IsTrue (hold v n.gates) → rest v (signal_true v s) ≡ whole v

-- one place more
pub carried-more : {old new : Netlist} {rest : (ℕ → Bool) → Bool → Bool} {whole : (ℕ → Bool) → Bool} {s : Signal} →
    IsCarried old rest whole s → Grows old new → (f : (ℕ → Bool) → Bool) (t : Signal) → IsSignalOf new f t →
    (next : (ℕ → Bool) → Bool → Bool) → ((v : ℕ → Bool) → next v (f v) ≡ rest v (signal_true v s)) →
    IsCarried new next whole t
carried-more {old} {new} {rest} {whole} {s} is growth f t gate next step =
    record {
      over = gate.over;
      value =
          λ v h. ap (next v) (gate.value v h) ∙ step v ∙ is.value v (grows-hold growth v h);
    }

-- nothing is left
pub carried-end : {n : Netlist} {rest : (ℕ → Bool) → Bool → Bool} {whole : (ℕ → Bool) → Bool} {s : Signal} →
    IsCarried n rest whole s → ((v : ℕ → Bool) → rest v (signal_true v s) ≡ signal_true v s) → IsSignalOf n whole s
carried-end {n} {rest} {whole} {s} is none =
    record { over = is.over; value = λ v h. sym (none v) ∙ is.value v h }

-- ---- a turn of a loop, in which a gate is made

pub begun-gate : {old mid new : Netlist} {place : ℕ} {rest whole : (ℕ → Bool) → ℕ} {word : List Signal} →
    Grows old mid × IsBegun mid place rest whole word → Grows mid new →
    (f : (ℕ → Bool) → Bool) (s : Signal) → IsSignalOf new f s → (more : List Signal) → more ≡ word ++ s ∷ [] →
    (next : (ℕ → Bool) → ℕ) → ((v : ℕ → Bool) → IsTrue (hold v new.gates) → rest v ≡ bit (f v) + 2 * next v) →
    Grows old new × IsBegun new (place + 1) next whole more
begun-gate {old} {mid} {new} {place} {rest} {whole} {word} before growth f s gate more e next step = (
  grows-then before.0 growth,
  subst (IsBegun new (place + 1) next whole) (sym e)
      (begun-more (begun-grows growth before.1) s gate.over next
      (λ v h. step v h ∙ ap (λ b. bit b + 2 * next v) (sym (gate.value v h)))),
)

pub carried-gate : {old mid new : Netlist} {rest : (ℕ → Bool) → Bool → Bool} {whole : (ℕ → Bool) → Bool} {s : Signal} →
    Grows old mid × IsCarried mid rest whole s → Grows mid new →
    (f : (ℕ → Bool) → Bool) (t : Signal) → IsSignalOf new f t → (next : (ℕ → Bool) → Bool → Bool) →
    ((v : ℕ → Bool) → next v (f v) ≡ rest v (signal_true v s)) → Grows old new × IsCarried new next whole t
carried-gate before growth f t gate next step = (
  grows-then before.0 growth,
  carried-more before.1 growth f t gate next step,
)

-- ---- a last call

-- what a call promises where it is `Ok`, and what it promises of its result, together
pub ok-then : {T E P : Type 0} {Q R : T → Type 0} (r : Result T E) → OnOk r P → IfOk r Q →
    (P → (x : T) → Q x → R x) → IfOk r R
ok-then (Ok x) p q f = f p x q
ok-then (Err e) p q f = tt

-- what holds anyway
pub ok-anyway : {T E P : Type 0} (r : Result T E) → P → OnOk r P
ok-anyway (Ok x) p = p
ok-anyway (Err e) p = tt
