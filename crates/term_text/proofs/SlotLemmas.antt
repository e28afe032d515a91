-- The first argument that does not fit, where the last slot is that of all further arguments.
use Rattle.std.proofs.Common.{◌≡◌, ℕ, zero, suc, ◌+◌, ◌-◌, ◌<◌, ◌≤◌, Bool, true, false, cond, not, List, [], ◌∷◌}
use Rattle.std.proofs.Common.{length}
use Rattle.std.proofs.Common.{drop, replicate, slice_get, Option, None, Some, option_map, refl, sym, ap, ◌∙◌, arith}
use Rattle.std.proofs.Common.{position, length-drop}
use Rattle.std.proofs.lemmas.List.{nil_from_length}
use Rattle.std.proofs.lemmas.Option.{same_Some, slice_get-get_or}
use Rattle.std.specs.Prelude.{zip}
use Rattle.std.specs.List.{position_from}
use Rattle.std.proofs.lemmas.Iterator.Adapters.{position_from-zero}
use Rattle.bv_terms.specs.declared.signature.Slot.{Slot}
use Rattle.bv_terms.specs.declared.signature.IndexRule.{IndexRule}
use Rattle.bv_terms.specs.declared.value.Sort.{Sort}
use Rattle.bv_terms.specs.Signature.{fits, misfit}
use Rattle.term_text.specs.Operator.{extended}

abbrev Test : Type 0
Test = Slot × Sort → Bool

-- what is found among the given slots is found among more
found_in_front : (P : Test) (slots : List Slot) (n : ℕ) (ss : List Sort) (i k : ℕ)
    → position_from P i (zip slots ss) ≡ Some k → position_from P i (zip (extended slots n) ss) ≡ Some k
found_in_front P [] n ss i k h = h
found_in_front P (a ∷ []) n [] i k h = h
found_in_front P (a ∷ []) n (s ∷ ss) i k h = by (P (a, s)) (zip (replicate n a) ss) h
  where
    by : (b : Bool) (es : List (Slot × Sort)) → cond b (Some i) None ≡ Some k
        → cond b (Some i) (position_from P (i + 1) es) ≡ Some k
    by true es h = h
    by false es h = cc
found_in_front P (a ∷ b ∷ slots) n [] i k h = h
found_in_front P (a ∷ b ∷ slots) n (s ∷ ss) i k h =
    by (P (a, s)) (λ e. found_in_front P (b ∷ slots) n ss (i + 1) k e) h
  where
    by : (c : Bool) → (position_from P (i + 1) (zip (b ∷ slots) ss) ≡ Some k
        → position_from P (i + 1) (zip (extended (b ∷ slots) n) ss) ≡ Some k)
        → cond c (Some i) (position_from P (i + 1) (zip (b ∷ slots) ss)) ≡ Some k
        → cond c (Some i) (position_from P (i + 1) (zip (extended (b ∷ slots) n) ss)) ≡ Some k
    by true f h = h
    by false f h = f h

-- the same slot for all
found_of_one : (P : Test) (a : Slot) (n : ℕ) (ss : List Sort) (i : ℕ) → length ss ≤ n
    → position_from P i (zip (replicate n a) ss) ≡ position_from (λ s. P (a, s)) i ss
found_of_one P a zero [] i h = refl
found_of_one P a (suc n) [] i h = refl
found_of_one P a zero (s ∷ ss) i h = absurd (omega arith)
found_of_one P a (suc n) (s ∷ ss) i h =
    ap (cond (P (a, s)) (Some i)) (found_of_one P a n ss (i + 1) (omega arith))

goes_on : (b : Bool) (i : ℕ) (o : Option ℕ) → cond b (Some i) o ≡ None → o ≡ None
goes_on true i o h = cc
goes_on false i o h = h

fails : (b : Bool) (i : ℕ) (o : Option ℕ) → cond b (Some i) o ≡ None → b ≡ false
fails true i o h = cc
fails false i o h = refl

-- where nothing is found among the given slots, it is found among the further arguments
found_later : (P : Test) (slots : List Slot) (last : Slot) (n : ℕ) (ss : List Sort) (i : ℕ)
    → slice_get slots (length slots - 1) ≡ Some last → length ss ≤ n → position_from P i (zip slots ss) ≡ None
    → position_from P i (zip (extended slots n) ss)
    ≡ position_from (λ s. P (last, s)) (i + length slots) (drop (length slots) ss)
found_later P [] last n ss i is h none = cc
found_later P (a ∷ []) last n [] i is h none = refl
found_later P (a ∷ []) last n (s ∷ ss) i is h none =
    ap (λ b. cond b (Some i) (position_from P (i + 1) (zip (replicate n a) ss))) (fails (P (a, s)) i None none)
    ∙ found_of_one P a n ss (i + 1) (omega arith)
    ∙ ap (λ slot. position_from (λ s. P (slot, s)) (i + 1) ss) (same_Some a last is)
found_later P (a ∷ b ∷ slots) last n [] i is h none = refl
found_later P (a ∷ b ∷ slots) last n (s ∷ ss) i is h none =
    let rest = position_from P (i + 1) (zip (b ∷ slots) ss) in
    let before : suc (length (b ∷ slots) - 1) ≡ length (a ∷ b ∷ slots) - 1 = omega arith in
    let place : i + 1 + length (b ∷ slots) ≡ i + length (a ∷ b ∷ slots) = omega arith in
    ap (λ c. cond c (Some i) (position_from P (i + 1) (zip (extended (b ∷ slots) n) ss))) (fails (P (a, s)) i rest none)
    ∙ found_later P (b ∷ slots) last n ss (i + 1) (ap (slice_get (a ∷ b ∷ slots)) before ∙ is) (omega arith)
    (goes_on (P (a, s)) i rest none)
    ∙ ap (λ k. position_from (λ s. P (last, s)) k (drop (length (b ∷ slots)) ss)) place

-- counted from a later place
pub found_from : {A : Type 0} (p : A → Bool) (xs : List A) (i j : ℕ)
    → position_from p (i + j) xs ≡ option_map (λ k. i + k) (position_from p j xs)
found_from p [] i j = refl
found_from {A} p (x ∷ xs) i j =
    ap (cond (p x) (Some (i + j))) (ap (λ k. position_from p k xs) (let e : i + j + 1 ≡ i + (j + 1) = omega arith in e)
    ∙ found_from p xs i (j + 1)) ∙ by (p x) (position_from p (j + 1) xs)
  where
    by : (b : Bool) (o : Option ℕ) → cond b (Some (i + j)) (option_map (λ k. i + k) o)
        ≡ option_map (λ k. i + k) (cond b (Some j) o)
    by true o = refl
    by false o = refl

-- so the first misfit is that of the given slots, or else the first further argument that does not fit the last one
pub misfit-front : (p : ℕ) (r : IndexRule) (slots : List Slot) (n : ℕ) (ss : List Sort) (k : ℕ)
    → misfit p r slots ss ≡ Some k → misfit p r (extended slots n) ss ≡ Some k
misfit-front p r slots n ss k h =
    let P : Test = λ e. not (fits p r ss e.0 e.1) in
    position_from-zero P (zip (extended slots n) ss)
    ∙ found_in_front P slots n ss 0 k (sym (position_from-zero P (zip slots ss)) ∙ h)

pub misfit-none : (p : ℕ) (r : IndexRule) (slots : List Slot) (n : ℕ) (ss : List Sort)
    → slice_get slots (length slots - 1) ≡ None → misfit p r (extended slots n) ss ≡ None
misfit-none p r [] n ss h = refl
misfit-none p r (a ∷ slots) n ss h =
    let within : length (a ∷ slots) - 1 < length (a ∷ slots) = omega arith in
    absurd (cc (slice_get-get_or (a ∷ slots) (length (a ∷ slots) - 1) a within))

pub misfit-later : (p : ℕ) (r : IndexRule) (slots : List Slot) (last : Slot) (n : ℕ) (ss : List Sort)
    → slice_get slots (length slots - 1) ≡ Some last → length ss ≤ n → misfit p r slots ss ≡ None
    → misfit p r (extended slots n) ss
    ≡ option_map (λ k. length slots + k) (position (λ s. not (fits p r ss last s)) (drop (length slots) ss))
misfit-later p r slots last n ss is h none =
    let P : Test = λ e. not (fits p r ss e.0 e.1) in
    let Q : Sort → Bool = λ s. not (fits p r ss last s) in
    let rest = drop (length slots) ss in
    let place : 0 + length slots ≡ length slots + 0 = omega arith in
    position_from-zero P (zip (extended slots n) ss)
    ∙ found_later P slots last n ss 0 is h (sym (position_from-zero P (zip slots ss)) ∙ none)
    ∙ ap (λ k. position_from Q k rest) place ∙ found_from Q rest (length slots) 0
    ∙ ap (option_map (λ k. length slots + k)) (sym (position_from-zero Q rest))

pub misfit-short : (p : ℕ) (r : IndexRule) (slots : List Slot) (last : Slot) (n : ℕ) (ss : List Sort)
    → slice_get slots (length slots - 1) ≡ Some last → length ss < length slots → length ss ≤ n
    → misfit p r slots ss ≡ None → misfit p r (extended slots n) ss ≡ None
misfit-short p r slots last n ss is short h none =
    let nothing : length (drop (length slots) ss) ≡ 0 = omega (arith, length-drop (length slots) ss) in
    misfit-later p r slots last n ss is h none
    ∙ ap (λ ts. option_map (λ k. length slots + k) (position (λ s. not (fits p r ss last s)) ts))
    (nil_from_length (drop (length slots) ss) nothing)
