-- The values of inputs, bit by bit.
use Rattle.std.proofs.Common.{◌≡◌, ◌≢◌, ◌∙◌, ℕ, zero, suc, ◌+◌, ◌/◌, ◌%◌, ◌^◌, ◌<◌, ◌≤◌, ◌==◌, ◌&&◌, ◌||◌}
use Rattle.std.proofs.Common.{Bool, true, false}
use Rattle.std.proofs.Common.{if◌then◌else◌, List, [], ◌∷◌, length, slice_get, slice_set, unwrap_or, replicate, Some}
use Rattle.std.proofs.Common.{max, bit_or, refl, sym, ap, subst, inl, inr, ◌⊎◌, ⊎_elim, arith}
use Rattle.std.specs.List.{AllByRecursion, list_any}
use Rattle.std.proofs.lemmas.Bool.{cases_lt, eq-eqb}
use Rattle.std.proofs.lemmas.Bool.Decides.{Decides-eqb, nat_tests}
use Rattle.std.proofs.lemmas.List.{length-set, set_past, length-replicate}
use Rattle.std.proofs.lemmas.Nat.{or_lt, pow_pos}
use Rattle.std.proofs.lemmas.Nat.Bits.{bit_at_or, bit_at-pow_same, bit_at-pow_other, bit_at-zero, bit_at-lt}
use Rattle.std.proofs.lemmas.Option.{same_Some, slice_get_within}
use Rattle.std.proofs.Math.Bool.{or_assoc}
use Rattle.std.proofs.Math.Pow.{pow-lt}
use Rattle.std.specs.Int.{bit_at}
use Rattle.bv_terms.specs.declared.value.Sort.{Sort}
use Rattle.bv_terms.specs.declared.value.Sort.TheVariants as sort
use Rattle.bv_terms.specs.declared.value.Value.{Value}
use Rattle.bv_terms.specs.declared.value.Value.TheVariants as val
use Rattle.bv_terms.specs.Sorts.{HasSort, width_of}
use Rattle.bit_blast.specs.Bits.{value_bit, bit_of}
use Rattle.bv_query.specs.Values.{zero_of, room_for, with_zeros, zeros, with_bit, value_at, with_listed, with_bits}
use Rattle.list_lemmas.proofs.Bools.{and_false, and_parts, and-both, or-right, or-cases, false_unless}
use Rattle.list_lemmas.proofs.Lookups.{slice_get-set_same, slice_get-set_other, some_at}
use Rattle.list_lemmas.proofs.Members.{In}
use Rattle.list_lemmas.proofs.Numbers.{equal-or-not}

-- the number of an input, a bit of it, and its variable
abbrev pub Listed : Type 0
Listed = ℕ × ℕ × ℕ

-- the place of that number has a value of the sort
abbrev pub Fits : List Value → ℕ → Sort → Type 0
Fits vs number s = (u : Value) × (slice_get vs number ≡ Some u) × HasSort s u

-- the place has a value of a sort that has the listed bit
abbrev pub HasRoom : List Value → Listed → Type 0
HasRoom vs b = (r : Sort) × Fits vs b.0 r × (b.1 < width_of r)

-- ---- tests

or-false : (a : Bool) → (a || false) ≡ a
or-false true = refl
or-false false = refl

or-true : (a : Bool) → (a || true) ≡ true
or-true true = refl
or-true false = refl

same-false : (a b : ℕ) → (a ≡ b → ⊥) → (a == b) ≡ false
same-false a b differ = false_unless (a == b) (λ e. differ ((Decides-eqb a b).0 e))

absorbs : (e b : Bool) → (e && true) ≡ ((e && b) || e)
absorbs true true = refl
absorbs true false = refl
absorbs false b = refl

-- ---- one value

zero-sort : (s : Sort) → (s ≡ sort.Mem → ⊥) → HasSort s (zero_of s)
zero-sort sort.Bool plain = tt
zero-sort (sort.Bits w) plain = (refl, pow_pos w)
zero-sort sort.Mem plain = absurd (plain refl)

zero-bit : (s : Sort) (k : ℕ) → value_bit (zero_of s) k ≡ false
zero-bit sort.Bool k = and_false (k == 0) false refl
zero-bit (sort.Bits w) k = ap (λ n. n == 1) (bit_at-zero k)
zero-bit sort.Mem k = and_false (k == 0) false refl

same-kind : (r s : Sort) (u : Value) → HasSort r u → HasSort s u → r ≡ s
same-kind sort.Bool sort.Bool (val.Bool b) h i = refl
same-kind sort.Bool (sort.Bits w) (val.Bool b) h i = absurd i
same-kind (sort.Bits w) s (val.Bool b) h i = absurd h
same-kind sort.Bool s (val.Bits w n) h i = absurd h
same-kind (sort.Bits w) sort.Bool (val.Bits v n) h i = absurd i
same-kind (sort.Bits w) (sort.Bits x) (val.Bits v n) h i = ap sort.Bits (sym h.0 ∙ i.0)
same-kind sort.Mem s u h i = absurd h
same-kind r sort.Mem u h i = absurd i

bit-sort : (s : Sort) (u : Value) (k : ℕ) → HasSort s u → k < width_of s → HasSort s (with_bit u k)
bit-sort sort.Bool (val.Bool b) k has less = tt
bit-sort sort.Bool (val.Bits w n) k has less = absurd has
bit-sort (sort.Bits w) (val.Bits v n) k has less = (has.0, or_lt w n (2 ^ k) has.1 (pow-lt less))
bit-sort (sort.Bits w) (val.Bool b) k has less = absurd has
bit-sort sort.Mem u k has less = absurd has

-- a bit of a number in which one bit was made 1
number-bit : (n k j : ℕ) → (bit_at (bit_or n (2 ^ k)) j == 1) ≡ ((bit_at n j == 1) || (k == j))
number-bit n k j = ap (λ m. m == 1) (bit_at_or n (2 ^ k) j) ∙ by (equal-or-not j k)
  where
    by : (j ≡ k) ⊎ (j ≡ k → ⊥) → (max (bit_at n j) (bit_at (2 ^ k) j) == 1) ≡ ((bit_at n j == 1) || (k == j))
    by (inl same) =
        let one : bit_at (2 ^ k) j ≡ 1 = ap (bit_at (2 ^ k)) same ∙ bit_at-pow_same k in
        let small : bit_at n j < 2 = bit_at-lt n j in
        let most : max (bit_at n j) (bit_at (2 ^ k) j) ≡ 1 = omega (arith, one, small) in
        ap (λ m. m == 1) most
        ∙ sym (ap (λ b. (bit_at n j == 1) || b) (eq-eqb k j (sym same)) ∙ or-true (bit_at n j == 1))
    by (inr differ) =
        let none : bit_at (2 ^ k) j ≡ 0 = bit_at-pow_other k j differ in
        let most : max (bit_at n j) (bit_at (2 ^ k) j) ≡ bit_at n j = omega (arith, none) in
        ap (λ m. m == 1) most
        ∙ sym (ap (λ b. (bit_at n j == 1) || b) (same-false k j (λ e. differ (sym e))) ∙ or-false (bit_at n j == 1))

value-bit : (s : Sort) (u : Value) (k j : ℕ) → HasSort s u → k < width_of s
    → value_bit (with_bit u k) j ≡ (value_bit u j || (k == j))
value-bit sort.Bool (val.Bool b) k j has less =
    let first : (k == j) ≡ (j == 0) = first_bit k j less in
    absorbs (j == 0) b ∙ ap (λ e. (j == 0 && b) || e) (sym first)
  where
    first_bit : (k j : ℕ) → k < 1 → (k == j) ≡ (j == 0)
    first_bit zero zero less = refl
    first_bit zero (suc j) less = grind (arith, nat_tests)
    first_bit (suc k) j less = absurd (omega (arith, less))
value-bit sort.Bool (val.Bits w n) k j has less = absurd has
value-bit (sort.Bits w) (val.Bits v n) k j has less = number-bit n k j
value-bit (sort.Bits w) (val.Bool b) k j has less = absurd has
value-bit sort.Mem u k j has less = absurd has

-- ---- one listed bit

one-value : (vs : List Value) (m n : ℕ) (u x : Value) → m ≡ n → slice_get vs m ≡ Some u → slice_get vs n ≡ Some x
    → u ≡ x
one-value vs m n u x same first second = same_Some u x (sym first ∙ ap (slice_get vs) same ∙ second)

listed-there : (vs : List Value) (b : Listed) (r : Sort) → (fits : Fits vs b.0 r)
    → slice_get (with_listed vs b) b.0 ≡ Some (with_bit fits.0 b.1)
listed-there vs b r fits =
    slice_get-set_same vs b.0 (with_bit (value_at vs b.0) b.1) (slice_get_within vs b.0 fits.0 fits.1)
    ∙ ap (λ o. Some (with_bit (unwrap_or o (val.Bool false)) b.1)) fits.1

listed-sort : (vs : List Value) (b : Listed) → HasRoom vs b → (number : ℕ) (s : Sort) → Fits vs number s
    → Fits (with_listed vs b) number s
listed-sort vs b room number s fits = elim (equal-or-not number b.0) [
  | inl same ↦ (let u = room.1.0 in
      let one : fits.0 ≡ u = one-value vs number b.0 fits.0 u same fits.1 room.1.1 in
      let kind : room.0 ≡ s = same-kind room.0 s u room.1.2 (subst (HasSort s) one fits.2) in (
        with_bit u b.1,
        ap (slice_get (with_listed vs b)) same ∙ listed-there vs b room.0 room.1,
        subst (λ r. HasSort r (with_bit u b.1)) kind (bit-sort room.0 u b.1 room.1.2 room.2),
      ))
  | inr differ ↦ (
    fits.0,
    slice_get-set_other vs b.0 number (with_bit (value_at vs b.0) b.1) differ ∙ fits.1,
    fits.2,
  )
]

listed-bit : (vs : List Value) (b : Listed) → HasRoom vs b → (number k : ℕ)
    → bit_of (with_listed vs b) number k ≡ (bit_of vs number k || (b.0 == number && b.1 == k))
listed-bit vs b room number k = elim (equal-or-not number b.0) [
  | inl same ↦ (let u = room.1.0 in
      let now : slice_get (with_listed vs b) number ≡ Some (with_bit u b.1) =
      ap (slice_get (with_listed vs b)) same ∙ listed-there vs b room.0 room.1 in
      let before : slice_get vs number ≡ Some u = ap (slice_get vs) same ∙ room.1.1 in
      ap (λ o. value_bit (unwrap_or o (val.Bool false)) k) now
      ∙ value-bit room.0 u b.1 k room.1.2 room.2
      ∙ ap (λ o. value_bit (unwrap_or o (val.Bool false)) k || (b.1 == k)) (sym before)
      ∙ ap (λ t. bit_of vs number k || (t && b.1 == k)) (sym (eq-eqb b.0 number (sym same))))
  | inr differ ↦ (
      ap (λ o. value_bit (unwrap_or o (val.Bool false)) k)
      (slice_get-set_other vs b.0 number (with_bit (value_at vs b.0) b.1) differ)
      ∙ sym (or-false (bit_of vs number k))
      ∙ ap (λ t. bit_of vs number k || (t && b.1 == k)) (sym (same-false b.0 number (λ e. differ (sym e)))))
]

-- ---- listed bits whose variables are true

-- the listed bit is that one, and its variable is true
abbrev pub is_set : (ℕ → Bool) → ℕ → ℕ → Listed → Bool
is_set v number k b = (b.0 == number && b.1 == k) && v b.2

-- the values after one listed bit
abbrev after : List Value → Listed → Bool → List Value
after vs b on = if on then with_listed vs b else vs

after-sort : (vs : List Value) (b : Listed) → HasRoom vs b → (on : Bool) (number : ℕ) (s : Sort) → Fits vs number s
    → Fits (after vs b on) number s
after-sort vs b room true number s fits = listed-sort vs b room number s fits
after-sort vs b room false number s fits = fits

after-bit : (vs : List Value) (b : Listed) → HasRoom vs b → (on : Bool) (number k : ℕ)
    → bit_of (after vs b on) number k ≡ (bit_of vs number k || ((b.0 == number && b.1 == k) && on))
after-bit vs b room true number k =
    listed-bit vs b room number k ∙ ap (λ t. bit_of vs number k || t) (and-yes (b.0 == number && b.1 == k))
  where
    and-yes : (t : Bool) → t ≡ (t && true)
    and-yes true = refl
    and-yes false = refl
after-bit vs b room false number k =
    sym (ap (λ t. bit_of vs number k || t) (and_false (b.0 == number && b.1 == k) false refl)
    ∙ or-false (bit_of vs number k))

after-room : (vs : List Value) (b : Listed) → HasRoom vs b → (on : Bool) (bs : List Listed)
    → AllByRecursion (HasRoom vs) bs → AllByRecursion (HasRoom (after vs b on)) bs
after-room vs b room on [] all = tt
after-room vs b room on (c ∷ bs) all = (
  (all.0.0, after-sort vs b room on c.0 all.0.0 all.0.1, all.0.2),
  after-room vs b room on bs all.1,
)

pub bits-sort : (v : ℕ → Bool) (bs : List Listed) (vs : List Value) → AllByRecursion (HasRoom vs) bs
    → (number : ℕ) (s : Sort) → Fits vs number s → Fits (with_bits v vs bs) number s
bits-sort v [] vs all number s fits = fits
bits-sort v (b ∷ bs) vs all number s fits =
    bits-sort v bs (after vs b (v b.2)) (after-room vs b all.0 (v b.2) bs all.1) number s
    (after-sort vs b all.0 (v b.2) number s fits)

pub bits-bit : (v : ℕ → Bool) (bs : List Listed) (vs : List Value) → AllByRecursion (HasRoom vs) bs → (number k : ℕ)
    → bit_of (with_bits v vs bs) number k ≡ (bit_of vs number k || list_any (is_set v number k) bs)
bits-bit v [] vs all number k = sym (or-false (bit_of vs number k))
bits-bit v (b ∷ bs) vs all number k =
    bits-bit v bs (after vs b (v b.2)) (after-room vs b all.0 (v b.2) bs all.1) number k
    ∙ ap (λ t. t || list_any (is_set v number k) bs) (after-bit vs b all.0 (v b.2) number k)
    ∙ or_assoc (bit_of vs number k) (is_set v number k b) (list_any (is_set v number k) bs)

after-length : (vs : List Value) (b : Listed) (on : Bool) → length (after vs b on) ≡ length vs
after-length vs b true = length-set vs b.0 (with_bit (value_at vs b.0) b.1)
after-length vs b false = refl

pub bits-length : (v : ℕ → Bool) (bs : List Listed) (vs : List Value) → length (with_bits v vs bs) ≡ length vs
bits-length v [] vs = refl
bits-length v (b ∷ bs) vs = bits-length v bs (after vs b (v b.2)) ∙ after-length vs b (v b.2)

-- what no listed bit is of stays
after-other : (vs : List Value) (b : Listed) (on : Bool) (number : ℕ) → number ≢ b.0
    → slice_get (after vs b on) number ≡ slice_get vs number
after-other vs b true number differ = slice_get-set_other vs b.0 number (with_bit (value_at vs b.0) b.1) differ
after-other vs b false number differ = refl

pub bits-other : (v : ℕ → Bool) (bs : List Listed) (vs : List Value) (number : ℕ)
    → ((b : Listed) × In bs b × (b.0 ≡ number)) ⊎ (slice_get (with_bits v vs bs) number ≡ slice_get vs number)
bits-other v [] vs number = inr refl
bits-other v (b ∷ bs) vs number = elim (bits-other v bs (after vs b (v b.2)) number) [
  | inl later ↦ inl (later.0, inr later.1, later.2)
  | inr stays ↦ elim (equal-or-not number b.0) [
    | inl same ↦ inl (b, inl refl, sym same)
    | inr differ ↦ inr (stays ∙ after-other vs b (v b.2) number differ)
  ]
]

-- ---- zeros

zeros-length : (is : List (ℕ × Sort)) (vs : List Value) → length (with_zeros vs is) ≡ length vs
zeros-length [] vs = refl
zeros-length (i ∷ is) vs = zeros-length is (slice_set vs i.0 (zero_of i.1)) ∙ length-set vs i.0 (zero_of i.1)

put-bit : (vs : List Value) (m : ℕ) (s : Sort) → ((n k : ℕ) → bit_of vs n k ≡ false) → (n k : ℕ)
    → bit_of (slice_set vs m (zero_of s)) n k ≡ false
put-bit vs m s none n k = elim (cases_lt m (length vs)) [
  | inl less ↦ elim (equal-or-not n m) [
    | inl same ↦ ap (λ o. value_bit (unwrap_or o (val.Bool false)) k)
        (ap (slice_get (slice_set vs m (zero_of s))) same ∙ slice_get-set_same vs m (zero_of s) less)
        ∙ zero-bit s k
    | inr differ ↦ ap (λ o. value_bit (unwrap_or o (val.Bool false)) k)
        (slice_get-set_other vs m n (zero_of s) differ) ∙ none n k
  ]
  | inr past ↦ ap (λ us. bit_of us n k) (set_past vs m (zero_of s) past) ∙ none n k
]

zeros-bit : (is : List (ℕ × Sort)) (vs : List Value) → ((n k : ℕ) → bit_of vs n k ≡ false) → (n k : ℕ)
    → bit_of (with_zeros vs is) n k ≡ false
zeros-bit [] vs none n k = none n k
zeros-bit (i ∷ is) vs none n k =
    zeros-bit is (slice_set vs i.0 (zero_of i.1)) (put-bit vs i.0 i.1 none) n k

-- a place that is 0 stays so, where all inputs of its number are of its sort
zeros-stay : (is : List (ℕ × Sort)) (vs : List Value) (number : ℕ) (s : Sort)
    → ((r : Sort) → In is (number, r) → r ≡ s) → slice_get vs number ≡ Some (zero_of s)
    → slice_get (with_zeros vs is) number ≡ Some (zero_of s)
zeros-stay [] vs number s alike here = here
zeros-stay (i ∷ is) vs number s alike here =
    zeros-stay is (slice_set vs i.0 (zero_of i.1)) number s (λ r later. alike r (inr later))
    (elim (equal-or-not number i.0) [
      | inl same ↦ (let kind : i.1 ≡ s = alike i.1 (inl (ap (λ m. (m, i.1)) (sym same))) in
          ap (slice_get (slice_set vs i.0 (zero_of i.1))) same
          ∙ slice_get-set_same vs i.0 (zero_of i.1)
          (subst (λ m. m < length vs) same (slice_get_within vs number (zero_of s) here))
          ∙ ap (λ r. Some (zero_of r)) kind)
      | inr differ ↦ slice_get-set_other vs i.0 number (zero_of i.1) differ ∙ here
    ])

zeros-there : (is : List (ℕ × Sort)) (vs : List Value) (number : ℕ) (s : Sort) → number < length vs
    → ((r : Sort) → In is (number, r) → r ≡ s) → In is (number, s)
    → slice_get (with_zeros vs is) number ≡ Some (zero_of s)
zeros-there [] vs number s less alike at = absurd at
zeros-there (i ∷ is) vs number s less alike (inl same) =
    let place : i.0 ≡ number = ap (λ (j : ℕ × Sort). j.0) same in
    let kind : i.1 ≡ s = ap (λ (j : ℕ × Sort). j.1) same in
    zeros-stay is (slice_set vs i.0 (zero_of i.1)) number s (λ r later. alike r (inr later))
    (ap (slice_get (slice_set vs i.0 (zero_of i.1))) (sym place)
    ∙ slice_get-set_same vs i.0 (zero_of i.1) (subst (λ m. m < length vs) (sym place) less)
    ∙ ap (λ r. Some (zero_of r)) kind)
zeros-there (i ∷ is) vs number s less alike (inr later) =
    zeros-there is (slice_set vs i.0 (zero_of i.1)) number s
    (subst (λ n. number < n) (sym (length-set vs i.0 (zero_of i.1))) less) (λ r at. alike r (inr at)) later

zeros-other : (is : List (ℕ × Sort)) (vs : List Value) (number : ℕ)
    → ((s : Sort) × In is (number, s)) ⊎ (slice_get (with_zeros vs is) number ≡ slice_get vs number)
zeros-other [] vs number = inr refl
zeros-other (i ∷ is) vs number = elim (zeros-other is (slice_set vs i.0 (zero_of i.1)) number) [
  | inl later ↦ inl (later.0, inr later.1)
  | inr stays ↦ elim (equal-or-not number i.0) [
    | inl same ↦ inl (i.1, inl (ap (λ m. (m, i.1)) (sym same)))
    | inr differ ↦ inr (stays ∙ slice_get-set_other vs i.0 number (zero_of i.1) differ)
  ]
]

-- ---- the places

room-above : (is : List (ℕ × Sort)) (number : ℕ) (s : Sort) → In is (number, s) → number < room_for is
room-above [] number s at = absurd at
room-above (i ∷ is) number s (inl same) =
    let place : i.0 ≡ number = ap (λ (j : ℕ × Sort). j.0) same in omega (arith, place)
room-above (i ∷ is) number s (inr later) = let less = room-above is number s later in omega (arith, less)

room-last : (is : List (ℕ × Sort)) (number : ℕ) → room_for is ≡ number + 1 → (s : Sort) × In is (number, s)
room-last [] number e = absurd (omega (arith, e))
room-last (i ∷ is) number e = elim (equal-or-not (i.0 + 1) (number + 1)) [
  | inl here ↦ (let place : i.0 ≡ number = omega (arith, here) in (i.1, inl (ap (λ m. (m, i.1)) place)))
  | inr not_here ↦ (let rest : room_for is ≡ number + 1 = omega (arith, e, not_here) in
      let found = room-last is number rest in (found.0, inr found.1))
]

replicate-at : (n k : ℕ) → k < n → slice_get (replicate n (val.Bool false)) k ≡ Some (val.Bool false)
replicate-at zero k less = absurd (omega (arith, less))
replicate-at (suc n) zero less = refl
replicate-at (suc n) (suc k) less = replicate-at n k (omega (arith, less))

replicate-bit : (m n k : ℕ) → bit_of (replicate m (val.Bool false)) n k ≡ false
replicate-bit zero n k = and_false (k == 0) false refl
replicate-bit (suc m) zero k = and_false (k == 0) false refl
replicate-bit (suc m) (suc n) k = replicate-bit m n k

-- ---- 0 for each input

pub start-length : (is : List (ℕ × Sort)) → length (zeros is) ≡ room_for is
start-length is =
    zeros-length is (replicate (room_for is) (val.Bool false)) ∙ length-replicate (room_for is) (val.Bool false)

pub start-bit : (is : List (ℕ × Sort)) (n k : ℕ) → bit_of (zeros is) n k ≡ false
start-bit is n k =
    zeros-bit is (replicate (room_for is) (val.Bool false)) (replicate-bit (room_for is)) n k

pub start-fits : (is : List (ℕ × Sort)) → ((number : ℕ) (r s : Sort) → In is (number, r) → In is (number, s) → r ≡ s)
    → (number : ℕ) (s : Sort) → In is (number, s) → (s ≡ sort.Mem → ⊥) → Fits (zeros is) number s
start-fits is one number s at plain = (
  zero_of s,
  zeros-there is (replicate (room_for is) (val.Bool false)) number s
      (subst (λ n. number < n) (sym (length-replicate (room_for is) (val.Bool false))) (room-above is number s at))
      (λ r here. one number r s here at) at,
  zero-sort s plain,
)

pub start-gap : (is : List (ℕ × Sort)) (number : ℕ) → number < room_for is
    → ((s : Sort) × In is (number, s)) ⊎ (slice_get (zeros is) number ≡ Some (val.Bool false))
start-gap is number less = elim (zeros-other is (replicate (room_for is) (val.Bool false)) number) [
  | inl there ↦ inl there
  | inr stays ↦ inr (stays ∙ replicate-at (room_for is) number less)
]

pub start-last : (is : List (ℕ × Sort)) (number : ℕ) → room_for is ≡ number + 1 → (s : Sort) × In is (number, s)
start-last is number e = room-last is number e
