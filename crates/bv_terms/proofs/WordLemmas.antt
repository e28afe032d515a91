-- Bit-vectors of at most 64 bits in words of 64.
use Rattle.std.proofs.Common.{◌≡◌, ◌≢◌, ℕ, ◌+◌, ◌-◌, ◌*◌, ◌/◌, ◌^◌, ◌%◌, ◌<◌, ◌≤◌, min, bit_and, bit_or, bit_xor}
use Rattle.std.proofs.Common.{Bool, true, false, if◌then◌else◌, ◌==◌, sym, ap, ◌∙◌, subst, ⊎_elim, arith}
use Rattle.std.proofs.Math.Nat.{min-eq_left, mod-mod, mod-eq_of_lt, add-mul-mod_self_right, one-le-pow, mul-mod_left}
use Rattle.std.proofs.Math.Nat.{mul_assoc, div-eq_of_lt, div-le_self, mod-le, lt_of_le_of_lt, lt_of_lt_of_le}
use Rattle.std.proofs.Math.Nat.{pow-le-pow_right, add_comm, zero-mul}
use Rattle.std.proofs.Math.Pow.{mod-mod-pow, not_mod, high_ones, ones_sub-lt}
use Rattle.std.proofs.lemmas.Bool.{cases_lt, cond-false, ne_eqb}
use Rattle.std.proofs.lemmas.Nat.{and_mask, pow_pos, pow-add, or_comm, or_shifted, shl_whole}
use Rattle.std.specs.Int.Bits.{xor_add_and, xor_zero_r, or_zero_r}
use Rattle.bv_terms.specs.declared.value.Value.TheVariants as val
use Rattle.bv_terms.specs.Term.{bits}
use Rattle.bv_terms.specs.Words.{is_negative, udiv, urem, ashr, sign_extended}

mask-narrow : (w : ℕ) → w ≤ 64 → 2 ^ min w 64 - 1 ≡ 2 ^ w - 1
mask-narrow w h = ap (λ k. 2 ^ k - 1) (min-eq_left h)

pub bits-masked : (w n m : ℕ) → w ≤ 64 → m ≡ 2 ^ min w 64 - 1 → val.Bits w (bit_and n m) ≡ bits w n
bits-masked w n m h e = ap (val.Bits w) (ap (bit_and n) (e ∙ mask-narrow w h) ∙ and_mask n w)

-- a number of w bits needs no mask
pub bits-fits : (w n : ℕ) → n < 2 ^ w → val.Bits w n ≡ bits w n
bits-fits w n h = ap (val.Bits w) (sym (mod-eq_of_lt h))

split : (w : ℕ) → w ≤ 64 → (64 - w) + w ≡ 64
split w h = omega arith

-- what a word keeps of a number is enough
mod-word : (w n : ℕ) → w ≤ 64 → n % 2 ^ 64 % 2 ^ w ≡ n % 2 ^ w
mod-word w n h = ap (λ k. n % 2 ^ k % 2 ^ w) (sym (split w h)) ∙ mod-mod-pow n (64 - w) w

pub bits-word : (w n : ℕ) → w ≤ 64 → bits w (n % 2 ^ 64) ≡ bits w n
bits-word w n h = ap (val.Bits w) (mod-word w n h)

pub bits-not : (w n : ℕ) → w ≤ 64 → n < 2 ^ w → bits w (2 ^ 64 - 1 - n) ≡ bits w (2 ^ w - 1 - n)
bits-not w n h fits =
    let inverted = ap (λ k. (2 ^ k - 1 - n) % 2 ^ w) (sym (split w h)) ∙ not_mod (64 - w) w fits in
    ap (val.Bits w) (sym (mod-mod (2 ^ 64 - 1 - n) (2 ^ w)) ∙ ap (λ m. m % 2 ^ w) inverted)

-- 2 ^ 64 is a multiple of 2 ^ w
multiple : (w : ℕ) → w ≤ 64 → 2 ^ 64 ≡ 2 ^ (64 - w) * 2 ^ w
multiple w h = ap (λ k. 2 ^ k) (sym (split w h)) ∙ pow-add 2 (64 - w) w

less_one : (p : ℕ) → 1 ≤ p → (p - 1) + 1 ≡ p
less_one p one = omega arith

one_more : (s t m q : ℕ) → t ≤ m → s + ((q + 1) * m - t) ≡ (s + (m - t)) + q * m
one_more s t m q h = omega arith

regrouped : (s t m p : ℕ) → t ≤ m → 1 ≤ p → s + (p * m - t) ≡ (s + (m - t)) + (p - 1) * m
regrouped s t m p h one = ap (λ k. s + (k * m - t)) (sym (less_one p one)) ∙ one_more s t m (p - 1) h

pub bits-sub : (w s t : ℕ) → w ≤ 64 → t ≤ 2 ^ w → bits w ((s + (2 ^ 64 - t)) % 2 ^ 64) ≡ bits w (s + (2 ^ w - t))
bits-sub w s t h fits =
    bits-word w (s + (2 ^ 64 - t)) h
    ∙ ap (λ n. bits w (s + (n - t))) (multiple w h)
    ∙ ap (bits w) (regrouped s t (2 ^ w) (2 ^ (64 - w)) fits (one-le-pow (64 - w) 2 (omega arith)))
    ∙ ap (val.Bits w) (add-mul-mod_self_right (s + (2 ^ w - t)) (2 ^ (64 - w) - 1) (2 ^ w))

-- ---- quotients

pub bits-udiv : (w s t : ℕ) → s < 2 ^ w → t ≢ 0 → val.Bits w (s / t) ≡ bits w (udiv w s t)
bits-udiv w s t fits h =
    bits-fits w (s / t) (lt_of_le_of_lt (div-le_self s t) fits)
    ∙ ap (bits w) (sym (cond-false (t == 0) (2 ^ w - 1) (s / t) (ne_eqb t 0 h)))

pub bits-urem : (w s t : ℕ) → s < 2 ^ w → t ≢ 0 → val.Bits w (s % t) ≡ bits w (urem s t)
bits-urem w s t fits h =
    bits-fits w (s % t) (lt_of_le_of_lt (mod-le s t) fits)
    ∙ ap (bits w) (sym (cond-false (t == 0) s (s % t) (ne_eqb t 0 h)))

-- ---- shifts

powers : (j k : ℕ) → j ≤ k → 2 ^ j ≤ 2 ^ k
powers j k h = pow-le-pow_right (omega arith) h

-- by w places or more, nothing of w bits is left
pub shifted_out-right : (w s t : ℕ) → s < 2 ^ w → w ≤ t → 0 ≡ s / 2 ^ t
shifted_out-right w s t fits h = sym (div-eq_of_lt (lt_of_lt_of_le fits (powers w t h)))

pub shifted_out-left : (w s t : ℕ) → w ≤ t → 0 ≡ s * 2 ^ t % 2 ^ w
shifted_out-left w s t h =
    let whole : (t - w) + w ≡ t = omega arith in
    sym (ap (λ k. s * k % 2 ^ w) (ap (λ k. 2 ^ k) (sym whole) ∙ pow-add 2 (t - w) w)
    ∙ ap (λ n. n % 2 ^ w) (sym (mul_assoc s (2 ^ (t - w)) (2 ^ w))) ∙ mul-mod_left (s * 2 ^ (t - w)) (2 ^ w))

pub shr-fits : (w s t : ℕ) → s < 2 ^ w → s / 2 ^ t < 2 ^ w
shr-fits w s t fits = lt_of_le_of_lt (div-le_self s (2 ^ t)) fits

-- the bits of a number of w bits, inverted
inverted : (w s : ℕ) → s < 2 ^ w → bit_xor s (2 ^ w - 1) ≡ 2 ^ w - 1 - s
inverted w s fits =
    let kept = and_mask s w ∙ mod-eq_of_lt fits in
    omega (arith, xor_add_and s (2 ^ w - 1), kept)

-- what the top bit b makes of a number that is shifted right by t places
abbrev shifted : ℕ → ℕ → ℕ → Bool → ℕ
shifted w s t b = if b then 2 ^ w - 1 - (2 ^ w - 1 - s) / 2 ^ t else s / 2 ^ t

shifted-code : (w s t i : ℕ) (b : Bool) → s < 2 ^ w → i ≡ (if b then 2 ^ w - 1 else 0)
    → bit_xor (bit_xor s i / 2 ^ t) i ≡ shifted w s t b
shifted-code w s t i true fits e =
    ap (λ k. bit_xor (bit_xor s k / 2 ^ t) k) e ∙ ap (λ n. bit_xor (n / 2 ^ t) (2 ^ w - 1)) (inverted w s fits)
    ∙ inverted w ((2 ^ w - 1 - s) / 2 ^ t) (shr-fits w (2 ^ w - 1 - s) t (ones_sub-lt w s))
shifted-code w s t i false fits e =
    ap (λ k. bit_xor (bit_xor s k / 2 ^ t) k) e ∙ xor_zero_r (bit_xor s 0 / 2 ^ t) ∙ ap (λ n. n / 2 ^ t) (xor_zero_r s)

shifted-fits : (w s t : ℕ) (b : Bool) → s < 2 ^ w → shifted w s t b < 2 ^ w
shifted-fits w s t true fits = ones_sub-lt w ((2 ^ w - 1 - s) / 2 ^ t)
shifted-fits w s t false fits = shr-fits w s t fits

pub bits-ashr : (w s t m i r : ℕ) → w ≤ 64 → s < 2 ^ w → m ≡ 2 ^ min w 64 - 1
    → i ≡ (if is_negative w s then m else 0) → r ≡ bit_xor s i / 2 ^ t
    → val.Bits w (bit_xor r i) ≡ bits w (ashr w s t)
bits-ashr w s t m i r narrow fits ones inverted right =
    let places = inverted ∙ ap (λ k. if is_negative w s then k else 0) (ones ∙ mask-narrow w narrow) in
    ap (λ n. val.Bits w (bit_xor n i)) right
    ∙ ap (val.Bits w) (shifted-code w s t i (is_negative w s) fits places)
    ∙ bits-fits w (ashr w s t) (shifted-fits w s t (is_negative w s) fits)

-- ---- bit-vectors made longer

-- the ones of a word above w bits
above : (w s : ℕ) → w ≤ 64 → s < 2 ^ w → bit_or s (2 ^ 64 - 1 - (2 ^ w - 1)) ≡ s + (2 ^ 64 - 2 ^ w)
above w s narrow fits =
    let ones : 2 ^ 64 - 1 - (2 ^ w - 1) ≡ 2 ^ 64 - 2 ^ w = omega (arith, pow_pos w) in
    let high = ap (λ k. 2 ^ k - 2 ^ w) (sym (split w narrow)) ∙ high_ones (64 - w) w in
    ap (bit_or s) (ones ∙ high) ∙ or_comm s ((2 ^ (64 - w) - 1) * 2 ^ w) ∙ or_shifted (2 ^ (64 - w) - 1) w s fits
    ∙ add_comm ((2 ^ (64 - w) - 1) * 2 ^ w) s ∙ ap (λ n. s + n) (sym high)

extended : (w v s x : ℕ) (b : Bool) → w ≤ v → v ≤ 64 → s < 2 ^ w
    → x ≡ (if b then 2 ^ 64 - 1 - (2 ^ w - 1) else 0)
    → bits v (bit_or s x) ≡ bits v (if b then s + (2 ^ v - 2 ^ w) else s)
extended w v s x true longer narrow fits e =
    ap (λ k. bits v (bit_or s k)) e ∙ ap (bits v) (above w s (omega arith) fits)
    ∙ sym (bits-word v (s + (2 ^ 64 - 2 ^ w)) narrow) ∙ bits-sub v s (2 ^ w) narrow (powers w v longer)
extended w v s x false longer narrow fits e = ap (λ k. bits v (bit_or s k)) e ∙ ap (bits v) (or_zero_r s)

pub bits-sign_extended : (w v s m x : ℕ) → w ≤ v → v ≤ 64 → s < 2 ^ w → m ≡ 2 ^ min w 64 - 1
    → x ≡ (if is_negative w s then 2 ^ 64 - 1 - m else 0) → bits v (bit_or s x) ≡ bits v (sign_extended w v s)
bits-sign_extended w v s m x longer narrow fits ones e =
    extended w v s x (is_negative w s) longer narrow fits
    (e ∙ ap (λ k. if is_negative w s then 2 ^ 64 - 1 - k else 0) (ones ∙ mask-narrow w (omega arith)))

-- a number of w bits shifted left by v places, where both fit a word
raised : (w v s : ℕ) → w + v ≤ 64 → s < 2 ^ w → s * 2 ^ (v % 64) % 2 ^ 64 ≡ s * 2 ^ v
raised w v s narrow fits = ⊎_elim
    (λ less. ap (λ k. s * 2 ^ k % 2 ^ 64) (mod-eq_of_lt less) ∙ shl_whole s w v 64 fits narrow)
    (λ whole.
    let empty : w ≡ 0 = omega arith in
    let none : s ≡ 0 = omega (arith, subst (λ k. s < 2 ^ k) empty fits) in
    ap (λ n. n * 2 ^ (v % 64) % 2 ^ 64) none ∙ ap (λ n. n % 2 ^ 64) (zero-mul (2 ^ (v % 64))) ∙ sym (zero-mul (2 ^ v))
    ∙ sym (ap (λ n. n * 2 ^ v) none))
    (cases_lt v 64)

-- and a number of v bits put below it
pub joined : (w v s t n : ℕ) → w + v ≤ 64 → s < 2 ^ w → t < 2 ^ v → n ≡ s * 2 ^ (v % 64) % 2 ^ 64
    → bit_or n t ≡ s * 2 ^ v + t
joined w v s t n narrow fits low e = ap (λ k. bit_or k t) (e ∙ raised w v s narrow fits) ∙ or_shifted s v t low
