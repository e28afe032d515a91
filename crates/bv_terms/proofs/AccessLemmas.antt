-- A load gives what a store put at the same addresses.
use Rattle.std.proofs.Common.{◌≡◌, ℕ, zero, suc, ◌+◌, ◌-◌, ◌*◌, ◌/◌, ◌%◌, ◌^◌, ◌<◌, ◌≤◌, List, [], ◌∷◌}
use Rattle.std.proofs.Common.{true, false, cond, nat_lt, refl, sym, ap, ◌∙◌, arith}
use Rattle.std.proofs.lemmas.Bool.Decides.{nat_tests}
use Rattle.std.proofs.lemmas.Nat.{pow-add}
use Rattle.std.proofs.Math.Arith.{mod-mul}
use Rattle.std.proofs.Math.Nat.{mod-add-mod, add-mod_left, mod-eq_of_lt, div-div-eq-div-mul, pow-suc, one-le-pow}
use Rattle.std.proofs.Math.Nat.{mod-one, div-one}
use Rattle.bv_terms.specs.declared.op.Op.TheVariants as op
use Rattle.bv_terms.specs.declared.value.Value.TheVariants as val
use Rattle.bv_terms.specs.Term.{bits}
use Rattle.bv_terms.specs.Memory.{Memory, Thing, Plain, Mem, offset, is_accessed, number_at, byte_of, stored, op_thing}

around : (top s k : ℕ) → s < top → k < top → ((s + k) % top + (top - s)) % top ≡ k
around top s k h l =
    let whole : s + k + (top - s) ≡ top + k = omega arith in
    mod-add-mod (s + k) top (top - s) ∙ ap (λ n. n % top) whole ∙ add-mod_left top k ∙ mod-eq_of_lt l

-- the address k places behind s, around the end
pub offset-at : (p s k : ℕ) → s < 2 ^ p → k < 2 ^ p → offset p s ((s + k) % 2 ^ p) ≡ k
offset-at p s k h l = around (2 ^ p) s k h l

chosen_below : (k n x y : ℕ) → k < n → cond (nat_lt k n) x y ≡ x
chosen_below k n x y h =
    let test : nat_lt k n ≡ true = grind (arith, nat_tests) in
    ap (λ b. cond b x y) test

pub byte-stored : (p n s v : ℕ) (m : Memory) → s < 2 ^ p → n ≤ 2 ^ p → (k : ℕ) → k < n
    → (stored p n s v m).byte ((s + k) % 2 ^ p) ≡ byte_of v k
byte-stored p n s v m h le k l =
    let at = (s + k) % 2 ^ p in
    ap (λ place. cond (nat_lt place n) (byte_of v place) (m.byte at)) (offset-at p s k h (omega arith))
    ∙ chosen_below k n (byte_of v k) (m.byte at) l

-- the lowest digit to the base 256, and the others
lowest_digit : (x j : ℕ) → x % 256 + 256 * (x / 256 % 256 ^ j) ≡ x % 256 ^ suc j
lowest_digit x j =
    let split = mod-mul x {m = 256 ^ j} {c = 256} (power_pos j) (omega arith) in
    omega (arith, split, ap (λ base. x % base) (pow-suc 256 j))
  where
    power_pos : (j : ℕ) → 0 < 256 ^ j
    power_pos j = one-le-pow j 256 (omega arith)

rest_digits : (v k : ℕ) → v / 256 ^ k / 256 ≡ v / 256 ^ suc k
rest_digits v k = div-div-eq-div-mul v (256 ^ k) 256 ∙ ap (λ base. v / base) (sym (pow-suc 256 k))

number-from : (p n s v : ℕ) (m : Memory) → s < 2 ^ p → n ≤ 2 ^ p → (j k : ℕ) → k + j ≡ n
    → number_at p (stored p n s v m).byte j (s + k) ≡ v / 256 ^ k % 256 ^ j
number-from p n s v m h le zero k e = sym (mod-one (v / 256 ^ k))
number-from p n s v m h le (suc j) k e =
    let next : s + k + 1 ≡ s + suc k = omega arith in
    ap (λ b. b + 256 * number_at p (stored p n s v m).byte j (s + k + 1))
    (byte-stored p n s v m h le k (omega (arith, e)))
    ∙ ap (λ at. byte_of v k + 256 * number_at p (stored p n s v m).byte j at) next
    ∙ ap (λ r. byte_of v k + 256 * r) (number-from p n s v m h le j (suc k) (omega (arith, e)))
    ∙ ap (λ x. byte_of v k + 256 * (x % 256 ^ j)) (sym (rest_digits v k))
    ∙ lowest_digit (v / 256 ^ k) j

-- what n bytes hold after the low n bytes of v were put there
pub number-stored : (p n s v : ℕ) (m : Memory) → s < 2 ^ p → n ≤ 2 ^ p
    → number_at p (stored p n s v m).byte n s ≡ v % 256 ^ n
number-stored p n s v m h le =
    let here : s + 0 ≡ s = omega arith in
    ap (number_at p (stored p n s v m).byte n) (sym here)
    ∙ number-from p n s v m h le n 0 (omega arith) ∙ ap (λ x. x % 256 ^ n) (div-one v)

bits_of_bytes : (n : ℕ) → 256 ^ n ≡ 2 ^ (8 * n)
bits_of_bytes zero = refl
bits_of_bytes (suc n) =
    let more : 8 * n + 8 ≡ 8 * suc n = omega arith in
    pow-suc 256 n ∙ ap (λ b. b * 256) (bits_of_bytes n) ∙ sym (pow-add 2 (8 * n) 8) ∙ ap (λ k. 2 ^ k) more

-- a load gives the bit-vector that was stored at its pointer
pub load-stored : (p n s v : ℕ) (m : Memory) (inputs : List Thing) → s < 2 ^ p → n ≤ 2 ^ p → v < 2 ^ (8 * n)
    → op_thing p inputs (op.MLoad n) (op_thing p inputs (op.MStore n)
    (Mem m ∷ Plain (val.Bits p s) ∷ Plain (val.Bits (8 * n) v) ∷ []) ∷ Plain (val.Bits p s) ∷ [])
    ≡ Plain (val.Bits (8 * n) v)
load-stored p n s v m inputs h le fits =
    let all : number_at p (stored p n s v m).byte n s ≡ v =
    number-stored p n s v m h le ∙ ap (λ top. v % top) (bits_of_bytes n) ∙ mod-eq_of_lt fits in
    ap (λ x. Plain (bits (8 * n) x)) all ∙ ap (λ x. Plain (val.Bits (8 * n) x)) (mod-eq_of_lt fits)

-- and the bytes at all other addresses stay
pub byte-kept : (p n s v : ℕ) (m : Memory) (a : ℕ) → is_accessed p n s a ≡ false → (stored p n s v m).byte a ≡ m.byte a
byte-kept p n s v m a other = ap (λ b. cond b (byte_of v (offset p s a)) (m.byte a)) other
