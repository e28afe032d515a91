-- Numbers of combinations with repetition.
use Rattle.std.proofs.Common.{◌≡◌, ℕ, zero, suc, ◌+◌, ◌-◌, ◌*◌, ◌/◌, ◌^◌, ◌<◌, ◌≤◌, refl, sym, ap, ◌∙◌, arith, add-one}
use Rattle.std.proofs.Math.Nat.{pow-suc, pow-le-pow_right}
use Rattle.std.proofs.lemmas.Nat.{mul-le}
use Rattle.multiset_rank.specs.Binomial.{choose}
use Rattle.multiset_rank.specs.Rising.{multichoose}
use Rattle.list_lemmas.proofs.Numbers.{exact_quotient as exact}

choose_none : (n k : ℕ) → n < k → choose n k ≡ 0
unfolding choose
choose_none n zero l = absurd (omega arith)
choose_none zero (suc k) l = refl
choose_none (suc n) (suc k) l = let a = choose_none n k (omega arith) in let b = choose_none n (suc k) (omega arith) in
    omega (arith, a, b)

pub multichoose_of_choose : (n s : ℕ) → multichoose n s ≡ choose (n + s - 1) s
unfolding multichoose
multichoose_of_choose n s = refl

pub multichoose-zero : (n : ℕ) → multichoose n 0 ≡ 1
unfolding multichoose choose
multichoose-zero n = refl

pub multichoose-none : (s : ℕ) → multichoose 0 (suc s) ≡ 0
unfolding multichoose
multichoose-none s = choose_none (0 + suc s - 1) (suc s) (omega arith)

choose-suc : (n k m : ℕ) → m ≡ suc n → choose m (suc k) ≡ choose n k + choose n (suc k)
unfolding choose
choose-suc n k m e = ap (λ i. choose i (suc k)) e

-- a multiset has the first kind, or only the others
pub multichoose-more : (n s : ℕ) → multichoose (suc n) (suc s) ≡ multichoose (suc n) s + multichoose n (suc s)
unfolding multichoose
multichoose-more n s =
    let a : suc n + s - 1 ≡ n + s = omega arith in
    let b : n + suc s - 1 ≡ n + s = omega arith in
    choose-suc (n + s) s (suc n + suc s - 1) (omega arith) ∙ sym (λ i. choose (a i) s + choose (b i) (suc s))

kind_step : (n t a b c x : ℕ) → x ≡ a + b → n * a ≡ (n + t) * c → suc t * b ≡ (n + t) * c → n * x ≡ (n + suc t) * b
kind_step n t a b c x e p q = rw e (omega (arith, p, q))

size_step : (n s a b c x : ℕ) → x ≡ a + b → n * a ≡ (n + s) * c → suc s * b ≡ (n + s) * c → suc s * x ≡ (suc n + s) * a
size_step n s a b c x e p q = rw e (omega (arith, p, q))

kinds_from : (n : ℕ) → ((s : ℕ) → suc s * multichoose n (suc s) ≡ (n + s) * multichoose n s) → (s : ℕ)
    → n * multichoose (suc n) s ≡ (n + s) * multichoose n s
kinds_from n h zero = let a = multichoose-zero (suc n) in let b = multichoose-zero n in rw (a, b) (omega arith)
kinds_from n h (suc t) =
    kind_step n t (multichoose (suc n) t) (multichoose n (suc t)) (multichoose n t) (multichoose (suc n) (suc t))
    (multichoose-more n t) (kinds_from n h t) (h t)

-- from one size to the next
pub next_size : (n s : ℕ) → suc s * multichoose n (suc s) ≡ (n + s) * multichoose n s
next_size zero zero = let a = multichoose-none 0 in rw a (omega arith)
next_size zero (suc s) = let a = multichoose-none (suc s) in let b = multichoose-none s in rw (a, b) (omega arith)
next_size (suc n) s =
    size_step n s (multichoose (suc n) s) (multichoose n (suc s)) (multichoose n s) (multichoose (suc n) (suc s))
    (multichoose-more n s) (kinds_from n (next_size n) s) (next_size n s)

-- from one number of kinds to the next
pub next_kind : (n s : ℕ) → n * multichoose (suc n) s ≡ (n + s) * multichoose n s
next_kind n s = kinds_from n (next_size n) s

grows_little : (n s c x : ℕ) → n + s ≤ 70 → suc s * x ≡ (n + s) * c → x ≤ 70 * c
grows_little n s c x l e = let m : (n + s) * c ≤ 70 * c = mul-le (n + s) c 70 c l (omega arith) in omega (arith, m, e)

multichoose_below : (n s : ℕ) → n + s ≤ 71 → multichoose n s ≤ 70 ^ s
multichoose_below n zero l = let a = multichoose-zero n in rw a (omega arith)
multichoose_below n (suc s) l =
    let a = grows_little n s (multichoose n s) (multichoose n (suc s)) (omega arith) (next_size n s) in
    let b = multichoose_below n s (omega arith) in
    let c : 70 ^ suc s ≡ 70 ^ s * 70 = pow-suc 70 s in
    omega (arith, a, b, c)

-- the numbers of this crate are small
pub multichoose_small : (n s : ℕ) → n ≤ 65 → s ≤ 6 → multichoose n s ≤ 70 ^ 6
multichoose_small n s k l = let a = multichoose_below n s (omega arith) in let b : 70 ^ s ≤ 70 ^ 6 =
    pow-le-pow_right {n = 70} (omega arith) l in omega (arith, a, b)

pub next_size_exact : (n s w : ℕ) → w ≡ multichoose n s → w * (n + s) / (s + 1) ≡ multichoose n (s + 1)
next_size_exact n s w e =
    let a = next_size n s in
    rw (add-one, e) (exact (suc s) (multichoose n s * (n + s)) (multichoose n (suc s)) (omega arith) (omega (arith, a)))

pub next_kind_exact : (n s w : ℕ) → 1 ≤ n → w ≡ multichoose (n + 1) s → w * n / (n + s) ≡ multichoose n s
next_kind_exact n s w l e =
    let a = next_kind n s in
    let e' : w ≡ multichoose (suc n) s = e ∙ ap (λ m. multichoose m s) (add-one n) in
    exact (n + s) (w * n) (multichoose n s) (omega arith) (rw e' (omega (arith, a)))

pub small_ways : (n s w : ℕ) → w ≡ multichoose n s → n ≤ 65 → s ≤ 6 → w ≤ 70 ^ 6
small_ways n s w e k l = let a = multichoose_small n s k l in rw e a

pub product_fits : (w d : ℕ) → w ≤ 70 ^ 6 → d ≤ 256 → w * d < 2 ^ 64
product_fits w d l k = let a = mul-le w d (70 ^ 6) 256 l k in omega (arith, a)
