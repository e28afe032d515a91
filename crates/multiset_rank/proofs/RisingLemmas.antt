-- The lists of multisets by their first number: how long they are, and what stands where.
use Rattle.std.proofs.Common.{◌≡◌, ℕ, zero, suc, ◌+◌, ◌-◌, ◌<◌, ◌≤◌, List, [], ◌∷◌, ◌++◌, length, map, refl, sym, ap}
use Rattle.std.proofs.Common.{◌∙◌, arith, add-one, length-append, slice_get, option_map, subst, zero-add, add-zero, inl}
use Rattle.std.proofs.Common.{inr}
use Rattle.std.proofs.lemmas.List.{length-map}
use Rattle.std.proofs.lemmas.Option.{slice_get-map}
use Rattle.std.proofs.lemmas.Bool.{cases_lt}
use Rattle.multiset_rank.specs.Rising.{multichoose, rising}
use Rattle.multiset_rank.proofs.CountLemmas.{multichoose-zero, multichoose-none, multichoose-more}
use Rattle.list_lemmas.proofs.Lookups.{slice_get-append_left, slice_get-append_right}

pub rising-zero : (k n : ℕ) → rising k n 0 ≡ [] ∷ []
unfolding rising
rising-zero k n = refl

pub rising-none : (k s : ℕ) → rising k 0 (suc s) ≡ []
unfolding rising
rising-none k s = refl

pub rising-more : (k n s : ℕ)
    → rising k (suc n) (suc s) ≡ map (λ xs. k ∷ xs) (rising k (suc n) s) ++ rising (k + 1) n (suc s)
unfolding rising
rising-more k n s = refl

length-parts : (k n s a b : ℕ) → length (rising k (suc n) s) ≡ a → length (rising (k + 1) n (suc s)) ≡ b
    → length (rising k (suc n) (suc s)) ≡ a + b
length-parts k n s a b e g =
    ap length (rising-more k n s)
    ∙ length-append (map (λ (xs : List ℕ). k ∷ xs) (rising k (suc n) s)) (rising (k + 1) n (suc s))
    ∙ (λ i. (length-map (rising k (suc n) s) (λ (xs : List ℕ). k ∷ xs) ∙ e) i + g i)

pub length-rising : (k n s : ℕ) → length (rising k n s) ≡ multichoose n s
length-rising k n zero = ap length (rising-zero k n) ∙ sym (multichoose-zero n)
length-rising k zero (suc s) = ap length (rising-none k s) ∙ sym (multichoose-none s)
length-rising k (suc n) (suc s) =
    length-parts k n s (multichoose (suc n) s) (multichoose n (suc s)) (length-rising k (suc n) s)
    (length-rising (k + 1) n (suc s))
    ∙ sym (multichoose-more n s)

length-begins : (k n s : ℕ) → length (map (λ (xs : List ℕ). k ∷ xs) (rising k n s)) ≡ multichoose n s
length-begins k n s = length-map (rising k n s) (λ (xs : List ℕ). k ∷ xs) ∙ length-rising k n s

-- the first ones begin with k
begins : (k n s r : ℕ) → r < multichoose (suc n) s
    → slice_get (rising k (suc n) (suc s)) r ≡ option_map (λ (xs : List ℕ). k ∷ xs) (slice_get (rising k (suc n) s) r)
begins k n s r l =
    let e = length-begins k (suc n) s in
    ap (λ xs. slice_get xs r) (rising-more k n s)
    ∙ slice_get-append_left (map (λ (xs : List ℕ). k ∷ xs) (rising k (suc n) s)) (rising (k + 1) n (suc s)) r
    (omega (arith, e))
    ∙ slice_get-map (λ (xs : List ℕ). k ∷ xs) (rising k (suc n) s) r

-- and the others with a later number
goes_later : (k n s r q : ℕ) → q ≡ multichoose (suc n) s + r
    → slice_get (rising k (suc n) (suc s)) q ≡ slice_get (rising (k + 1) n (suc s)) r
goes_later k n s r q e =
    let l = length-begins k (suc n) s in
    ap (λ xs. slice_get xs q) (rising-more k n s)
    ∙ slice_get-append_right (map (λ (xs : List ℕ). k ∷ xs) (rising k (suc n) s)) (rising (k + 1) n (suc s)) r q
    (omega (arith, e, l))

-- with a number below m, by the places and numbers of the code
pub is_below : (k m s r : ℕ) → r < multichoose (m - k) (s + 1) → k < m
is_below k m s r l = elim (cases_lt k m) [
  | inl less ↦ less
  | inr more ↦ (let e : multichoose (m - k) (s + 1) ≡ 0 = none (m - k) (s + 1) s (omega arith) (add-one s) in
      absurd (omega (arith, l, e)))
]
  where
    none : (n t u : ℕ) → n ≡ 0 → t ≡ suc u → multichoose n t ≡ 0
    none n t u e g = (λ i. multichoose (e i) (g i)) ∙ multichoose-none u

pub multichoose-split : (k m s : ℕ) → k < m
    → multichoose (m - k) (s + 1) ≡ multichoose (m - k) s + multichoose (m - (k + 1)) (s + 1)
multichoose-split k m s l =
    let e : m - k ≡ suc (m - (k + 1)) = omega arith in
    (λ i. multichoose (e i) (add-one s i)) ∙ multichoose-more (m - (k + 1)) s
    ∙ sym (λ i. multichoose (e i) s + multichoose (m - (k + 1)) (add-one s i))

pub first_stands : (k m s r : ℕ) → k < m → r < multichoose (m - k) s
    → slice_get (rising k (m - k) (s + 1)) r ≡ option_map (λ (xs : List ℕ). k ∷ xs) (slice_get (rising k (m - k) s) r)
first_stands k m s r l h =
    let e : m - k ≡ suc (m - (k + 1)) = omega arith in
    let below = subst (λ n. r < multichoose n s) e h in
    (λ i. slice_get (rising k (e i) (add-one s i)) r) ∙ begins k (m - (k + 1)) s r below
    ∙ sym (λ i. option_map (λ (xs : List ℕ). k ∷ xs) (slice_get (rising k (e i) s) r))

pub later_stands : (k m s r q : ℕ) → k < m → q ≡ multichoose (m - k) s + r
    → slice_get (rising k (m - k) (s + 1)) q ≡ slice_get (rising (k + 1) (m - (k + 1)) (s + 1)) r
later_stands k m s r q l h =
    let e : m - k ≡ suc (m - (k + 1)) = omega arith in
    let there = subst (λ n. q ≡ multichoose n s + r) e h in
    (λ i. slice_get (rising k (e i) (add-one s i)) q) ∙ goes_later k (m - (k + 1)) s r q there
    ∙ sym (λ i. slice_get (rising (k + 1) (m - (k + 1)) (add-one s i)) r)

pub multichoose_grows : (j n s : ℕ) → multichoose n s ≤ multichoose (j + n) s
multichoose_grows j n zero = let a = multichoose-zero n in let b = multichoose-zero (j + n) in rw (a, b) (omega arith)
multichoose_grows zero n (suc s) = let e = ap (λ m. multichoose m (suc s)) (zero-add n) in omega (arith, e)
multichoose_grows (suc j) n (suc s) =
    let a = multichoose_grows j n (suc s) in
    let e : suc j + n ≡ suc (j + n) = omega arith in
    let b = ap (λ m. multichoose m (suc s)) e in
    let c = multichoose-more (j + n) s in
    omega (arith, a, b, c)

-- all that begin with one of the j numbers from k on
skip_by : (j k n s d q r : ℕ) → d + multichoose n (suc s) ≡ multichoose (j + n) (suc s) → q ≡ d + r
    → slice_get (rising k (j + n) (suc s)) q ≡ slice_get (rising (k + j) n (suc s)) r
skip_by zero k n s d q r e g =
    let z : 0 + n ≡ n = zero-add n in
    let f = ap (λ m. multichoose m (suc s)) z in
    let same : q ≡ r = omega (arith, e, f, g) in
    λ i. slice_get (rising (sym (add-zero k) i) (z i) (suc s)) (same i)
skip_by (suc j) k n s d q r e g =
    let z : suc j + n ≡ suc (j + n) = omega arith in
    let f = ap (λ m. multichoose m (suc s)) z in
    let more = multichoose-more (j + n) s in
    let grows = multichoose_grows j n (suc s) in
    let rest = multichoose (j + n) (suc s) - multichoose n (suc s) in
    let there : q ≡ multichoose (suc (j + n)) s + (rest + r) = omega (arith, e, f, g, more, grows) in
    let at : k + 1 + j ≡ k + suc j = omega arith in
    (λ i. slice_get (rising k (z i) (suc s)) q) ∙ goes_later k (j + n) s (rest + r) q there
    ∙ skip_by j (k + 1) n s rest (rest + r) r (omega (arith, grows)) refl
    ∙ (λ i. slice_get (rising (at i) n (suc s)) r)

pub skipped_stands : (k x m s d q r : ℕ) → k ≤ x → x < m → d + multichoose (m - x) (s + 1) ≡ multichoose (m - k) (s + 1)
    → q ≡ d + r → slice_get (rising k (m - k) (s + 1)) q ≡ slice_get (rising x (m - x) (s + 1)) r
skipped_stands k x m s d q r l h e g =
    let a : m - k ≡ (x - k) + (m - x) = omega arith in
    let b : k + (x - k) ≡ x = omega arith in
    let f : d + multichoose (m - x) (suc s) ≡ multichoose ((x - k) + (m - x)) (suc s) =
    sym (λ i. d + multichoose (m - x) (add-one s i)) ∙ e ∙ (λ i. multichoose (a i) (add-one s i)) in
    (λ i. slice_get (rising k (a i) (add-one s i)) q) ∙ skip_by (x - k) k (m - x) s d q r f g
    ∙ (λ i. slice_get (rising (b i) (m - x) (sym (add-one s) i)) r)

pub skipped_fits : (k x m s : ℕ) → k ≤ x → x ≤ m → multichoose (m - x) s ≤ multichoose (m - k) s
skipped_fits k x m s l h =
    let a : m - k ≡ (x - k) + (m - x) = omega arith in
    let b = ap (λ n. multichoose n s) a in
    let c = multichoose_grows (x - k) (m - x) s in
    omega (arith, b, c)
