-- Places of numbers in a list in which each is there once, and that such a list of the numbers below a count is these
-- in another order.
use Rattle.std.proofs.Common.{◌≡◌, ℕ, zero, suc, ◌<◌, ◌≤◌, Bool, true, false, cond, List, [], ◌∷◌, ◌++◌, length, map}
use Rattle.std.proofs.Common.{get_or, refl, sym, ap, ◌∙◌, subst, arith, ◌⊎◌, inl, inr, slice_get, Some}
use Rattle.std.specs.Prelude.{◌==◌, nat_eq, ◌||◌}
use Rattle.std.specs.List.{list_any}
use Rattle.std.specs.List.Sorted.{IsPermutation}
use Rattle.std.proofs.lemmas.Bool.{cases_lt, eqb-true, eq-eqb}
use Rattle.std.proofs.lemmas.Grind.{same_number_lists}
use Rattle.std.proofs.lemmas.List.{length-map, get_or-map}
use Rattle.std.proofs.lemmas.List.Sorted.{IsPermutation-refl, IsPermutation-cons, IsPermutation-to_front}
use Rattle.std.proofs.lemmas.List.Sorted.{IsPermutation-middle, IsPermutation-sym, IsPermutation-trans}
use Rattle.std.proofs.lemmas.List.Sorted.{length_permutation}
use Rattle.std.proofs.lemmas.Option.{same_Some, none-some, slice_get-get_or, get_or_from_slice_get}
use Rattle.pattern_core.specs.Walk.{below}
use Rattle.pattern_core.specs.Renaming.{place_of}
use Rattle.pattern_core.proofs.WalkLemmas.{length-below}
use Rattle.list_lemmas.proofs.Bools.{false_unless, or-cases}
use Rattle.list_lemmas.proofs.Numbers.{equal-or-not}
use Rattle.list_lemmas.proofs.Lookups.{slice_get-append_left, slice_get-at_end}
use Rattle.list_lemmas.proofs.Members.{In, In-slice_get, In-append_left, In-append_right, In-append_cases}

-- ---- lists in which each number is there once

abbrev pub IsOnce : List ℕ → Type 0
IsOnce [] = Unit {0}
IsOnce (x ∷ xs) = (In xs x → ⊥) × IsOnce xs

pub In-push_cases : (xs : List ℕ) (x k : ℕ) → In (xs ++ x ∷ []) k → In xs k ⊎ (x ≡ k)
In-push_cases xs x k h = elim (In-append_cases xs (x ∷ []) k h) [
  | inl a ↦ inl a
  | inr b ↦ elim b [ inl e ↦ inr e | inr none ↦ absurd none ]
]

pub IsOnce-push : (xs : List ℕ) (x : ℕ) → IsOnce xs → (In xs x → ⊥) → IsOnce (xs ++ x ∷ [])
IsOnce-push [] x once new = (λ h. h, tt)
IsOnce-push (y ∷ ys) x once new = (
  λ h. elim (In-push_cases ys x y h) [ inl a ↦ once.0 a | inr e ↦ new (inl (sym e)) ],
  IsOnce-push ys x once.1 (λ h. new (inr h)),
)

pub In-from_any : (x : ℕ) (xs : List ℕ) → list_any (nat_eq x) xs ≡ true → In xs x
In-from_any x [] h = absurd (cc)
In-from_any x (y ∷ ys) h = elim (or-cases (nat_eq x y) (list_any (nat_eq x) ys) h) [
  | inl t ↦ inl (sym (eqb-true x y t))
  | inr r ↦ inr (In-from_any x ys r)
]

pub any-from_In : (x : ℕ) (xs : List ℕ) → In xs x → list_any (nat_eq x) xs ≡ true
any-from_In x [] h = absurd h
any-from_In x (y ∷ ys) (inl e) = ap (λ b. b || list_any (nat_eq x) ys) (eq-eqb x y (sym e))
any-from_In x (y ∷ ys) (inr h) = or-last (nat_eq x y) (list_any (nat_eq x) ys) (any-from_In x ys h)
  where
    or-last : (a b : Bool) → b ≡ true → (a || b) ≡ true
    or-last true b e = refl
    or-last false b e = e

-- ---- places

here : (y : ℕ) (ys : List ℕ) (x : ℕ) → x ≡ y → place_of (y ∷ ys) x ≡ zero
here y ys x e = ap (λ b. cond b zero (suc (place_of ys x))) (eq-eqb x y e)

later : (y : ℕ) (ys : List ℕ) (x : ℕ) → (x ≡ y → ⊥) → place_of (y ∷ ys) x ≡ suc (place_of ys x)
later y ys x differs =
    ap (λ b. cond b zero (suc (place_of ys x))) (false_unless (x == y) (λ t. differs (eqb-true x y t)))

there-cons : (y : ℕ) (ys : List ℕ) (x : ℕ) → In (y ∷ ys) x → (In ys x → slice_get ys (place_of ys x) ≡ Some x)
    → (x ≡ y) ⊎ (x ≡ y → ⊥) → slice_get (y ∷ ys) (place_of (y ∷ ys) x) ≡ Some x
there-cons y ys x h rest (inl e) = ap (slice_get (y ∷ ys)) (here y ys x e) ∙ ap (λ z. Some z) (sym e)
there-cons y ys x (inl e) rest (inr differs) = absurd (differs (sym e))
there-cons y ys x (inr h) rest (inr differs) = ap (slice_get (y ∷ ys)) (later y ys x differs) ∙ rest h

-- a number stands at its place
pub place_of-there : (xs : List ℕ) (x : ℕ) → In xs x → slice_get xs (place_of xs x) ≡ Some x
place_of-there [] x h = absurd h
place_of-there (y ∷ ys) x h = there-cons y ys x h (place_of-there ys x) (equal-or-not x y)

-- where each is there once, what stands at a place has that place
pub place_of-at : (xs : List ℕ) → IsOnce xs → (i x : ℕ) → slice_get xs i ≡ Some x → place_of xs x ≡ i
place_of-at [] once i x e = absurd (none-some x e)
place_of-at (y ∷ ys) once zero x e = here y ys x (sym (same_Some y x e))
place_of-at (y ∷ ys) once (suc i) x e =
    later y ys x (λ same. once.0 (subst (In ys) same (In-slice_get ys i x e))) ∙ ap suc (place_of-at ys once.1 i x e)

pub place_of-front : (xs ys : List ℕ) (x : ℕ) → In xs x → place_of (xs ++ ys) x ≡ place_of xs x
place_of-front [] ys x h = absurd h
place_of-front (z ∷ xs) ys x (inl e) = here z (xs ++ ys) x (sym e) ∙ sym (here z xs x (sym e))
place_of-front (z ∷ xs) ys x (inr h) = ap (λ k. cond (x == z) zero (suc k)) (place_of-front xs ys x h)

pub place_of-new : (xs : List ℕ) (x : ℕ) → (In xs x → ⊥) → place_of (xs ++ x ∷ []) x ≡ length xs
place_of-new [] x differs = here x [] x refl
place_of-new (y ∷ ys) x differs =
    later y (ys ++ x ∷ []) x (λ e. differs (inl (sym e))) ∙ ap suc (place_of-new ys x (λ h. differs (inr h)))

pub below-at : (n i : ℕ) → i < n → slice_get (below n) i ≡ Some i
below-at zero i l = absurd (omega (arith, l))
below-at (suc n) i l = by (cases_lt i n) (below-at n i)
  where
    by : (i < n) ⊎ (n ≤ i) → (i < n → slice_get (below n) i ≡ Some i) → slice_get (below n ++ n ∷ []) i ≡ Some i
    by (inl m) rest =
        slice_get-append_left (below n) (n ∷ []) i (subst (λ k. i < k) (sym (length-below n)) m) ∙ rest m
    by (inr m) rest =
        let same : n ≡ i = omega arith in
        slice_get-at_end (below n) n [] i (sym same ∙ sym (length-below n)) ∙ ap (λ z. Some z) same

pub In-below : (n k : ℕ) → k < n → In (below n) k
In-below n k l = In-slice_get (below n) k k (below-at n k l)

-- renamed to its places, a list is the numbers below its length
pub places-rise : (xs : List ℕ) → IsOnce xs → map (place_of xs) xs ≡ below (length xs)
places-rise xs once =
    same_number_lists (map (place_of xs) xs) (below (length xs))
    (length-map xs (place_of xs) ∙ sym (length-below (length xs))) at
  where
    at : (k : ℕ) → k < length (map (place_of xs) xs)
        → get_or (map (place_of xs) xs) k 0 ≡ get_or (below (length xs)) k 0
    at k l =
        let within : k < length xs = subst (λ n. k < n) (length-map xs (place_of xs)) l in
        get_or-map (place_of xs) xs k 0 0 within
        ∙ place_of-at xs once k (get_or xs k 0) (slice_get-get_or xs k 0 within)
        ∙ sym (get_or_from_slice_get (below (length xs)) k k 0 (below-at (length xs) k within))

-- ---- the numbers below a count in another order

cut : (xs : List ℕ) (x : ℕ) → In xs x → (front : List ℕ) × (back : List ℕ) × (xs ≡ front ++ x ∷ back)
cut [] x h = absurd h
cut (y ∷ ys) x (inl e) = ([], ys, ap (λ z. z ∷ ys) e)
cut (y ∷ ys) x (inr h) = let r = cut ys x h in (y ∷ r.0, r.1, ap (λ zs. y ∷ zs) r.2)

with_one : (front back : List ℕ) (x k : ℕ) → In (front ++ back) k → In (front ++ x ∷ back) k
with_one front back x k h = elim (In-append_cases front back k h) [
  | inl a ↦ In-append_left front (x ∷ back) k a
  | inr b ↦ In-append_right front (x ∷ back) k (inr b)
]

without_one : (front back : List ℕ) (x k : ℕ) → In (front ++ x ∷ back) k → (x ≡ k → ⊥) → In (front ++ back) k
without_one front back x k h differs = elim (In-append_cases front (x ∷ back) k h) [
  | inl a ↦ In-append_left front back k a
  | inr b ↦ elim b [ inl e ↦ absurd (differs e) | inr c ↦ In-append_right front back k c ]
]

once-without : (front back : List ℕ) (x : ℕ) → IsOnce (front ++ x ∷ back)
    → IsOnce (front ++ back) × (In (front ++ back) x → ⊥)
once-without [] back x once = (once.1, once.0)
once-without (y ∷ front) back x once =
    let r = once-without front back x once.1 in (
      (λ h. once.0 (with_one front back x y h), r.0),
      λ h. elim h [
        | inl e ↦ once.0 (In-append_right front (x ∷ back) y (inl (sym e)))
        | inr k ↦ r.1 k
      ],
    )

pub below-permuted : (n : ℕ) (xs : List ℕ) → IsOnce xs → ((k : ℕ) → In xs k → k < n) → ((k : ℕ) → k < n → In xs k)
    → IsPermutation (below n) xs
below-permuted zero [] once within all = IsPermutation-refl []
below-permuted zero (x ∷ xs) once within all = absurd (omega (arith, within x (inl refl)))
below-permuted (suc n) xs once within all =
    let c = cut xs n (all n (omega arith)) in
    let front : List ℕ = c.0 in
    let back : List ℕ = c.1 in
    let whole : xs ≡ front ++ n ∷ back = c.2 in
    let rest = once-without front back n (subst IsOnce whole once) in
    let less : (k : ℕ) → In (front ++ back) k → k < n =
    λ k h. stays_below n k (within k (subst (λ zs. In zs k) (sym whole) (with_one front back n k h)))
    (λ e. rest.1 (subst (In (front ++ back)) e h)) in
    let more : (k : ℕ) → k < n → In (front ++ back) k =
    λ k l. without_one front back n k (subst (λ zs. In zs k) whole (all k (omega (arith, l))))
    (λ e. omega (arith, l, e)) in
    let smaller : IsPermutation (below n) (front ++ back) =
    below-permuted n (front ++ back) rest.0 less more in
    subst (IsPermutation (below n ++ n ∷ [])) (sym whole)
    (IsPermutation-trans (below n ++ n ∷ []) (n ∷ below n) (front ++ n ∷ back) (IsPermutation-to_front (below n) n)
    (IsPermutation-trans (n ∷ below n) (n ∷ (front ++ back)) (front ++ n ∷ back)
    (IsPermutation-cons n (below n) (front ++ back) smaller)
    (IsPermutation-sym (front ++ n ∷ back) (n ∷ (front ++ back)) (IsPermutation-middle front n back))))
  where
    stays_below : (n k : ℕ) → k < suc n → (k ≡ n → ⊥) → k < n
    stays_below n k l differs = omega (arith, l, differs)

pub length-permuted : (n : ℕ) (xs : List ℕ) → IsPermutation (below n) xs → length xs ≡ n
length-permuted n xs h = length_permutation (below n) xs h ∙ length-below n
