-- Membership by recursion, for inductions.
use Rattle.std.proofs.Common.{◌≡◌, List, [], ◌∷◌, ◌⊎◌, ℕ, zero, suc, ◌<◌, length, get_or, inl, inr, arith, Contains}
use Rattle.std.proofs.Common.{Some, slice_get, ◌++◌, map, ap, refl, Bool, true, false, cond, filter, sym, ◌∙◌, subst}
use Rattle.std.proofs.Common.{◌+◌, ◌≤◌}
use Rattle.std.proofs.lemmas.Bool.{cases_lt, and_parts}
use Rattle.std.specs.List.{flat_map, range_with_len, list_all}

-- membership by recursion on the list
abbrev pub In : {X : Type 0} → List X → X → Type 0
In [] x = ⊥
In (y ∷ ys) x = (y ≡ x) ⊎ In ys x

pub In-from_at : {X : Type 0} (xs : List X) (x : X) (k : ℕ) → k < length xs → get_or xs k x ≡ x → In xs x
In-from_at [] x k l e = absurd (omega arith)
In-from_at (y ∷ ys) x zero l e = inl e
In-from_at (y ∷ ys) x (suc k) l e = inr (In-from_at ys x k (omega arith) e)

pub In-from_Contains : {X : Type 0} (xs : List X) (x : X) → Contains xs x → In xs x
In-from_Contains xs x h = In-from_at xs x h.0 h.1 h.2

pub Contains-from_In : {X : Type 0} (xs : List X) (x : X) → In xs x → Contains xs x
Contains-from_In [] x h = absurd h
Contains-from_In (y ∷ ys) x (inl e) = (0, omega arith, e)
Contains-from_In (y ∷ ys) x (inr h) = let c = Contains-from_In ys x h in (suc c.0, omega arith, c.2)

pub In-slice_get : {X : Type 0} (xs : List X) (k : ℕ) (x : X) → slice_get xs k ≡ Some x → In xs x
In-slice_get [] k x e = absurd (cc)
In-slice_get (y ∷ ys) zero x e = inl (cc)
In-slice_get (y ∷ ys) (suc k) x e = inr (In-slice_get ys k x e)

pub In-append_left : {X : Type 0} (xs ys : List X) (x : X) → In xs x → In (xs ++ ys) x
In-append_left [] ys x h = absurd h
In-append_left (z ∷ xs) ys x (inl e) = inl e
In-append_left (z ∷ xs) ys x (inr h) = inr (In-append_left xs ys x h)

pub In-append_right : {X : Type 0} (xs ys : List X) (x : X) → In ys x → In (xs ++ ys) x
In-append_right [] ys x h = h
In-append_right (z ∷ xs) ys x h = inr (In-append_right xs ys x h)

pub In-append_cases : {X : Type 0} (xs ys : List X) (x : X) → In (xs ++ ys) x → In xs x ⊎ In ys x
In-append_cases [] ys x h = inr h
In-append_cases (z ∷ xs) ys x (inl e) = inl (inl e)
In-append_cases (z ∷ xs) ys x (inr h) = elim (In-append_cases xs ys x h) [ inl a ↦ inl (inr a) | inr b ↦ inr b ]

pub In-map : {X Y : Type 0} (f : X → Y) (xs : List X) (x : X) → In xs x → In (map f xs) (f x)
In-map f [] x h = absurd h
In-map f (z ∷ xs) x (inl e) = inl (ap f e)
In-map f (z ∷ xs) x (inr h) = inr (In-map f xs x h)

pub In_of_map : {X Y : Type 0} (f : X → Y) (xs : List X) (y : Y) → In (map f xs) y → (x : X) × In xs x × (f x ≡ y)
In_of_map f [] y h = absurd h
In_of_map f (z ∷ xs) y (inl e) = (z, inl refl, e)
In_of_map f (z ∷ xs) y (inr h) = let r = In_of_map f xs y h in (r.0, inr r.1, r.2)

-- what a filter keeps
pub In-cond : {X : Type 0} (b : Bool) (z : X) (xs : List X) (x : X) → In (cond b (z ∷ xs) xs) x
    → ((z ≡ x) × (b ≡ true)) ⊎ In xs x
In-cond true z xs x (inl e) = inl (e, refl)
In-cond true z xs x (inr h) = inr h
In-cond false z xs x h = inr h

pub In_of_filter : {X : Type 0} (p : X → Bool) (xs : List X) (x : X) → In (filter p xs) x → In xs x × (p x ≡ true)
In_of_filter p [] x h = absurd h
In_of_filter {X} p (z ∷ xs) x h =
    elim (In-cond (p z) z (filter p xs) x h) [
      | inl a ↦ (inl a.0, ap p (sym a.0) ∙ a.1)
      | inr b ↦ (let r = In_of_filter p xs x b in (inr r.0, r.1))
    ]

pub In-filter : {X : Type 0} (p : X → Bool) (xs : List X) (x : X) → In xs x → p x ≡ true → In (filter p xs) x
In-filter p [] x h t = absurd h
In-filter p (z ∷ xs) x (inl e) t = let u : p z ≡ true = ap p e ∙ t in rw u (inl e)
In-filter {X} p (z ∷ xs) x (inr h) t = keep (p z) (In-filter p xs x h t)
  where
    keep : (b : Bool) → In (filter p xs) x → In (cond b (z ∷ filter p xs) (filter p xs)) x
    keep true i = inr i
    keep false i = i

pub In_of_flat_map : {X Y : Type 0} (f : X → List Y) (xs : List X) (y : Y) → In (flat_map f xs) y
    → (x : X) × In xs x × In (f x) y
In_of_flat_map f [] y h = absurd h
In_of_flat_map f (z ∷ xs) y h =
    elim (In-append_cases (f z) (flat_map f xs) y h) [
      | inl a ↦ (z, inl refl, a)
      | inr b ↦ (let r = In_of_flat_map f xs y b in (r.0, inr r.1, r.2))
    ]

pub In-flat_map : {X Y : Type 0} (f : X → List Y) (xs : List X) (x : X) (y : Y) → In xs x → In (f x) y
    → In (flat_map f xs) y
In-flat_map f [] x y h i = absurd h
In-flat_map {X} {Y} f (z ∷ xs) x y (inl e) i =
    In-append_left (f z) (flat_map f xs) y (subst (λ w. In (f w) y) (sym e) i)
In-flat_map f (z ∷ xs) x y (inr h) i = In-append_right (f z) (flat_map f xs) y (In-flat_map f xs x y h i)

pub In_of_range : (a n x : ℕ) → In (range_with_len a n) x → (a ≤ x) × (x < a + n)
In_of_range a zero x h = absurd h
In_of_range a (suc n) x (inl e) = (omega (arith, e), omega (arith, e))
In_of_range a (suc n) x (inr h) = let r = In_of_range (a + 1) n x h in (omega (arith, r.0), omega (arith, r.1))

pub In-range : (a n x : ℕ) → a ≤ x → x < a + n → In (range_with_len a n) x
In-range a zero x l h = absurd (omega (arith, l, h))
In-range a (suc n) x l h =
    elim (cases_lt a x) [
      | inl less ↦ inr
          (In-range (a + 1) n x (omega (arith, less)) (omega (arith, h)))
      | inr more ↦ inl (omega (arith, l, more))
    ]

pub In-get_or : {X : Type 0} (xs : List X) (k : ℕ) (d : X) → k < length xs → In xs (get_or xs k d)
In-get_or [] k d l = absurd (omega arith)
In-get_or (x ∷ xs) zero d l = inl refl
In-get_or (x ∷ xs) (suc k) d l = inr (In-get_or xs k d (omega arith))

pub in_if : {X : Type 0} (b : Bool) (xs : List X) (x : X) → In (cond b xs []) x → (b ≡ true) × In xs x
in_if true xs x h = (refl, h)
in_if false xs x h = absurd h

pub if_in : {X : Type 0} (b : Bool) (xs : List X) (x : X) → b ≡ true → In xs x → In (cond b xs []) x
if_in true xs x e h = h
if_in false xs x e h = cc

pub list_all_in : {X : Type 0} (p : X → Bool) (xs : List X) (x : X) → list_all p xs ≡ true → In xs x → p x ≡ true
list_all_in p [] x h i = absurd i
list_all_in p (y ∷ ys) x h (inl e) = ap p (sym e) ∙ (and_parts (p y) (list_all p ys) h).0
list_all_in p (y ∷ ys) x h (inr i) = list_all_in p ys x (and_parts (p y) (list_all p ys) h).1 i

pub list_all_from_in : {X : Type 0} (p : X → Bool) (xs : List X) → ((x : X) → In xs x → p x ≡ true)
    → list_all p xs ≡ true
list_all_from_in p [] h = refl
list_all_from_in p (y ∷ ys) h =
    let a : p y ≡ true = h y (inl refl) in
    let b : list_all p ys ≡ true = list_all_from_in p ys (λ x i. h x (inr i)) in
    rw a b

pub in_range : (a n k : ℕ) → k < n → In (range_with_len a n) (a + k)
in_range a zero k h = absurd (omega arith)
in_range a (suc n) zero h = inl (omega arith)
in_range a (suc n) (suc k) h =
    let later : (a + 1) + k ≡ a + suc k = omega arith in
    inr (subst (In (range_with_len (a + 1) n)) later (in_range (a + 1) n k (omega arith)))

pub keeps_in : {X : Type 0} (b : Bool) (z : X) (xs : List X) (x : X) → In xs x → In (cond b (z ∷ xs) xs) x
keeps_in true z xs x h = inr h
keeps_in false z xs x h = h

pub takes_in : {X : Type 0} (b : Bool) (z : X) (xs : List X) → b ≡ true → In (cond b (z ∷ xs) xs) z
takes_in true z xs e = inl refl
takes_in false z xs e = cc
