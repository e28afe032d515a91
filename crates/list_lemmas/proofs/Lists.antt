-- Lists: ends, fronts, maps and lists put together.
use Rattle.std.proofs.Common.{◌≡◌, List, ◌∷◌, ◌<◌, [], length, refl, arith, ◌⊎◌, ◌++◌, ap, ◌∙◌, inl, inr, sym}
use Rattle.std.proofs.Common.{append_assoc, map, ℕ, zero, suc, ◌+◌, ◌*◌, length-append, Bool, filter, ◌≤◌, take, drop}
use Rattle.std.proofs.Common.{◌==◌, false}
use Rattle.std.proofs.lemmas.Bool.{eq-eqb, false≢true}
use Rattle.std.proofs.lemmas.List.{take_all}
use Rattle.std.proofs.lemmas.List.Elements.{filter-append}
use Rattle.std.specs.List.{flat_map, range_with_len}

pub heads : {A : Type 0} (x y : A) (xs ys : List A) → x ∷ xs ≡ y ∷ ys → x ≡ y
heads x y xs ys h = cc

pub tails : {A : Type 0} (x y : A) (xs ys : List A) → x ∷ xs ≡ y ∷ ys → xs ≡ ys
tails x y xs ys h = cc

pub empty_list : {A : Type 0} (xs : List A) → length xs < 1 → xs ≡ []
empty_list [] h = refl
empty_list (x ∷ xs) h = absurd (omega arith)

-- of two lists joined, an element stands in the first or in the second
pub append-split : {X : Type 0} (xs ys before : List X) (x : X) (after : List X) → xs ++ ys ≡ before ++ x ∷ after →
    ((more : List X) × (xs ≡ before ++ x ∷ more)) ⊎ ((front : List X) × (ys ≡ front ++ x ∷ after))
append-split [] ys before x after e = inr (before, e)
append-split (y ∷ xs) ys [] x after e = let same : y ≡ x = cc in inl (xs, ap (λ z. z ∷ xs) same)
append-split {X} (y ∷ xs) ys (z ∷ before) x after e =
    let same : y ≡ z = cc in
    let rest : xs ++ ys ≡ before ++ x ∷ after = cc in
    elim (append-split xs ys before x after rest) [
      | inl found ↦ inl (found.0, ap (λ w. w ∷ xs) same ∙ ap (λ ws. z ∷ ws) found.1)
      | inr found ↦ inr found
    ]

pub append-move : {X : Type 0} (before : List X) (x : X) (after : List X)
    → before ++ x ∷ after ≡ (before ++ x ∷ []) ++ after
append-move before x after = sym (append_assoc before (x ∷ []) after)

pub append-nothing : {B : Type 0} (xs : List B) → xs ++ [] ≡ xs
append-nothing [] = refl
append-nothing (x ∷ xs) = ap (λ ys. x ∷ ys) (append-nothing xs)

pub map-push : {A B : Type 0} (f : A → B) (xs : List A) (x : A) → map f (xs ++ x ∷ []) ≡ map f xs ++ f x ∷ []
map-push f [] x = refl
map-push f (y ∷ ys) x = ap (λ zs. f y ∷ zs) (map-push f ys x)

pub equal_blocks : {X : Type 0} (f : ℕ → List X) (each : ℕ) → ((x : ℕ) → length (f x) ≡ each) → (a n : ℕ)
    → length (flat_map f (range_with_len a n)) ≡ n * each
equal_blocks f each h a zero = omega arith
equal_blocks f each h a (suc n) =
    let first = h a in
    let more = equal_blocks f each h (a + 1) n in
    let all = length-append (f a) (flat_map f (range_with_len (a + 1) n)) in
    omega (arith, first, more, all)

pub filter-flat_map : {X Y : Type 0} (p : Y → Bool) (f : X → List Y) (xs : List X)
    → filter p (flat_map f xs) ≡ flat_map (λ x. filter p (f x)) xs
filter-flat_map p f [] = refl
filter-flat_map p f (x ∷ xs) = filter-append p (f x) (flat_map f xs)
    ∙ ap (λ ys. filter p (f x) ++ ys) (filter-flat_map p f xs)

pub same-all : {A B C : Type 0} (F : A → C) (G : B → C) (xs : List A) (ys : List B) (i : ℕ) → length xs ≤ i
    → length ys ≤ i → map F (take i xs) ≡ map G (take i ys) → map F xs ≡ map G ys
same-all F G xs ys i l k h = ap (map F) (sym (take_all i xs l)) ∙ h ∙ ap (map G) (take_all i ys k)

-- the property of each element
abbrev pub Each : {A : Type 0} → (A → Type 0) → List A → Type 0
Each P [] = Unit {0}
Each P (x ∷ xs) = P x × Each P xs

pub drop-map : {X Y : Type 0} (f : X → Y) (xs : List X) (k : ℕ) → drop k (map f xs) ≡ map f (drop k xs)
drop-map f xs zero = refl
drop-map f [] (suc k) = refl
drop-map f (x ∷ xs) (suc k) = drop-map f xs k

pub one_of_length : {X : Type 0} (xs : List X) → length xs ≡ 1 → (x : X) × (xs ≡ x ∷ [])
one_of_length [] h = absurd (omega (arith, h))
one_of_length (x ∷ []) h = (x, refl)
one_of_length (x ∷ (y ∷ ys)) h = absurd (omega (arith, h))

-- a list that a test has found not to be empty
pub not_empty : {X : Type 0} (xs : List X) (n : ℕ) → n ≡ length xs → (n == 0) ≡ false → xs ≡ [] → ⊥
not_empty xs n is test none = false≢true (sym test ∙ eq-eqb n 0 (is ∙ ap length none))
