-- Orders of numbers and of lists, and lists that rise.
use Rattle.list_lemmas.proofs.Lists.{Each}
use Rattle.list_lemmas.proofs.Members.{In, In_of_filter, In_of_map, In-append_cases, In_of_flat_map, In_of_range}
use Rattle.list_lemmas.proofs.Members.{In-get_or, In-slice_get, Contains-from_In}
use Rattle.std.proofs.Common.{List, [], ◌∷◌, refl, inl, inr, Bool, true, false, cond, filter, map, subst, ◌++◌, ℕ}
use Rattle.std.proofs.Common.{◌≤◌, zero, suc, ◌+◌, ◌<◌, arith, get_or, ◌≡◌, Some, ap, slice_get, length, drop, min}
use Rattle.std.proofs.Common.{◌∙◌, sym}
use Rattle.std.proofs.lemmas.Bool.Decides.{nat_tests}
use Rattle.std.specs.Cmp.Lexicographic.{slice_cmp}
use Rattle.std.specs.List.{flat_map, range_with_len}
use Rattle.std.specs.Cmp.{ranks}
use Rattle.std.specs.Ordering.{nat_cmp, ordering_then, ordering_index, MatchOrdering}
use Rattle.std.specs.Prelude.{AllPairs}
use Rattle.std.specs.declared.cmp.Ordering.{Ordering}
use Rattle.std.specs.declared.cmp.Ordering.TheVariants.{Less, Equal, Greater}

-- each element stands in R to all that follow it
abbrev pub IsOrdered : {X : Type 0} → (X → X → Type 0) → List X → Type 0
IsOrdered R [] = Unit {0}
IsOrdered {X} R (x ∷ xs) = ((y : X) → In xs y → R x y) × IsOrdered R xs

pub IsOrdered-within : {X : Type 0} (R S : X → X → Type 0) (xs : List X)
    → ((x y : X) → In xs x → In xs y → R x y → S x y)
    → IsOrdered R xs → IsOrdered S xs
IsOrdered-within R S [] k h = tt
IsOrdered-within R S (x ∷ xs) k h =
    (λ y i. k x y (inl refl) (inr i) (h.0 y i), IsOrdered-within R S xs (λ a b i j. k a b (inr i) (inr j)) h.1)

pub IsOrdered-filter : {X : Type 0} (R : X → X → Type 0) (p : X → Bool) (xs : List X) → IsOrdered R xs
    → IsOrdered R (filter p xs)
IsOrdered-filter R p [] h = tt
IsOrdered-filter {X} R p (x ∷ xs) h = keep (p x) (IsOrdered-filter R p xs h.1)
  where
    keep : (b : Bool) → IsOrdered R (filter p xs) → IsOrdered R (cond b (x ∷ filter p xs) (filter p xs))
    keep true o = (λ y i. h.0 y (In_of_filter p xs y i).0, o)
    keep false o = o

pub IsOrdered-map : {X Y : Type 0} (R : X → X → Type 0) (S : Y → Y → Type 0) (f : X → Y)
    → ((a b : X) → R a b → S (f a) (f b)) → (xs : List X) → IsOrdered R xs → IsOrdered S (map f xs)
IsOrdered-map R S f k [] h = tt
IsOrdered-map {X} {Y} R S f k (x ∷ xs) h =
    (λ y i. let r = In_of_map f xs y i in subst (S (f x)) r.2 (k x r.0 (h.0 r.0 r.1)), IsOrdered-map R S f k xs h.1)

pub IsOrdered-append : {X : Type 0} (R : X → X → Type 0) (xs ys : List X) → IsOrdered R xs → IsOrdered R ys
    → ((x y : X) → In xs x → In ys y → R x y) → IsOrdered R (xs ++ ys)
IsOrdered-append R [] ys h k c = k
IsOrdered-append {X} R (x ∷ xs) ys h k c = (
  λ y i. elim (In-append_cases xs ys y i) [ inl a ↦ h.0 y a | inr b ↦ c x y (inl refl) b ],
  IsOrdered-append R xs ys h.1 k (λ a b i j. c a b (inr i) j),
)

-- the lists that an order of their first parts keeps apart
pub IsOrdered-flat_map : {X Y : Type 0} (R : X → X → Type 0) (S : Y → Y → Type 0) (f : X → List Y)
    → ((x : X) → IsOrdered S (f x)) → ((a b : X) (u v : Y) → R a b → In (f a) u → In (f b) v → S u v) → (xs : List X)
    → IsOrdered R xs → IsOrdered S (flat_map f xs)
IsOrdered-flat_map R S f each apart [] h = tt
IsOrdered-flat_map {X} {Y} R S f each apart (x ∷ xs) h =
    IsOrdered-append S (f x) (flat_map f xs) (each x) (IsOrdered-flat_map R S f each apart xs h.1)
    (λ u v i j. let r = In_of_flat_map f xs v j in apart x r.0 u v (h.0 r.0 r.1) i r.2)

pub IsOrdered-range : (a n : ℕ) → IsOrdered (λ x y. x < y) (range_with_len a n)
IsOrdered-range a zero = tt
IsOrdered-range a (suc n) = (λ y i. let r = In_of_range (a + 1) n y i in omega (arith, r.0), IsOrdered-range (a + 1) n)

pub AllPairs-from_ordered : {X : Type 0} (R : X → X → Type 0) (xs : List X) → IsOrdered R xs → AllPairs R xs
AllPairs-from_ordered R [] h i j d l k = absurd (omega arith)
AllPairs-from_ordered R (x ∷ xs) h zero zero d l k = absurd (omega arith)
AllPairs-from_ordered R (x ∷ xs) h zero (suc j) d l k = h.0 (get_or xs j d) (In-get_or xs j d (omega arith))
AllPairs-from_ordered R (x ∷ xs) h (suc i) zero d l k = absurd (omega arith)
AllPairs-from_ordered R (x ∷ xs) h (suc i) (suc j) d l k =
    AllPairs-from_ordered R xs h.1 i j d (omega arith) (omega arith)

pub ordered-from_AllPairs : {X : Type 0} (R : X → X → Type 0) (xs : List X) → AllPairs R xs → IsOrdered R xs
ordered-from_AllPairs R [] h = tt
ordered-from_AllPairs {X} R (x ∷ xs) h = (
  λ y i. let c = Contains-from_In xs y i in subst (R x) c.2 (h zero (suc c.0) y (omega arith) (omega arith)),
  ordered-from_AllPairs R xs (λ i j d l k. h (suc i) (suc j) d (omega arith) (omega arith)),
)

-- where nothing stands in R to itself, nothing stands twice
pub once_in_order : {X : Type 0} (R : X → X → Type 0) → ((x : X) → R x x → ⊥) → (xs : List X) (i j : ℕ) (x : X)
    → IsOrdered R xs → slice_get xs i ≡ Some x → slice_get xs j ≡ Some x → i ≡ j
once_in_order R strict [] i j x h e g = absurd (cc)
once_in_order R strict (y ∷ ys) zero zero x h e g = refl
once_in_order {X} R strict (y ∷ ys) zero (suc j) x h e g = let s : y ≡ x = cc in
    absurd (strict x (subst (λ z. R z x) s (h.0 x (In-slice_get ys j x g))))
once_in_order {X} R strict (y ∷ ys) (suc i) zero x h e g = let s : y ≡ x = cc in
    absurd (strict x (subst (λ z. R z x) s (h.0 x (In-slice_get ys i x e))))
once_in_order R strict (y ∷ ys) (suc i) (suc j) x h e g = ap suc (once_in_order R strict ys i j x h.1 e g)

-- two lists in a strict order with the same elements are the same
same_firsts : {X : Type 0} (R : X → X → Type 0) → ((x y : X) → R x y → R y x → ⊥) → (x y : X) (xs ys : List X)
    → IsOrdered R (x ∷ xs) → IsOrdered R (y ∷ ys) → In (y ∷ ys) x → In (x ∷ xs) y → x ≡ y
same_firsts R strict x y xs ys h k (inl e) g = sym e
same_firsts R strict x y xs ys h k (inr i) (inl e) = e
same_firsts R strict x y xs ys h k (inr i) (inr j) = absurd (strict x y (h.0 y j) (k.0 x i))

among_later : {X : Type 0} (R : X → X → Type 0) → ((x y : X) → R x y → R y x → ⊥) → (x y : X) (xs ys : List X) (z : X)
    → IsOrdered R (x ∷ xs) → x ≡ y → In xs z → In (y ∷ ys) z → In ys z
among_later R strict x y xs ys z h same i (inr j) = j
among_later {X} R strict x y xs ys z h same i (inl e) =
    let twice : R x x = subst (R x) (sym (same ∙ e)) (h.0 z i) in
    absurd (strict x x twice twice)

pub same_in_order : {X : Type 0} (R : X → X → Type 0) → ((x y : X) → R x y → R y x → ⊥) → (xs ys : List X)
    → IsOrdered R xs → IsOrdered R ys → ((x : X) → In xs x → In ys x) → ((x : X) → In ys x → In xs x) → xs ≡ ys
same_in_order R strict [] [] h k f g = refl
same_in_order R strict [] (y ∷ ys) h k f g = absurd (g y (inl refl))
same_in_order R strict (x ∷ xs) [] h k f g = absurd (f x (inl refl))
same_in_order {X} R strict (x ∷ xs) (y ∷ ys) h k f g =
    let first : x ≡ y = same_firsts R strict x y xs ys h k (f x (inl refl)) (g y (inl refl)) in
    let rest : xs ≡ ys = same_in_order R strict xs ys h.1 k.1
    (λ z i. among_later R strict x y xs ys z h first i (f z (inr i)))
    (λ z i. among_later R strict y x ys xs z k (sym first) i (g z (inr i))) in
    λ j. first j ∷ rest j

-- before in lexicographic order
abbrev pub Before : List ℕ → List ℕ → Type 0
Before xs ys = slice_cmp nat_cmp xs ys ≡ Less

pub nat_cmp-same : (x : ℕ) → nat_cmp x x ≡ Equal
nat_cmp-same x = grind (arith, nat_tests)

pub nat_cmp-less : (x y : ℕ) → x < y → nat_cmp x y ≡ Less
nat_cmp-less x y l = grind (arith, nat_tests)

pub Before-same_first : (x : ℕ) (xs ys : List ℕ) → Before xs ys → Before (x ∷ xs) (x ∷ ys)
Before-same_first x xs ys h = let e = nat_cmp-same x in rw e h

pub Before-first : (x y : ℕ) (xs ys : List ℕ) → x < y → Before (x ∷ xs) (y ∷ ys)
Before-first x y xs ys l = let e = nat_cmp-less x y l in rw e refl

pub slice_cmp-same : (xs : List ℕ) → slice_cmp nat_cmp xs xs ≡ Equal
slice_cmp-same [] = refl
slice_cmp-same (x ∷ xs) = let e = nat_cmp-same x in rw e (slice_cmp-same xs)

pub Before-strict : (xs : List ℕ) → Before xs xs → ⊥
Before-strict xs h = let e = slice_cmp-same xs in absurd (cc)

pub nat_cmp-suc : (m n : ℕ) → nat_cmp m n ≡ nat_cmp (suc m) (suc n)
nat_cmp-suc m n = grind (arith, nat_tests)

pub nat_cmp-zero : (n : ℕ) → Less ≡ nat_cmp 0 (suc n)
nat_cmp-zero n = grind (arith, nat_tests)

pub nat_cmp-above : (n : ℕ) → Greater ≡ nat_cmp (suc n) 0
nat_cmp-above n = grind (arith, nat_tests)

-- where one of the lists ends, the lengths decide
pub slice_cmp-ends : {A B : Type 0} (R : A → B → Ordering) (xs : List A) (ys : List B) (n : ℕ)
    → n ≡ min (length xs) (length ys) → slice_cmp R (drop n xs) (drop n ys) ≡ nat_cmp (length xs) (length ys)
slice_cmp-ends R [] [] zero e = refl
slice_cmp-ends R [] (y ∷ ys) zero e = nat_cmp-zero (length ys)
slice_cmp-ends R (x ∷ xs) [] zero e = nat_cmp-above (length xs)
slice_cmp-ends R (x ∷ xs) (y ∷ ys) zero e = absurd (omega (arith, e))
slice_cmp-ends R [] ys (suc n) e = absurd (omega (arith, e))
slice_cmp-ends R (x ∷ xs) [] (suc n) e = absurd (omega (arith, e))
slice_cmp-ends R (x ∷ xs) (y ∷ ys) (suc n) e =
    slice_cmp-ends R xs ys n (omega (arith, e)) ∙ nat_cmp-suc (length xs) (length ys)

pub then_first : (r s : Ordering) → ordering_then r s ≡ Equal → r ≡ Equal
then_first Less s e = cc
then_first Equal s e = refl
then_first Greater s e = cc

pub then_second : (r s : Ordering) → ordering_then r s ≡ Equal → s ≡ Equal
then_second Less s e = cc
then_second Equal s e = e
then_second Greater s e = cc

-- an order of elements is that of lists of them
pub same_lists : {A : Type 0} (P : A → Type 0) (R : A → A → Ordering)
    → ((x y : A) → P x → P y → R x y ≡ Equal → x ≡ y) → (xs ys : List A) → Each P xs → Each P ys
    → slice_cmp R xs ys ≡ Equal → xs ≡ ys
same_lists P R same [] [] a b e = refl
same_lists P R same [] (y ∷ ys) a b e = cc
same_lists P R same (x ∷ xs) [] a b e = cc
same_lists P R same (x ∷ xs) (y ∷ ys) a b e =
    let first = same x y a.0 b.0 (then_first (R x y) (slice_cmp R xs ys) e) in
    let rest = same_lists P R same xs ys a.1 b.1 (then_second (R x y) (slice_cmp R xs ys) e) in
    λ i. first i ∷ rest i

-- what a comparison of numbers tells
pub nat_cmp-is_less : (x y : ℕ) → nat_cmp x y ≡ Less → x < y
nat_cmp-is_less x y h = subst (λ o. MatchOrdering o (x < y) (x ≡ y) (y < x)) h (ranks x y)

pub nat_cmp-is_equal : (x y : ℕ) → nat_cmp x y ≡ Equal → x ≡ y
nat_cmp-is_equal x y h = subst (λ o. MatchOrdering o (x < y) (x ≡ y) (y < x)) h (ranks x y)

pub nat_cmp-is_greater : (x y : ℕ) → nat_cmp x y ≡ Greater → y < x
nat_cmp-is_greater x y h = subst (λ o. MatchOrdering o (x < y) (x ≡ y) (y < x)) h (ranks x y)

-- a greater number compares no lower
pub nat_cmp-rises : (a b x : ℕ) → a ≤ b → ordering_index (nat_cmp a x) ≤ ordering_index (nat_cmp b x)
nat_cmp-rises a b x le = grind (arith, nat_tests)
