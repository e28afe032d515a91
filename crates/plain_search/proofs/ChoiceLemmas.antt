-- The choices of one element of each list: which they are, and that they stand in lexicographic order.
use Rattle.std.proofs.Common.{◌≡◌, List, [], ◌∷◌, map, refl, sym, subst, ◌∙◌, inl, inr}
use Rattle.std.specs.Cmp.Lexicographic.{slice_cmp}
use Rattle.std.specs.declared.cmp.Ordering.{Ordering}
use Rattle.std.specs.declared.cmp.Ordering.TheVariants.{Less, Equal}
use Rattle.list_lemmas.proofs.Lists.{Each}
use Rattle.list_lemmas.proofs.Members.{In, In-map, In_of_map, In-flat_map, In_of_flat_map}
use Rattle.list_lemmas.proofs.Orders.{IsOrdered, IsOrdered-flat_map, IsOrdered-map}
use Rattle.pattern_core.specs.Pattern.{Pairwise}
use Rattle.plain_search.specs.Patterns.{choices}
use Rattle.plain_search.proofs.OrderingLemmas.{Lower, then_less, then_equal}

-- ---- lists one by one

pub Pairwise-within : {A B : Type 0} (R S : A → B → Type 0) → ((x : A) (y : B) → R x y → S x y)
    → (xs : List A) (ys : List B) → Pairwise R xs ys → Pairwise S xs ys
Pairwise-within R S k [] [] h = tt
Pairwise-within R S k [] (y ∷ ys) h = absurd h
Pairwise-within R S k (x ∷ xs) [] h = absurd h
Pairwise-within R S k (x ∷ xs) (y ∷ ys) h = (k x y h.0, Pairwise-within R S k xs ys h.1)

pub maps-from_pairs : {A B C : Type 0} (F : A → C) (G : B → C) (xs : List A) (ys : List B)
    → Pairwise (λ x y. G y ≡ F x) xs ys → map G ys ≡ map F xs
maps-from_pairs F G [] [] h = refl
maps-from_pairs F G [] (y ∷ ys) h = absurd h
maps-from_pairs F G (x ∷ xs) [] h = absurd h
maps-from_pairs F G (x ∷ xs) (y ∷ ys) h =
    let rest = maps-from_pairs F G xs ys h.1 in
    λ i. h.0 i ∷ rest i

pub pairs-from_maps : {A B C : Type 0} (F : A → C) (G : B → C) (xs : List A) (ys : List B)
    → map G ys ≡ map F xs → Pairwise (λ x y. G y ≡ F x) xs ys
pairs-from_maps F G [] [] h = tt
pairs-from_maps F G [] (y ∷ ys) h = absurd (cc)
pairs-from_maps F G (x ∷ xs) [] h = absurd (cc)
pairs-from_maps F G (x ∷ xs) (y ∷ ys) h =
    let first : G y ≡ F x = cc in
    let rest : map G ys ≡ map F xs = cc in
    (first, pairs-from_maps F G xs ys rest)

-- ---- which the choices are

pub In-choices : {A B : Type 0} (F : B → List A) (bs : List B) (ys : List A) → Pairwise (λ b y. In (F b) y) bs ys
    → In (choices (map F bs)) ys
In-choices F [] [] h = inl refl
In-choices F [] (y ∷ ys) h = absurd h
In-choices F (b ∷ bs) [] h = absurd h
In-choices F (b ∷ bs) (y ∷ ys) h =
    In-flat_map (λ x. map (λ zs. x ∷ zs) (choices (map F bs))) (F b) y (y ∷ ys) h.0
    (In-map (λ zs. y ∷ zs) (choices (map F bs)) ys (In-choices F bs ys h.1))

pub In_of_choices : {A B : Type 0} (F : B → List A) (bs : List B) (ys : List A) → In (choices (map F bs)) ys
    → Pairwise (λ b y. In (F b) y) bs ys
In_of_choices F [] ys (inl e) = subst (Pairwise (λ b y. In (F b) y) []) e tt
In_of_choices F [] ys (inr h) = absurd h
In_of_choices {A} {B} F (b ∷ bs) ys h =
    let first = In_of_flat_map (λ x. map (λ zs. x ∷ zs) (choices (map F bs))) (F b) ys h in
    let rest = In_of_map (λ zs. first.0 ∷ zs) (choices (map F bs)) ys first.2 in
    let pairs : Pairwise (λ (c : B) (y : A). In (F c) y) (b ∷ bs) (first.0 ∷ rest.0) =
    (first.1, In_of_choices F bs rest.0 rest.1) in
    subst (Pairwise (λ (c : B) (y : A). In (F c) y) (b ∷ bs)) rest.2 pairs

-- ---- their order

pub IsOrdered-choices : {A : Type 0} (cmp : A → A → Ordering) → ((x : A) → cmp x x ≡ Equal) → (xss : List (List A))
    → Each (IsOrdered (Lower cmp)) xss → IsOrdered (Lower (slice_cmp cmp)) (choices xss)
IsOrdered-choices cmp same [] h = (λ y i. absurd i, tt)
IsOrdered-choices {A} cmp same (xs ∷ xss) h =
    IsOrdered-flat_map (Lower cmp) (Lower (slice_cmp cmp)) (λ x. map (λ ys. x ∷ ys) (choices xss))
    (λ x. IsOrdered-map (Lower (slice_cmp cmp)) (Lower (slice_cmp cmp)) (λ ys. x ∷ ys)
    (λ a b l. then_equal (cmp x x) (slice_cmp cmp a b) Less (same x) l) (choices xss)
    (IsOrdered-choices cmp same xss h.1))
    (λ a b u v l i j. by_first a b u v l i j) xs h.0
  where
    by_first : (a b : A) (u v : List A) → Lower cmp a b → In (map (λ ys. a ∷ ys) (choices xss)) u
        → In (map (λ ys. b ∷ ys) (choices xss)) v → Lower (slice_cmp cmp) u v
    by_first a b u v l i j =
        let r = In_of_map (λ ys. a ∷ ys) (choices xss) u i in
        let q = In_of_map (λ ys. b ∷ ys) (choices xss) v j in
        (λ k. slice_cmp cmp (sym r.2 k) (sym q.2 k)) ∙ then_less (cmp a b) (slice_cmp cmp r.0 q.0) l
