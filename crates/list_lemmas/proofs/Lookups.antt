-- What stands at a place of a list, what it contains, and what holds of all its elements.
use Rattle.list_lemmas.proofs.Bools.{false_unless, and-both}
use Rattle.list_lemmas.proofs.Lists.{empty_list, Each}
use Rattle.std.proofs.Common.{◌≡◌, ℕ, zero, suc, ◌<◌, List, [], ◌∷◌, length, slice_get, slice_set, Some, refl, arith}
use Rattle.std.proofs.Common.{◌≢◌, ap, ◌≤◌, slice_index_or, Contains, sym, ◌⊎◌, inl, inr, ⊎_elim, ◌++◌, ◌∙◌, subst}
use Rattle.std.proofs.Common.{◌+◌, drop, ◌-◌, get_or, take, slice_range, map, Bool, true, false, ◌||◌, not, nat_eq}
use Rattle.std.proofs.Common.{add-one, zero-add, add-zero, length-append, All, unwrap_or, ◌&&◌}
use Rattle.std.proofs.lemmas.Bool.{false≢true, and_parts}
use Rattle.std.proofs.lemmas.Bool.Decides.{Decides-eqb}
use Rattle.std.proofs.lemmas.Cmp.{nat_eq_equiv}
use Rattle.std.proofs.lemmas.List.{get_or_at, take_more, get_or-drop, length-drop, take_at, get_or-append-add}
use Rattle.std.proofs.lemmas.List.{at_drop_more, length-take-le}
use Rattle.std.proofs.lemmas.List.Elements.{Contains-append_right, All-contains, All-cons, All-nil}
use Rattle.std.proofs.lemmas.List.Elements.{Contains-append_cases, All-same, All-take}
use Rattle.std.proofs.lemmas.List.Folds.{list_all-append}
use Rattle.std.proofs.lemmas.List.Recursion.{or_at}
use Rattle.std.proofs.lemmas.Option.{same_Some, slice_get_within, get_or_from_slice_get, slice_get-get_or, none-some}
use Rattle.std.proofs.lemmas.Slice.Eq.{bytes_eq-Decides}
use Rattle.std.specs.List.{AllByRecursion, list_any, list_all, flat_map, range_with_len}
use Rattle.std.specs.Str.{bytes_eq}

pub slice_get-set_same : {A : Type 0} (xs : List A) (i : ℕ) (y : A) → i < length xs
    → slice_get (slice_set xs i y) i ≡ Some y
slice_get-set_same [] i y h = absurd (omega arith)
slice_get-set_same (x ∷ xs) zero y h = refl
slice_get-set_same (x ∷ xs) (suc i) y h = slice_get-set_same xs i y (omega arith)

pub slice_get-set_other : {A : Type 0} (xs : List A) (i k : ℕ) (y : A) → k ≢ i
    → slice_get (slice_set xs i y) k ≡ slice_get xs k
slice_get-set_other [] i k y h = refl
slice_get-set_other (x ∷ xs) zero zero y h = absurd (h refl)
slice_get-set_other (x ∷ xs) zero (suc k) y h = refl
slice_get-set_other (x ∷ xs) (suc i) zero y h = refl
slice_get-set_other (x ∷ xs) (suc i) (suc k) y h = slice_get-set_other xs i k y (λ e. h (ap suc e))

pub one_element : {A : Type 0} (xs : List A) (d : A) → 1 ≤ length xs → length xs < 2 → xs ≡ slice_index_or xs 0 d ∷ []
one_element [] d l h = absurd (omega arith)
one_element (x ∷ xs) d l h = ap (λ ys. x ∷ ys) (empty_list xs (omega arith))

pub two_elements : {A : Type 0} (xs : List A) (d : A) → 2 ≤ length xs → length xs < 3
    → xs ≡ slice_index_or xs 0 d ∷ slice_index_or xs 1 d ∷ []
two_elements [] d l h = absurd (omega arith)
two_elements (x ∷ xs) d l h = ap (λ ys. x ∷ ys) (one_element xs d (omega arith) (omega arith))

pub three_elements : {A : Type 0} (xs : List A) (d : A) → 3 ≤ length xs → length xs < 4
    → xs ≡ slice_index_or xs 0 d ∷ slice_index_or xs 1 d ∷ slice_index_or xs 2 d ∷ []
three_elements [] d l h = absurd (omega arith)
three_elements (x ∷ xs) d l h = ap (λ ys. x ∷ ys) (two_elements xs d (omega arith) (omega arith))

pub Contains-first : {X : Type 0} (x : X) (xs : List X) → Contains (x ∷ xs) x
Contains-first x xs = (zero, omega arith, refl)

pub Contains-later : {X : Type 0} (x y : X) (xs : List X) → Contains xs y → Contains (x ∷ xs) y
Contains-later x y xs h = Contains-append_right (x ∷ []) xs y h

pub only_one : {A : Type 0} (n name : A) → Contains (n ∷ []) name → n ≡ name
only_one n name h = sym
    (All-contains (λ x. x ≡ n) (n ∷ []) name (All-cons (λ x. x ≡ n) n [] refl (All-nil (λ x. x ≡ n))) h)

pub Contains-cases : {X : Type 0} (x y : X) (xs : List X) → Contains (x ∷ xs) y → (x ≡ y) ⊎ Contains xs y
Contains-cases x y xs h =
    ⊎_elim (λ first. inl (only_one x y first)) (λ later. inr later) (Contains-append_cases (x ∷ []) xs y h)

pub slice_get-append_left : {X : Type 0} (xs ys : List X) (i : ℕ) → i < length xs
    → slice_get (xs ++ ys) i ≡ slice_get xs i
slice_get-append_left [] ys i l = absurd (omega arith)
slice_get-append_left (x ∷ xs) ys zero l = refl
slice_get-append_left (x ∷ xs) ys (suc i) l = slice_get-append_left xs ys i (omega arith)

pub slice_get-at_end : {A : Type 0} (xs : List A) (y : A) (ys : List A) (k : ℕ) → k ≡ length xs
    → slice_get (xs ++ y ∷ ys) k ≡ Some y
slice_get-at_end [] y ys zero e = refl
slice_get-at_end [] y ys (suc k) e = absurd (omega arith)
slice_get-at_end (x ∷ xs) y ys zero e = absurd (omega arith)
slice_get-at_end (x ∷ xs) y ys (suc k) e = slice_get-at_end xs y ys k (omega arith)

-- a list, cut round the element in a place
pub record IsCut {A : Type 0} (xs : List A) (k : ℕ) (x : A) : Type 0 where
  pub front : List A
  pub back : List A
  pub whole : xs ≡ front ++ x ∷ back
  pub place : length front ≡ k

pub IsCut-at : {A : Type 0} (xs : List A) (k : ℕ) (x : A) → slice_get xs k ≡ Some x → IsCut xs k x
IsCut-at [] k x h = cc
IsCut-at (y ∷ ys) zero x h = record { front = []; back = ys; whole = ap (λ z. z ∷ ys) (same_Some y x h); place = refl }
IsCut-at (y ∷ ys) (suc k) x h =
    let rest = IsCut-at ys k x h in
    record { front = y ∷ rest.front; back = rest.back; whole = ap (λ zs. y ∷ zs) rest.whole; place = ap suc rest.place }

-- the places of a list with one more element
pub push_cases : {A : Type 0} (xs : List A) (y : A) (k : ℕ) (x : A) → slice_get (xs ++ y ∷ []) k ≡ Some x
    → ((k < length xs) × (slice_get xs k ≡ Some x)) ⊎ ((k ≡ length xs) × (y ≡ x))
push_cases [] y zero x h = inr (refl, same_Some y x h)
push_cases [] y (suc k) x h = cc
push_cases (z ∷ zs) y zero x h = inl (omega arith, h)
push_cases (z ∷ zs) y (suc k) x h =
    ⊎_elim (λ w. inl (omega (arith, w.0), w.1)) (λ w. inr (ap suc w.0, w.1)) (push_cases zs y k x h)

pub Contains-from_slice_get : {A : Type 0} (xs : List A) (k : ℕ) (x : A) → slice_get xs k ≡ Some x → Contains xs x
Contains-from_slice_get xs k x h = (k, slice_get_within xs k x h, get_or_from_slice_get xs k x x h)

pub Contains-slice_get : {A : Type 0} (xs : List A) (x : A) → Contains xs x → (k : ℕ) × (slice_get xs k ≡ Some x)
Contains-slice_get xs x w = (w.0, slice_get-get_or xs w.0 x w.1 ∙ ap Some w.2)

pub all-in-middle : {X : Type 0} (P : X → Type 0) (before : List X) (x : X) (after : List X)
    → AllByRecursion P (before ++ x ∷ after) → P x
all-in-middle P [] x after all = all.0
all-in-middle P (y ∷ before) x after all = all-in-middle P before x after all.1

pub all-append : {X : Type 0} (P : X → Type 0) (xs ys : List X) → AllByRecursion P xs → AllByRecursion P ys
    → AllByRecursion P (xs ++ ys)
all-append P [] ys first second = second
all-append P (x ∷ xs) ys first second = (first.0, all-append P xs ys first.1 second)

pub all-weaker : {X : Type 0} (P Q : X → Type 0) → ((x : X) → P x → Q x) → (xs : List X) → AllByRecursion P xs
    → AllByRecursion Q xs
all-weaker P Q weaker [] all = tt
all-weaker P Q weaker (x ∷ xs) all = (weaker x all.0, all-weaker P Q weaker xs all.1)

pub all-at : {X : Type 0} (P : X → Type 0) (xs : List X) (k : ℕ) (x : X) → AllByRecursion P xs → slice_get xs k ≡ Some x
    → P x
all-at P [] k x all e = absurd (cc)
all-at P (y ∷ xs) zero x all e = let same : y ≡ x = cc in subst P same all.0
all-at P (y ∷ xs) (suc k) x all e = all-at P xs k x all.1 e

-- the element in the middle of a list
pub slice_get-middle : {X : Type 0} (before : List X) (x : X) (after : List X) (k : ℕ) → length before ≡ k
    → slice_get (before ++ x ∷ after) k ≡ Some x
slice_get-middle before x after k e =
    slice_get-get_or (before ++ x ∷ after) k x (omega (arith, length-append before (x ∷ after)))
    ∙ ap Some (get_or_at before x after x k e)

-- the rest of a list begins with the element at its place
pub drop-head : {X : Type 0} (xs : List X) (k : ℕ) (x : X) (rest : List X) → drop k xs ≡ x ∷ rest
    → (slice_get xs k ≡ Some x) × (drop (k + 1) xs ≡ rest)
drop-head [] zero x rest e = absurd (cc)
drop-head [] (suc k) x rest e = absurd (cc)
drop-head (y ∷ xs) zero x rest e = (cc, cc)
drop-head (y ∷ xs) (suc k) x rest e =
    let here = drop-head xs k x rest e in
    let more : suc k + 1 ≡ suc (k + 1) = omega arith in
    (here.0, ap (λ n. drop n (y ∷ xs)) more ∙ here.1)

-- a part of a list with one more element
pub slice_range-more : {X : Type 0} (xs : List X) (from k : ℕ) (x : X) → from ≤ k → slice_get xs k ≡ Some x
    → slice_range xs from (k + 1) ≡ slice_range xs from k ++ x ∷ []
slice_range-more {X} xs from k x le e =
    let within : k < length xs = slice_get_within xs k x e in
    let len = length-drop from xs in
    let here : get_or (drop from xs) (k - from) x ≡ x =
    get_or-drop from xs (k - from) x ∙ ap (λ n. get_or xs n x) (omega arith) ∙ get_or_from_slice_get xs k x x e in
    ap (λ n. take n (drop from xs)) (omega arith) ∙ take_more (drop from xs) (k - from) x (omega arith)
    ∙ ap (λ y. take (k - from) (drop from xs) ++ y ∷ []) here

pub slice_range-one : {X : Type 0} (xs : List X) (k : ℕ) (x : X) → slice_get xs k ≡ Some x
    → slice_range xs k (k + 1) ≡ x ∷ []
slice_range-one xs k x e =
    let none : k - k ≡ 0 = omega arith in
    slice_range-more xs k k x (omega arith) e ∙ ap (λ n. take n (drop k xs) ++ x ∷ []) none

pub slice_range-end : {X : Type 0} (xs : List X) (from to : ℕ) → from ≤ to → to ≤ length xs
    → from + length (slice_range xs from to) ≡ to
slice_range-end xs from to le within =
    let len = length-drop from xs in
    let all : length (slice_range xs from to) ≡ to - from =
    length-take-le (to - from) (drop from xs) (omega arith) in
    omega arith

-- what an element of a list is doesn't depend on what stands past its end
pub same-element : {A : Type 0} (xs : List A) (k : ℕ) (d e : A) → k < length xs → get_or xs k d ≡ get_or xs k e
same-element xs k d e h =
    same_Some (get_or xs k d) (get_or xs k e) (sym (slice_get-get_or xs k d h) ∙ slice_get-get_or xs k e h)

pub map-contains : {A B : Type 0} (f : A → B) (xs : List A) (x : A) → Contains xs x → Contains (map f xs) (f x)
map-contains f [] x h = absurd (omega (arith, h.1))
map-contains f (y ∷ ys) x h =
    ⊎_elim (λ first. (zero, omega arith, ap f (only_one y x first)))
    (λ later. Contains-append_right (f y ∷ []) (map f ys) (f x) (map-contains f ys x later))
    (Contains-append_cases (y ∷ []) ys x h)

pub one-there : {A : Type 0} (gs : List A) (g : A) → length gs ≡ 1 → slice_get gs 0 ≡ Some g → gs ≡ g ∷ []
one-there [] g n e = absurd (none-some g e)
one-there (h ∷ []) g n e = ap (λ x. x ∷ []) (same_Some h g e)
one-there (h ∷ k ∷ gs) g n e = absurd (omega (arith, n))

pub any-there : (n : List ℕ) (ns : List (List ℕ)) → list_any (bytes_eq n) ns ≡ true → Contains ns n
any-there n [] e = absurd (false≢true e)
any-there n (m ∷ ns) e = by_first (bytes_eq n m) refl e (any-there n ns)
  where
    by_first : (b : Bool) → bytes_eq n m ≡ b → (b || list_any (bytes_eq n) ns) ≡ true
        → (list_any (bytes_eq n) ns ≡ true → Contains ns n) → Contains (m ∷ ns) n
    by_first true same e rest = (zero, omega arith, sym ((bytes_eq-Decides n m).0 same))
    by_first false same e rest = Contains-append_right (m ∷ []) ns n (rest e)

pub bytes_eq-same : (name : List ℕ) → bytes_eq name name ≡ true
bytes_eq-same name = (bytes_eq-Decides name name).1 refl

pub any_name : (name : List ℕ) (names : List (List ℕ)) → Contains names name → list_any (bytes_eq name) names ≡ true
any_name name names h =
    or_at (list_any (bytes_eq name)) (bytes_eq name) refl (λ _ _. refl) names h.0 name h.1 (rw h.2 (bytes_eq-same name))

pub contains-any : (b : Bool) (n : List ℕ) (ns : List (List ℕ)) → (b ≡ true → Contains ns n)
    → (Contains ns n → b ≡ true) → not b ≡ not (list_any (bytes_eq n) ns)
contains-any true n ns f g = ap not (sym (any_name n ns (f refl)))
contains-any false n ns f g =
    ap not (sym (false_unless (list_any (bytes_eq n) ns) (λ e. false≢true (g (any-there n ns e)))))

pub not-any : (name : List ℕ) (names : List (List ℕ)) → not (list_any (bytes_eq name) names) ≡ true
    → Contains names name
    → ⊥
not-any name names e has = false≢true (sym (ap not (any_name name names has)) ∙ e)

pub any-flip : (n : ℕ) (xs : List ℕ) → list_any (λ y. nat_eq y n) xs ≡ list_any (nat_eq n) xs
any-flip n [] = refl
any-flip n (x ∷ xs) = rw (nat_eq_equiv.symm x n, any-flip n xs) refl

pub any-contains : (n : ℕ) (xs : List ℕ) → list_any (λ y. nat_eq y n) xs ≡ true → Contains xs n
any-contains n [] e = absurd (false≢true e)
any-contains n (x ∷ xs) e = by_first (nat_eq x n) refl e (any-contains n xs)
  where
    by_first : (b : Bool) → nat_eq x n ≡ b → (b || list_any (λ y. nat_eq y n) xs) ≡ true
        → (list_any (λ y. nat_eq y n) xs ≡ true → Contains xs n) → Contains (x ∷ xs) n
    by_first true same e rest = (zero, omega arith, (Decides-eqb x n).0 same)
    by_first false same e rest = Contains-append_right (x ∷ []) xs n (rest e)

pub map-take-suc : {A B : Type 0} (f : A → B) (xs : List A) (i : ℕ) (x : A) → slice_get xs i ≡ Some x
    → map f (take (suc i) xs) ≡ map f (take i xs) ++ f x ∷ []
map-take-suc f [] i x e = absurd (none-some x e)
map-take-suc f (y ∷ xs) zero x e = ap (λ z. f z ∷ []) (same_Some y x e)
map-take-suc f (y ∷ xs) (suc i) x e = ap (λ zs. f y ∷ zs) (map-take-suc f xs i x e)

pub map-take-more : {A B : Type 0} (f : A → B) (xs : List A) (i : ℕ) (x : A) → slice_get xs i ≡ Some x
    → map f (take (i + 1) xs) ≡ map f (take i xs) ++ f x ∷ []
map-take-more f xs i x e = rw (add-one) (map-take-suc f xs i x e)

pub AllByRecursion-push : {X : Type 0} (P : X → Type 0) (xs : List X) (x : X) → AllByRecursion P xs → P x →
    AllByRecursion P (xs ++ x ∷ [])
AllByRecursion-push P [] x h p = (p, tt)
AllByRecursion-push P (y ∷ ys) x h p = (h.0, AllByRecursion-push P ys x h.1 p)

pub list_all_at : {X : Type 0} (p : X → Bool) (xs : List X) (k : ℕ) (x : X) → list_all p xs ≡ true
    → slice_get xs k ≡ Some x → p x ≡ true
list_all_at p [] k x h e = absurd (cc)
list_all_at p (y ∷ ys) zero x h e = let s : y ≡ x = cc in ap p (sym s) ∙ (and_parts (p y) (list_all p ys) h).0
list_all_at p (y ∷ ys) (suc k) x h e = list_all_at p ys k x (and_parts (p y) (list_all p ys) h).1 e

pub list_all-push : {A : Type 0} (p : A → Bool) (xs : List A) (x : A) → list_all p xs ≡ true → p x ≡ true
    → list_all p (xs ++ x ∷ []) ≡ true
list_all-push p xs x h k =
    list_all-append p xs (x ∷ []) ∙ and-both (list_all p xs) (list_all p (x ∷ [])) h (and-both (p x) true k refl)

pub slice_get-append_right : {X : Type 0} (xs ys : List X) (i j : ℕ) → j ≡ length xs + i
    → slice_get (xs ++ ys) j ≡ slice_get ys i
slice_get-append_right [] ys i j e = ap (slice_get ys) (e ∙ zero-add i)
slice_get-append_right (x ∷ xs) ys i zero e = absurd (omega (arith, e))
slice_get-append_right (x ∷ xs) ys i (suc j) e = slice_get-append_right xs ys i j (omega (arith, e))

-- blocks side by side
pub blocks_from : {X : Type 0} (f : ℕ → List X) (a s n r q : ℕ) → s < n → r < length (f (a + s))
    → q ≡ length (flat_map f (range_with_len a s)) + r
    → slice_get (flat_map f (range_with_len a n)) q ≡ slice_get (f (a + s)) r
blocks_from f a s zero r q l h e = absurd (omega (arith, l))
blocks_from f a zero (suc n) r q l h e =
    let z = add-zero a in
    let same : q ≡ r = omega (arith, e) in
    let within : q < length (f a) =
    subst (λ b. q < length (f b)) z (subst (λ t. t < length (f (a + 0))) (sym same) h) in
    slice_get-append_left (f a) (flat_map f (range_with_len (a + 1) n)) q within
    ∙ (λ i. slice_get (f (sym z i)) (same i))
blocks_from f a (suc s) (suc n) r q l h e =
    let z : a + 1 + s ≡ a + suc s = omega arith in
    let rest = length (flat_map f (range_with_len (a + 1) s)) + r in
    let more = length-append (f a) (flat_map f (range_with_len (a + 1) s)) in
    slice_get-append_right (f a) (flat_map f (range_with_len (a + 1) n)) rest q (omega (arith, e, more))
    ∙ blocks_from f (a + 1) s n r rest (omega arith) (subst (λ b. r < length (f b)) (sym z) h) refl
    ∙ ap (λ b. slice_get (f b) r) z

pub block_at : {X : Type 0} (f : ℕ → List X) (s n r q : ℕ) → s < n → r < length (f s)
    → q ≡ length (flat_map f (range_with_len 0 s)) + r
    → slice_get (flat_map f (range_with_len 0 n)) q ≡ slice_get (f s) r
block_at f s n r q l h e =
    let z = zero-add s in
    blocks_from f 0 s n r q l (subst (λ b. r < length (f b)) (sym z) h) e ∙ ap (λ b. slice_get (f b) r) z

pub mapped_at : {A B : Type 0} (F : A → B) (xs : List A) (r : ℕ) (u : B) → slice_get (map F xs) r ≡ Some u
    → (x : A) × (slice_get xs r ≡ Some x) × (F x ≡ u)
mapped_at F [] r u e = absurd (cc)
mapped_at F (x ∷ xs) zero u e = (x, refl, same_Some (F x) u e)
mapped_at F (x ∷ xs) (suc r) u e = mapped_at F xs r u e

pub some_at : {A : Type 0} (xs : List A) (k : ℕ) → k < length xs → (x : A) × (slice_get xs k ≡ Some x)
some_at [] k l = absurd (omega (arith, l))
some_at (x ∷ xs) zero l = (x, refl)
some_at (x ∷ xs) (suc k) l = some_at xs k (omega (arith, l))

pub same-suc : {A B C : Type 0} (F : A → C) (G : B → C) (xs : List A) (ys : List B) (i : ℕ) (d : A) (e : B)
    → i < length xs
    → i < length ys → F (get_or xs i d) ≡ G (get_or ys i e)
    → map F (take i xs) ≡ map G (take i ys) → map F (take (suc i) xs) ≡ map G (take (suc i) ys)
same-suc F G [] ys i d e l k s h = absurd (omega (arith, l))
same-suc F G (x ∷ xs) [] i d e l k s h = absurd (omega (arith, k))
same-suc F G (x ∷ xs) (y ∷ ys) zero d e l k s h = λ j. s j ∷ []
same-suc F G (x ∷ xs) (y ∷ ys) (suc i) d e l k s h =
    let first : F x ≡ G y = cc in
    let rest : map F (take i xs) ≡ map G (take i ys) = cc in
    let more = same-suc F G xs ys i d e (omega (arith, l)) (omega (arith, k)) s rest in
    λ j. first j ∷ more j

pub same-more : {A B C : Type 0} (F : A → C) (G : B → C) (xs : List A) (ys : List B) (i : ℕ) (d : A) (e : B)
    → i < length xs → i < length ys → F (get_or xs i d) ≡ G (get_or ys i e)
    → map F (take i xs) ≡ map G (take i ys) → map F (take (i + 1) xs) ≡ map G (take (i + 1) ys)
same-more F G xs ys i d e l k s h = let n : suc i ≡ i + 1 =
    omega arith in subst (λ m. map F (take m xs) ≡ map G (take m ys)) n (same-suc F G xs ys i d e l k s h)

pub same-at : {A B C : Type 0} (F : A → C) (G : B → C) (xs : List A) (ys : List B) (i : ℕ) (d : A) (e : B)
    → i < length xs → i < length ys → map F xs ≡ map G ys → F (get_or xs i d) ≡ G (get_or ys i e)
same-at F G [] ys i d e l k h = absurd (omega (arith, l))
same-at F G (x ∷ xs) [] i d e l k h = absurd (omega (arith, k))
same-at F G (x ∷ xs) (y ∷ ys) zero d e l k h = cc
same-at F G (x ∷ xs) (y ∷ ys) (suc i) d e l k h = let rest : map F xs ≡ map G ys =
    cc in same-at F G xs ys i d e (omega (arith, l)) (omega (arith, k)) rest

pub each_from_places : {A : Type 0} (P : A → Type 0) (xs : List A) → ((k : ℕ) (x : A) → slice_get xs k ≡ Some x → P x)
    → Each P xs
each_from_places P [] h = tt
each_from_places P (x ∷ xs) h = (h zero x refl, each_from_places P xs (λ k. h (suc k)))

pub All-front : {X : Type 0} (P : X → Type 0) (xs ys : List X) → All P (xs ++ ys) → All P xs
All-front P xs ys h = All-same P xs _ (sym (take_at xs ys (length xs) refl)) (All-take P (length xs) (xs ++ ys) h)

pub all-right : {X : Type 0} (P : X → Type 0) (xs ys : List X) → All P (xs ++ ys) → All P ys
all-right P xs ys h k d b =
    subst P (get_or-append-add xs ys k d) (h (length xs + k) d (let n = length-append xs ys in omega (arith, n, b)))

pub read-within : (xs : List Bool) (k : ℕ) → unwrap_or (slice_get xs k) false ≡ true → k < length xs
read-within [] k e = absurd (false≢true e)
read-within (x ∷ xs) zero e = omega arith
read-within (x ∷ xs) (suc k) e = let h : k < length xs = read-within xs k e in omega arith

pub slice_get-left : {A : Type 0} (xs ys : List A) (k : ℕ) (x : A) → slice_get xs k ≡ Some x →
    slice_get (xs ++ ys) k ≡ Some x
slice_get-left [] ys k x h = absurd (none-some x h)
slice_get-left (y ∷ xs) ys zero x h = h
slice_get-left (y ∷ xs) ys (suc k) x h = slice_get-left xs ys k x h

-- a place of a list with one more element
pub slice_get-push : {A : Type 0} (xs : List A) (y : A) (k : ℕ) (x : A) → slice_get (xs ++ y ∷ []) k ≡ Some x →
    (slice_get xs k ≡ Some x) ⊎ ((k ≡ length xs) × (y ≡ x))
slice_get-push [] y zero x h = inr (refl, same_Some y x h)
slice_get-push [] y (suc k) x h = absurd (none-some x h)
slice_get-push (z ∷ xs) y zero x h = inl h
slice_get-push (z ∷ xs) y (suc k) x h = by (slice_get-push xs y k x h)
  where
    by : (slice_get xs k ≡ Some x) ⊎ ((k ≡ length xs) × (y ≡ x)) →
        (slice_get xs k ≡ Some x) ⊎ ((suc k ≡ suc (length xs)) × (y ≡ x))
    by (inl e) = inl e
    by (inr e) = inr (ap suc e.0, e.1)

-- a place of a list's front
pub slice_get-front : {A : Type 0} (n : ℕ) (xs : List A) (k : ℕ) (x : A) → slice_get (take n xs) k ≡ Some x →
    (k < n) × (slice_get xs k ≡ Some x)
slice_get-front zero xs k x h = absurd (none-some x h)
slice_get-front (suc n) [] k x h = absurd (none-some x h)
slice_get-front (suc n) (y ∷ xs) zero x h = (omega arith, h)
slice_get-front (suc n) (y ∷ xs) (suc k) x h =
    let rest = slice_get-front n xs k x h in
    (omega arith, rest.1)

pub get_or_default : {X : Type 0} → (xs : List X) (k : ℕ) (d e : X) → k < length xs → get_or xs k d ≡ get_or xs k e
get_or_default xs k d e h =
    same_Some (get_or xs k d) (get_or xs k e) (sym (slice_get-get_or xs k d h) ∙ slice_get-get_or xs k e h)

pub Contains-at : (xs : List ℕ) (k d : ℕ) → k < length xs → Contains xs (get_or xs k d)
Contains-at xs k d h = (k, h, get_or_default xs k (get_or xs k d) d h)

pub slice_get-end : {A : Type 0} (xs : List A) (x : A) → slice_get (xs ++ x ∷ []) (length xs) ≡ Some x
slice_get-end [] x = refl
slice_get-end (y ∷ xs) x = slice_get-end xs x

pub All-slice_get : {A : Type 0} (P : A → Type 0) (xs : List A) (k : ℕ) (x : A) → All P xs → slice_get xs k ≡ Some x
    → P x
All-slice_get P xs k x h at = subst P (get_or_from_slice_get xs k x x at) (h k x (slice_get_within xs k x at))

-- a test of what is left, where its first element passes or fails
pub list_all_goes_on : {X : Type 0} (p : X → Bool) (xs : List X) (i : ℕ) (x : X) → i < length xs → x ≡ get_or xs i x
    → p x ≡ true → list_all p (drop i xs) ≡ list_all p (drop (i + 1) xs)
list_all_goes_on {X} p xs i x l e t =
    at_drop_more (list_all p) xs i x l ∙ ap (λ (b : Bool). b && list_all p (drop (i + 1) xs)) (ap p (sym e) ∙ t)

pub list_all_stops : {X : Type 0} (p : X → Bool) (xs : List X) (i : ℕ) (x : X) → i < length xs → x ≡ get_or xs i x
    → p x ≡ false → list_all p (drop i xs) ≡ false
list_all_stops {X} p xs i x l e t =
    at_drop_more (list_all p) xs i x l ∙ ap (λ (b : Bool). b && list_all p (drop (i + 1) xs)) (ap p (sym e) ∙ t)

-- what holds of each element holds of the one that a loop has come to
pub All-at_place : {X : Type 0} (P : X → Type 0) (xs : List X) (i : ℕ) (x : X) → i < length xs → x ≡ get_or xs i x
    → All P xs
    → P x
All-at_place P xs i x l e h = subst P (sym e) (h i x l)

pub All-one : {X : Type 0} (P : X → Type 0) (x : X) → P x → All P (x ∷ [])
All-one P x h zero d l = h
All-one P x h (suc k) d l = absurd (omega (arith, l))

pub all-map : {A B : Type 0} (P : B → Type 0) (f : A → B) (xs : List A) → AllByRecursion (λ x. P (f x)) xs
    → AllByRecursion P (map f xs)
all-map P f [] all = tt
all-map P f (x ∷ xs) all = (all.0, all-map P f xs all.1)
