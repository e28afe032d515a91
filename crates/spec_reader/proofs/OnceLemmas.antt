-- Lists with the same members: the same tests hold of them, and where nothing stands twice their sums are the same.
use Rattle.std.proofs.Common.{◌≡◌, ℕ, ◌+◌, Bool, true, false, cond, List, [], ◌∷◌, length, refl, sym, ap}
use Rattle.std.proofs.Common.{◌∙◌, subst, arith, ⊎_elim, inl, inr}
use Rattle.std.specs.List.{flat_map, list_all, list_any, sum_by}
use Rattle.std.proofs.lemmas.Bool.{false≢true}
use Rattle.std.proofs.lemmas.List.Sums.{sum_by-cons}
use Rattle.isel_spec.specs.Memory.{each_once}
use Rattle.list_lemmas.proofs.Bools.{or-left, or-right, or-cases, same_test}
use Rattle.list_lemmas.proofs.Members.{In, In_of_flat_map, In-flat_map, list_all_in, list_all_from_in}
use Rattle.list_lemmas.proofs.Orders.{IsOrdered}

-- ---- the same members

pub record SameMembers {X : Type 0} (xs ys : List X) : Type 0 where
  pub there : (x : X) → In xs x → In ys x
  pub back : (x : X) → In ys x → In xs x

pub all-same : {X : Type 0} (p : X → Bool) (xs ys : List X) → SameMembers xs ys → list_all p xs ≡ list_all p ys
all-same p xs ys same =
    same_test (list_all p xs) (list_all p ys)
    (λ h. list_all_from_in p ys (λ x i. list_all_in p xs x h (same.back x i)))
    (λ h. list_all_from_in p xs (λ x i. list_all_in p ys x h (same.there x i)))

pub any-in : {X : Type 0} (p : X → Bool) (xs : List X) (x : X) → In xs x → p x ≡ true → list_any p xs ≡ true
any-in p [] x h e = absurd h
any-in p (y ∷ xs) x (inl s) e = or-left (p y) (list_any p xs) (ap p s ∙ e)
any-in p (y ∷ xs) x (inr h) e = or-right (p y) (list_any p xs) (any-in p xs x h e)

pub in-any : {X : Type 0} (p : X → Bool) (xs : List X) → list_any p xs ≡ true → (x : X) × In xs x × (p x ≡ true)
in-any p [] h = absurd (false≢true h)
in-any p (y ∷ xs) h =
    ⊎_elim (λ e. (y, inl refl, e)) (λ k. let w = in-any p xs k in (w.0, inr w.1, w.2))
    (or-cases (p y) (list_any p xs) h)

pub any-same : {X : Type 0} (p : X → Bool) (xs ys : List X) → SameMembers xs ys → list_any p xs ≡ list_any p ys
any-same p xs ys same =
    same_test (list_any p xs) (list_any p ys)
    (λ h. let w = in-any p xs h in any-in p ys w.0 (same.there w.0 w.1) w.2)
    (λ h. let w = in-any p ys h in any-in p xs w.0 (same.back w.0 w.1) w.2)

pub same-flat_map : {X Y : Type 0} (f : X → List Y) (xs ys : List X) → SameMembers xs ys
    → SameMembers (flat_map f xs) (flat_map f ys)
same-flat_map f xs ys same = record {
  there = λ y h. let w = In_of_flat_map f xs y h in In-flat_map f ys w.0 y (same.there w.0 w.1) w.2;
  back = λ y h. let w = In_of_flat_map f ys y h in In-flat_map f xs w.0 y (same.back w.0 w.1) w.2;
}

pub same-through : {X : Type 0} (xs ys zs : List X) → SameMembers xs ys → SameMembers ys zs → SameMembers xs zs
same-through xs ys zs a b = record {
  there = λ x h. b.there x (a.there x h);
  back = λ x h. a.back x (b.back x h);
}

-- ---- sums over lists in which nothing stands twice

abbrev pub Apart : {X : Type 0} → List X → Type 0
Apart {X} xs = IsOrdered (λ (x y : X). x ≡ y → ⊥) xs

-- the list without one of its elements
record Without {X : Type 0} (f : X → ℕ) (ts : List X) (x : X) : Type 0 where
  rest : List X
  sum : sum_by f ts ≡ f x + sum_by f rest
  fewer : (y : X) → In rest y → In ts y
  others : (y : X) → (x ≡ y → ⊥) → In ts y → In rest y
  apart : Apart ts → Apart rest
  gone : Apart ts → In rest x → ⊥

without : {X : Type 0} (f : X → ℕ) (ts : List X) (x : X) → In ts x → Without f ts x
without f [] x h = absurd h
without f (z ∷ ts) x (inl e) = record {
  rest = ts;
  sum = sum_by-cons f z ts ∙ ap (λ y. f y + sum_by f ts) e;
  fewer = λ y h. inr h;
  others = λ y n h. ⊎_elim (λ g. absurd (n (sym e ∙ g))) (λ k. k) h;
  apart = λ a. a.1;
  gone = λ a h. a.0 x h e;
}
without f (z ∷ ts) x (inr h) =
    let w = without f ts x h in
    record {
      rest = z ∷ w.rest;
      sum = omega (arith, sum_by-cons f z ts, sum_by-cons f z w.rest, w.sum);
      fewer = λ y i. ⊎_elim (λ e. inl e) (λ k. inr (w.fewer y k)) i;
      others = λ y n i. ⊎_elim (λ e. inl e) (λ k. inr (w.others y n k)) i;
      apart = λ a. (λ y i e. a.0 y (w.fewer y i) e, w.apart a.1);
      gone = λ a i. ⊎_elim (λ e. a.0 x h e) (λ k. w.gone a.1 k) i;
    }

pub same-sum : {X : Type 0} (f : X → ℕ) (xs ys : List X) → Apart xs → Apart ys → SameMembers xs ys
    → sum_by f xs ≡ sum_by f ys
same-sum f [] [] a b same = refl
same-sum f [] (y ∷ ys) a b same = absurd (same.back y (inl refl))
same-sum f (x ∷ xs) ys a b same =
    let w = without f ys x (same.there x (inl refl)) in
    let rest = same-sum f xs w.rest a.1 (w.apart b) (record {
      there = λ y i. w.others y (λ e. a.0 y i e) (same.there y (inr i));
      back = λ y i. ⊎_elim (λ e. absurd (w.gone b (subst (In w.rest) (sym e) i))) (λ k. k)
          (same.back y (w.fewer y i));
    }) in
    sum_by-cons f x xs ∙ ap (λ n. f x + n) rest ∙ sym w.sum

length-sum : {X : Type 0} (xs : List X) → length xs ≡ sum_by (λ x. 1) xs
length-sum [] = refl
length-sum {X} (x ∷ xs) = omega (arith, length-sum xs, sum_by-cons (λ (y : X). 1) x xs)

pub same-length : {X : Type 0} (xs ys : List X) → Apart xs → Apart ys → SameMembers xs ys → length xs ≡ length ys
same-length {X} xs ys a b same = length-sum xs ∙ same-sum (λ (x : X). 1) xs ys a b same ∙ sym (length-sum ys)

-- ---- each element once

-- a test that says whether two are the same
pub record Tells {A : Type 0} (same : A → A → Bool) : Type 0 where
  pub itself : (x : A) → same x x ≡ true
  pub one : (x y : A) → same x y ≡ true → x ≡ y

pub once-in : {A : Type 0} (same : A → A → Bool) (xs : List A) (x : A) → In (each_once same xs) x → In xs x
once-in same [] x h = absurd h
once-in {A} same (y ∷ xs) x h = by_test (list_any (same y) xs) (once-in same xs x) h
  where
    by_test : (b : Bool) → (In (each_once same xs) x → In xs x)
        → In (cond b (each_once same xs) (y ∷ each_once same xs)) x → In (y ∷ xs) x
    by_test true later k = inr (later k)
    by_test false later k = ⊎_elim (λ e. inl e) (λ j. inr (later j)) k

pub in-once : {A : Type 0} (same : A → A → Bool) → Tells same → (xs : List A) (x : A) → In xs x
    → In (each_once same xs) x
in-once same tells [] x h = absurd h
in-once {A} same tells (y ∷ xs) x h = by_test (list_any (same y) xs) refl (in-once same tells xs x) h
  where
    by_test : (b : Bool) → list_any (same y) xs ≡ b → (In xs x → In (each_once same xs) x) → In (y ∷ xs) x
        → In (cond b (each_once same xs) (y ∷ each_once same xs)) x
    by_test true e later i =
        ⊎_elim (λ s. let w = in-any (same y) xs e in later (subst (In xs) (sym (tells.one y w.0 w.2) ∙ s) w.1)) later i
    by_test false e later i = ⊎_elim (λ s. inl s) (λ k. inr (later k)) i

pub once-members : {A : Type 0} (same : A → A → Bool) → Tells same → (xs : List A) → SameMembers (each_once same xs) xs
once-members same tells xs = record { there = once-in same xs; back = in-once same tells xs }

pub once-apart : {A : Type 0} (same : A → A → Bool) → Tells same → (xs : List A) → Apart (each_once same xs)
once-apart same tells [] = tt
once-apart {A} same tells (y ∷ xs) = by_test (list_any (same y) xs) refl (once-apart same tells xs)
  where
    by_test : (b : Bool) → list_any (same y) xs ≡ b → Apart (each_once same xs)
        → Apart (cond b (each_once same xs) (y ∷ each_once same xs))
    by_test true e rest = rest
    by_test false e rest = (
      λ z i s. false≢true (sym e ∙ any-in (same y) xs z (once-in same xs z i)
          (ap (same y) (sym s) ∙ tells.itself y)),
      rest,
    )

-- each of the one list once are as many as the other list has, where nothing stands twice in it
pub once-length : {A : Type 0} (same : A → A → Bool) → Tells same → (xs ys : List A) → SameMembers xs ys → Apart ys
    → length (each_once same xs) ≡ length ys
once-length same tells xs ys members apart =
    same-length (each_once same xs) ys (once-apart same tells xs) apart
    (same-through (each_once same xs) xs ys (once-members same tells xs) members)

pub once-sum : {A : Type 0} (same : A → A → Bool) → Tells same → (f : A → ℕ) (xs ys : List A) → SameMembers xs ys
    → sum_by f (each_once same xs) ≡ sum_by f (each_once same ys)
once-sum same tells f xs ys members =
    same-sum f (each_once same xs) (each_once same ys) (once-apart same tells xs) (once-apart same tells ys) (record {
      there = λ x h. in-once same tells ys x (members.there x (once-in same xs x h));
      back = λ x h. in-once same tells xs x (members.back x (once-in same ys x h));
    })
