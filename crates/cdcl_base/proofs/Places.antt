-- Places in lists, and where a literal stands among the first literals of a trail.
use Rattle.std.proofs.Common.{◌≡◌, ℕ, zero, suc, ◌<◌, ◌≤◌, Bool, true, false, List, [], ◌∷◌, Some, refl, subst}
use Rattle.std.proofs.Common.{sym, ap, ◌∙◌, ◌⊎◌, inl, inr, slice_get, length, take, take_all, le_refl, arith}
use Rattle.std.proofs.lemmas.Bool.{false≢true, cases_lt}
use Rattle.std.proofs.lemmas.Option.{none-some, same_Some, slice_get_within}
use Rattle.cnf_core.specs.declared.clause.Lit.{Lit}
use Rattle.cnf_core.specs.Clause.{opposite, same_lit, contains}
use Rattle.cnf_core.proofs.Sets.{same_lit-true, contains-head, contains-tail}
use Rattle.cnf_core.proofs.Sets.{opposite-opposite, opposite-differs}
use Rattle.cdcl_base.specs.Trail.{HasDistinctVariables}
use Rattle.list_lemmas.proofs.Bools.{or-cases, true-or-false}

-- ---- lists

-- ---- literals

-- a literal stands in one of the first n places
pub record Stands (lits : List Lit) (n : ℕ) (l : Lit) : Type 0 where
  pub place : ℕ
  pub before : place < n
  pub at : slice_get lits place ≡ Some l

pub place_of : (lits : List Lit) (n : ℕ) (l : Lit) → contains (take n lits) l ≡ true → Stands lits n l
place_of [] zero l h = absurd (false≢true h)
place_of [] (suc n) l h = absurd (false≢true h)
place_of (x ∷ xs) zero l h = absurd (false≢true h)
place_of (x ∷ xs) (suc n) l h = by (or-cases (same_lit l x) (contains (take n xs) l) h) (place_of xs n l)
  where
    by : (same_lit l x ≡ true) ⊎ (contains (take n xs) l ≡ true) → (contains (take n xs) l ≡ true → Stands xs n l) →
        Stands (x ∷ xs) (suc n) l
    by (inl e) ih = record { place = 0; before = omega arith; at = ap (λ y. Some y) (sym (same_lit-true l x e)) }
    by (inr e) ih = let found =
        ih e in record { place = suc found.place; before = omega (arith, found.before); at = found.at }

pub contains-from : (lits : List Lit) (n : ℕ) (l : Lit) (k : ℕ) → k < n → slice_get lits k ≡ Some l →
    contains (take n lits) l ≡ true
contains-from [] n l k h e = absurd (none-some l e)
contains-from (x ∷ xs) zero l k h e = absurd (omega (arith, h))
contains-from (x ∷ xs) (suc n) l zero h e =
    subst (λ y. contains (x ∷ take n xs) y ≡ true) (same_Some x l e) (contains-head x (take n xs))
contains-from (x ∷ xs) (suc n) l (suc k) h e =
    contains-tail x (take n xs) l (contains-from xs n l k (omega (arith, h)) e)

pub contains-more : (lits : List Lit) (m n : ℕ) (l : Lit) → m ≤ n → contains (take m lits) l ≡ true →
    contains (take n lits) l ≡ true
contains-more lits m n l h e = let found = place_of lits m l e in
    contains-from lits n l found.place (let b = found.before in omega (arith, b, h)) found.at

pub not_yet : (lits : List Lit) (m n : ℕ) (l : Lit) → m ≤ n → contains (take n lits) l ≡ false →
    contains (take m lits) l ≡ false
not_yet lits m n l h e = by (contains (take m lits) l) refl
  where
    by : (b : Bool) → contains (take m lits) l ≡ b → contains (take m lits) l ≡ false
    by true t = absurd (false≢true (sym e ∙ contains-more lits m n l h t))
    by false f = f

-- of a literal and its opposite one alone is true
pub not_both : (lits : List Lit) (n : ℕ) (l : Lit) → HasDistinctVariables lits → contains (take n lits) l ≡ true →
    contains (take n lits) (opposite l) ≡ true → ⊥
not_both lits n l c h k = by (cases_lt one.place other.place)
  where
    one : Stands lits n l
    one = place_of lits n l h

    other : Stands lits n (opposite l)
    other = place_of lits n (opposite l) k

    same : one.place ≡ other.place → ⊥
    same e = opposite-differs l (same_Some l (opposite l) (sym one.at ∙ ap (slice_get lits) e ∙ other.at))

    later : (other.place < one.place) → ⊥
    later b =
        false≢true (sym (c one.place l one.at).1 ∙ contains-from lits one.place (opposite l) other.place b other.at)

    by : (one.place < other.place) ⊎ (other.place ≤ one.place) → ⊥
    by (inl b) =
        false≢true
        (sym (c other.place (opposite l) other.at).1 ∙ ap (contains (take other.place lits)) (opposite-opposite l)
        ∙ contains-from lits other.place l one.place b one.at)
    by (inr b) = two (cases_lt other.place one.place)
      where
        two : (other.place < one.place) ⊎ (one.place ≤ other.place) → ⊥
        two (inl x) = later x
        two (inr x) = same (omega (arith, b, x))

-- ---- the whole list as its first places

contains-whole : (lits : List Lit) (l : Lit) → contains lits l ≡ true → contains (take (length lits) lits) l ≡ true
contains-whole lits l h = ap (λ xs. contains xs l) (take_all (length lits) lits (le_refl (length lits))) ∙ h

pub place_in : (lits : List Lit) (l : Lit) → contains lits l ≡ true → Stands lits (length lits) l
place_in lits l h = place_of lits (length lits) l (contains-whole lits l h)

pub contains-at : (lits : List Lit) (l : Lit) (k : ℕ) → slice_get lits k ≡ Some l → contains lits l ≡ true
contains-at lits l k e =
    ap (λ xs. contains xs l) (sym (take_all (length lits) lits (le_refl (length lits))))
    ∙ contains-from lits (length lits) l k (slice_get_within lits k l e) e

pub contains-part : (lits : List Lit) (n : ℕ) (l : Lit) → contains (take n lits) l ≡ true → contains lits l ≡ true
contains-part lits n l h = let found = place_of lits n l h in contains-at lits l found.place found.at

pub clash : (lits : List Lit) (l : Lit) → HasDistinctVariables lits → contains lits l ≡ true →
    contains lits (opposite l) ≡ true → ⊥
clash lits l c h k = not_both lits (length lits) l c (contains-whole lits l h) (contains-whole lits (opposite l) k)

-- a true literal's opposite is not
pub opposite_not_true : (lits : List Lit) (l : Lit) → HasDistinctVariables lits → contains lits l ≡ true →
    contains lits (opposite l) ≡ false
opposite_not_true lits l c h = by (true-or-false (contains lits (opposite l)))
  where
    by : (contains lits (opposite l) ≡ true) ⊎ (contains lits (opposite l) ≡ false) → contains lits (opposite l) ≡ false
    by (inl e) = absurd (clash lits l c h e)
    by (inr e) = e
