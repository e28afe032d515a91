-- Marks on variables, and the list of the marked ones.
use Rattle.std.proofs.Common.{◌≡◌, ℕ, zero, suc, ◌+◌, ◌<◌, ◌≤◌, ◌==◌, ◌||◌, Bool, true, false, List, [], ◌∷◌, ◌++◌}
use Rattle.std.proofs.Common.{refl}
use Rattle.std.proofs.Common.{sym, ap, ◌∙◌, arith, ◌⊎◌, inl, inr, take, drop, length, get_or, set, slice_get}
use Rattle.std.proofs.Common.{Some, All, subst, unwrap_or, take-take, length-take}
use Rattle.std.proofs.lemmas.Bool.{false≢true, eqb-true, eq-eqb, ne_eqb}
use Rattle.std.proofs.lemmas.Bool.Decides.{nat_tests}
use Rattle.std.proofs.lemmas.Option.{same_Some}
use Rattle.std.proofs.lemmas.List.Folds.{list_any_more, list_any-append}
use Rattle.std.proofs.Math.Bool.{or_assoc, or-false, or-true}
use Rattle.std.proofs.Math.Numerals.{add-one}
use Rattle.std.proofs.Math.Seq.{drop-cons}
use Rattle.cnf_core.specs.declared.clause.Lit.{Lit}
use Rattle.cnf_core.proofs.Sets.{same_lit-true, contains-head, contains-tail}
use Rattle.cnf_core.specs.Clause.{same_lit, contains, assigned}
use Rattle.cdcl_base.specs.Analysis.{contains_variable, contains_number, IsMarked, AreListed, IsFirstPlace, IsKept}
use Rattle.list_lemmas.proofs.Bools.{or-cases, or-left, or-right}
use Rattle.list_lemmas.proofs.Lookups.{slice_get-set_same, slice_get-set_other, read-within}
use Rattle.list_lemmas.proofs.Numbers.{equal-or-not}

-- ---- one more mark

pub assigned-set : (marks : List Bool) (k x : ℕ) → k < length marks →
    assigned (set marks k true) x ≡ (assigned marks x || (k == x))
assigned-set [] k x h = absurd (omega (arith, h))
assigned-set (m ∷ ms) zero zero h = sym (or-true m)
assigned-set (m ∷ ms) zero (suc x) h =
    let distinct : (0 == suc x) ≡ false = ne_eqb 0 (suc x) (λ e. omega (arith, e)) in
    sym (or-false (assigned ms x)) ∙ ap (λ b. assigned ms x || b) (sym distinct)
assigned-set (m ∷ ms) (suc k) zero h =
    let distinct : (suc k == 0) ≡ false = ne_eqb (suc k) 0 (λ e. omega (arith, e)) in
    sym (or-false m) ∙ ap (λ b. m || b) (sym distinct)
assigned-set (m ∷ ms) (suc k) (suc x) h =
    let same : (k == x) ≡ (suc k == suc x) = grind (arith, nat_tests) in
    assigned-set ms k x (omega (arith, h)) ∙ ap (λ b. assigned ms x || b) same

contains_variable-more : (lits : List Lit) (i x : ℕ) (d : Lit) → i < length lits →
    contains_variable (take (i + 1) lits) x ≡ (contains_variable (take i lits) x || ((get_or lits i d).variable == x))
contains_variable-more lits i x d h = list_any_more (λ (l : Lit). l.variable == x) lits i d h

-- the marks of one more literal
pub marked-next : (old mid new : List Bool) (lits : List Lit) (i v : ℕ) (l : Lit) → i < length lits →
    l ≡ get_or lits i l → v ≡ l.variable → length new ≡ length mid →
    ((x : ℕ) → assigned new x ≡ (assigned mid x || (v == x))) →
    IsMarked old (take i lits) mid → IsMarked old (take (i + 1) lits) new
marked-next old mid new lits i v l lt is e size h m = (
  size ∙ m.0,
  λ x. h x ∙ ap (λ b. b || (v == x)) (m.1 x)
      ∙ or_assoc (assigned old x) (contains_variable (take i lits) x) (v == x)
      ∙ ap (λ b. assigned old x || b)
      (ap (λ n. contains_variable (take i lits) x || (n == x)) (e ∙ ap (λ (y : Lit). y.variable) is)
      ∙ sym (contains_variable-more lits i x l lt)),
)

-- ---- numbers in lists

pub number-more : (xs : List ℕ) (i d x : ℕ) → i < length xs →
    contains_number (take (i + 1) xs) x ≡ (contains_number (take i xs) x || (get_or xs i d == x))
number-more xs i d x lt = list_any_more (λ y. y == x) xs i d lt

pub number-at : (xs : List ℕ) (i d : ℕ) → i < length xs → contains_number xs (get_or xs i d) ≡ true
number-at [] i d lt = absurd (omega (arith, lt))
number-at (x ∷ xs) zero d lt = or-left (x == x) (contains_number xs x) (eq-eqb x x refl)
number-at (x ∷ xs) (suc i) d lt =
    or-right (x == get_or xs i d) (contains_number xs (get_or xs i d)) (number-at xs i d (omega (arith, lt)))

number-pushed : (xs : List ℕ) (v x : ℕ) → contains_number (xs ++ v ∷ []) x ≡ (contains_number xs x || (v == x))
number-pushed xs v x =
    list_any-append (λ y. y == x) xs (v ∷ []) ∙ ap (λ b. contains_number xs x || b) (or-false (v == x))

number-dropped : (xs : List ℕ) (i d x : ℕ) → i < length xs →
    contains_number (drop i xs) x ≡ ((get_or xs i d == x) || contains_number (drop (i + 1) xs) x)
number-dropped xs i d x lt =
    ap (λ ys. contains_number ys x) (drop-cons xs i d lt)
    ∙ ap (λ n. (get_or xs i d == x) || contains_number (drop n xs) x) (sym (add-one i))

pub number-taken : (n : ℕ) (xs : List ℕ) (x : ℕ) → contains_number (take n xs) x ≡ true → contains_number xs x ≡ true
number-taken zero xs x h = absurd (false≢true h)
number-taken (suc n) [] x h = h
number-taken (suc n) (y ∷ ys) x h =
    by (or-cases (y == x) (contains_number (take n ys) x) h) (number-taken n ys x)
  where
    by : ((y == x) ≡ true) ⊎ (contains_number (take n ys) x ≡ true) →
        (contains_number (take n ys) x ≡ true → contains_number ys x ≡ true) → contains_number (y ∷ ys) x ≡ true
    by (inl e) ih = or-left (y == x) (contains_number ys x) e
    by (inr e) ih = or-right (y == x) (contains_number ys x) (ih e)

-- ---- the list beside the marks

pub listed-one : (marks : List Bool) (marked marked' : List ℕ) (v : ℕ) → v < length marks → marked' ≡ marked ++ v ∷ [] →
    AreListed marks marked → AreListed (set marks v true) marked'
listed-one marks marked marked' v lt e h x =
    assigned-set marks v x lt ∙ ap (λ b. b || (v == x)) (h x) ∙ sym (number-pushed marked v x)
    ∙ ap (λ xs. contains_number xs x) (sym e)

-- the listed variables are among those that can be marked
pub listed-over : (marks : List Bool) (marked : List ℕ) (n : ℕ) → length marks ≡ n → AreListed marks marked →
    All (λ x. x < n) marked
listed-over marks marked n e h k d lt =
    let within = read-within marks (get_or marked k d) (h (get_or marked k d) ∙ number-at marked k d lt) in
    omega (arith, within, e)

-- a front of a front
pub front-trans : (xs ys zs : List ℕ) → take (length xs) ys ≡ xs → take (length ys) zs ≡ ys → take (length xs) zs ≡ xs
front-trans xs ys zs e f =
    let le : length xs ≤ length ys = omega (arith, ap length e, length-take (length xs) ys) in
    sym (take-take (length xs) (length ys) zs le) ∙ ap (take (length xs)) f ∙ e

-- a mark is taken away
pub unmark-more : (marks : List Bool) (marked : List ℕ) (i d : ℕ) → i < length marked →
    get_or marked i d < length marks →
    ((x : ℕ) → assigned marks x ≡ true → contains_number (drop i marked) x ≡ true) → (x : ℕ) →
    assigned (set marks (get_or marked i d) false) x ≡ true → contains_number (drop (i + 1) marked) x ≡ true
unmark-more marks marked i d lt within h x k = by (equal-or-not x (get_or marked i d))
  where
    v : ℕ
    v = get_or marked i d

    later : ((v == x) ≡ true) ⊎ (contains_number (drop (i + 1) marked) x ≡ true) → (x ≡ v → ⊥) →
        contains_number (drop (i + 1) marked) x ≡ true
    later (inl e) ne = absurd (ne (sym (eqb-true v x e)))
    later (inr e) ne = e

    by : (x ≡ v) ⊎ (x ≡ v → ⊥) → contains_number (drop (i + 1) marked) x ≡ true
    by (inl e) =
        absurd
        (false≢true
        (sym (ap (λ o. unwrap_or o false) (slice_get-set_same marks v false within))
        ∙ ap (assigned (set marks v false)) (sym e) ∙ k))
    by (inr ne) =
        later
        (or-cases (v == x) (contains_number (drop (i + 1) marked) x)
        (sym (number-dropped marked i d x lt)
        ∙ h x (sym (ap (λ o. unwrap_or o false) (slice_get-set_other marks v x false ne)) ∙ k)))
        ne

-- ---- places of the listed variables

pub first-none : (places : List ℕ) (from end first : ℕ) → first ≡ end → IsFirstPlace places from end [] first
first-none places from end first e = record {
  within = omega (arith, e);
  lower = λ x place m at le. absurd (false≢true m);
  found = inl e;
}

pub first-more : (places : List ℕ) (from end : ℕ) (marked : List ℕ) (i d first place result : ℕ) →
    i < length marked → slice_get places (get_or marked i d) ≡ Some place → result ≤ first →
    (from ≤ place → result ≤ place) → (result ≡ first) ⊎ ((result ≡ place) × (from ≤ place)) →
    IsFirstPlace places from end (take i marked) first → IsFirstPlace places from end (take (i + 1) marked) result
first-more places from end marked i d first place result lt at bound below one f = record {
  within = (let w = f.within in omega (arith, w, bound));
  lower = λ x p m there le. lower x p there le
      (or-cases (contains_number (take i marked) x) (v == x) (sym (number-more marked i d x lt) ∙ m));
  found = found one f.found;
}
  where
    v : ℕ
    v = get_or marked i d

    lower : (x p : ℕ) → slice_get places x ≡ Some p → from ≤ p →
        (contains_number (take i marked) x ≡ true) ⊎ ((v == x) ≡ true) → result ≤ p
    lower x p there le (inl e) = let l = f.lower x p e there le in omega (arith, l, bound)
    lower x p there le (inr e) =
        let same : place ≡ p =
        same_Some place p (sym at ∙ ap (slice_get places) (eqb-true v x e) ∙ there) in
        subst (λ n. result ≤ n) same (below (subst (λ n. from ≤ n) (sym same) le))

    more : (x : ℕ) → contains_number (take i marked) x ≡ true → contains_number (take (i + 1) marked) x ≡ true
    more x m = number-more marked i d x lt ∙ or-left (contains_number (take i marked) x) (v == x) m

    found : (result ≡ first) ⊎ ((result ≡ place) × (from ≤ place)) →
        (first ≡ end) ⊎ ((x : ℕ) × (contains_number (take i marked) x ≡ true) × (slice_get places x ≡ Some first)
        × (from ≤ first)) →
        (result ≡ end) ⊎ ((x : ℕ) × (contains_number (take (i + 1) marked) x ≡ true)
        × (slice_get places x ≡ Some result) × (from ≤ result))
    found (inl e) (inl g) = inl (e ∙ g)
    found (inl e) (inr g) =
        inr (g.0, more g.0 g.1, g.2 ∙ ap (λ n. Some n) (sym e), subst (λ n. from ≤ n) (sym e) g.3)
    found (inr e) g =
        inr (
          v,
          number-more marked i d v lt
              ∙ or-right (contains_number (take i marked) v) (v == v) (eq-eqb v v refl),
          at ∙ ap (λ n. Some n) (sym e.0),
          subst (λ n. from ≤ n) (sym e.0) e.1,
        )

pub kept-none : (places : List ℕ) (end : ℕ) → IsKept places end [] 0
kept-none places end = record { upper = λ x place m at lt. absurd (false≢true m); found = inl refl }

pub kept-more : (places : List ℕ) (end : ℕ) (marked : List ℕ) (i d keep place result : ℕ) →
    i < length marked → slice_get places (get_or marked i d) ≡ Some place → keep ≤ result →
    (place < end → place < result) → (result ≡ keep) ⊎ ((result ≡ place + 1) × (place < end)) →
    IsKept places end (take i marked) keep → IsKept places end (take (i + 1) marked) result
kept-more places end marked i d keep place result lt at bound after one k = record {
  upper = λ x p m there le. upper x p there le
      (or-cases (contains_number (take i marked) x) (v == x) (sym (number-more marked i d x lt) ∙ m));
  found = found one k.found;
}
  where
    v : ℕ
    v = get_or marked i d

    upper : (x p : ℕ) → slice_get places x ≡ Some p → p < end →
        (contains_number (take i marked) x ≡ true) ⊎ ((v == x) ≡ true) → p < result
    upper x p there le (inl e) = let u = k.upper x p e there le in omega (arith, u, bound)
    upper x p there le (inr e) =
        let same : place ≡ p =
        same_Some place p (sym at ∙ ap (slice_get places) (eqb-true v x e) ∙ there) in
        subst (λ n. n < result) same (after (subst (λ n. n < end) (sym same) le))

    found : (result ≡ keep) ⊎ ((result ≡ place + 1) × (place < end)) →
        (keep ≡ 0) ⊎ ((x p : ℕ) × (contains_number (take i marked) x ≡ true) × (slice_get places x ≡ Some p)
        × (p < end) × (keep ≡ p + 1)) →
        (result ≡ 0) ⊎ ((x p : ℕ) × (contains_number (take (i + 1) marked) x ≡ true) × (slice_get places x ≡ Some p)
        × (p < end) × (result ≡ p + 1))
    found (inl e) (inl g) = inl (e ∙ g)
    found (inl e) (inr g) =
        inr (
          g.0,
          g.1,
          number-more marked i d g.0 lt ∙ or-left (contains_number (take i marked) g.0) (v == g.0) g.2,
          g.3,
          g.4,
          e ∙ g.5,
        )
    found (inr e) g =
        inr (
          v,
          place,
          number-more marked i d v lt ∙ or-right (contains_number (take i marked) v) (v == v) (eq-eqb v v refl),
          at,
          e.1,
          e.0,
        )

-- ---- variables of a clause

pub contains_variable-from : (c : List Lit) (l : Lit) → contains c l ≡ true → contains_variable c l.variable ≡ true
contains_variable-from [] l h = h
contains_variable-from (x ∷ xs) l h = by (or-cases (same_lit l x) (contains xs l) h) (contains_variable-from xs l)
  where
    by : (same_lit l x ≡ true) ⊎ (contains xs l ≡ true) →
        (contains xs l ≡ true → contains_variable xs l.variable ≡ true) →
        ((x.variable == l.variable) || contains_variable xs l.variable) ≡ true
    by (inl e) ih =
        or-left (x.variable == l.variable) (contains_variable xs l.variable)
        (eq-eqb x.variable l.variable (ap (λ (y : Lit). y.variable) (sym (same_lit-true l x e))))
    by (inr e) ih = or-right (x.variable == l.variable) (contains_variable xs l.variable) (ih e)

pub contains_variable-at : (c : List Lit) (x : ℕ) → contains_variable c x ≡ true →
    (l : Lit) × (contains c l ≡ true) × (l.variable ≡ x)
contains_variable-at [] x h = absurd (false≢true h)
contains_variable-at (y ∷ ys) x h =
    by (or-cases (y.variable == x) (contains_variable ys x) h) (contains_variable-at ys x)
  where
    by : ((y.variable == x) ≡ true) ⊎ (contains_variable ys x ≡ true) →
        (contains_variable ys x ≡ true → (l : Lit) × (contains ys l ≡ true) × (l.variable ≡ x)) →
        (l : Lit) × (contains (y ∷ ys) l ≡ true) × (l.variable ≡ x)
    by (inl e) ih = (y, contains-head y ys, eqb-true y.variable x e)
    by (inr e) ih = let found = ih e in (found.0, contains-tail y ys found.0 found.1, found.2)
