-- The learnt clause, as it is read from the list of the marked variables.
use Rattle.std.proofs.Common.{◌≡◌, ℕ, zero, suc, ◌+◌, ◌<◌, ◌≤◌, ◌==◌, ◌&&◌, ◌||◌, Bool, true, false, List, [], ◌∷◌}
use Rattle.std.proofs.Common.{◌++◌, refl, sym, ap}
use Rattle.std.proofs.Common.{◌∙◌, ◌⊎◌, inl, inr, arith, take, length, get_or, slice_get, Option, Some}
use Rattle.std.proofs.Common.{None, IfNone, IsSome, subst}
use Rattle.std.proofs.lemmas.Bool.{false≢true, eqb-true, eq-eqb}
use Rattle.std.proofs.lemmas.Option.{same_Some, slice_get_within}
use Rattle.std.proofs.Math.Bool.{or_assoc, or-false, and-false, and-or_distrib_left}
use Rattle.cnf_core.specs.declared.clause.Lit.{Lit}
use Rattle.cnf_core.specs.Clause.{opposite, same_lit, contains, assigned}
use Rattle.cnf_core.proofs.Sets.{same_lit-true, same_lit-from, contains-append, opposite-opposite}
use Rattle.cdcl_base.specs.Trail.{ArePlaces}
use Rattle.cdcl_base.specs.Analysis.{contains_number, HasPlace, AreListed, AreMarks, AreUnmarked, IsFirstPlace, IsKept}
use Rattle.cdcl_base.specs.Analysis.{IsKeptLength, IsLastMarked}
use Rattle.cdcl_base.proofs.MarkLemmas.{number-more, number-taken}
use Rattle.cdcl_base.proofs.Places.{Stands, place_of, contains-from}
use Rattle.list_lemmas.proofs.Bools.{and-both, and_left as and-left, and_right as and-right, same_test, false_unless}

-- one literal, and those that are false in the first places and whose variables are listed
abbrev pub IsCollectedBy : List ℕ → List Lit → Lit → ℕ → List Lit → Type 0
IsCollectedBy marked lits l n c = (m : Lit) →
    contains c m ≡ (same_lit m l || (contains (take n lits) (opposite m) && contains_number marked m.variable))

-- the place of a variable's literal
pub place-is : (lits : List Lit) (places : List ℕ) (x p : ℕ) → ArePlaces lits places → HasPlace lits x →
    slice_get places x ≡ Some p → (l : Lit) × (slice_get lits p ≡ Some l) × (l.variable ≡ x)
place-is lits places x p h has at =
    let there : slice_get places x ≡ Some has.place =
    ap (slice_get places) (sym has.variable) ∙ h has.place has.lit has.stands in
    let same : has.place ≡ p = same_Some has.place p (sym there ∙ at) in
    (has.lit, ap (slice_get lits) (sym same) ∙ has.stands, has.variable)

-- a literal of that variable that is false in the first places is the one in its place
same-place : (lits : List Lit) (places : List ℕ) (n p : ℕ) (l m : Lit) → ArePlaces lits places →
    slice_get lits p ≡ Some l → contains (take n lits) (opposite m) ≡ true → l.variable ≡ m.variable →
    (p < n) × (opposite m ≡ l)
same-place lits places n p l m h at is same = (
  subst (λ k. k < n) here found.before,
  same_Some (opposite m) l (sym found.at ∙ ap (slice_get lits) here ∙ at),
)
  where
    found : Stands lits n (opposite m)
    found = place_of lits n (opposite m) is

    here : found.place ≡ p
    here = same_Some found.place p
        (sym (h found.place (opposite m) found.at) ∙ ap (slice_get places) (sym same) ∙ h p l at)

pub collected-one_by : (lits : List Lit) (l : Lit) (n : ℕ) → IsCollectedBy [] lits l n (l ∷ [])
collected-one_by lits l n m = ap (λ b. same_lit m l || b) (sym (and-false (contains (take n lits) (opposite m))))

pub place-within : (lits : List Lit) (places : List ℕ) (x : ℕ) → ArePlaces lits places → HasPlace lits x →
    x < length places
place-within lits places x h has =
    subst (λ n. n < length places) has.variable
    (slice_get_within places has.lit.variable has.place (h has.place has.lit has.stands))

-- one more listed variable, whose literal stands in the first places
pub collected-more_by : (lits : List Lit) (places marked : List ℕ) (i d n p : ℕ) (l y : Lit) (c : List Lit) →
    ArePlaces lits places → HasPlace lits (get_or marked i d) → i < length marked →
    slice_get places (get_or marked i d) ≡ Some p → p < n → slice_get lits p ≡ Some y →
    IsCollectedBy (take i marked) lits l n c → IsCollectedBy (take (i + 1) marked) lits l n (c ++ opposite y ∷ [])
collected-more_by lits places marked i d n p l y c h has lt at before stands k m =
    contains-append c (opposite y ∷ []) m
    ∙ ap (λ b. contains c m || b) (or-false (same_lit m (opposite y)))
    ∙ ap (λ b. b || same_lit m (opposite y)) (k m)
    ∙ or_assoc (same_lit m l) (false_now && contains_number (take i marked) m.variable) (same_lit m (opposite y))
    ∙ ap (λ b. same_lit m l || ((false_now && contains_number (take i marked) m.variable) || b)) same
    ∙ ap (λ b. same_lit m l || b)
    (sym
    (ap (λ b. false_now && b) (number-more marked i d m.variable lt)
    ∙ and-or_distrib_left false_now (contains_number (take i marked) m.variable) (v == m.variable)))
  where
    v : ℕ
    v = get_or marked i d

    false_now : Bool
    false_now = contains (take n lits) (opposite m)

    own : y.variable ≡ v
    own =
        let found = place-is lits places v p h has at in
        ap (λ (z : Lit). z.variable) (same_Some y found.0 (sym stands ∙ found.1)) ∙ found.2

    same : same_lit m (opposite y) ≡ (false_now && (v == m.variable))
    same = same_test (same_lit m (opposite y)) (false_now && (v == m.variable)) forth back
      where
        forth : same_lit m (opposite y) ≡ true → (false_now && (v == m.variable)) ≡ true
        forth t =
            let e = same_lit-true m (opposite y) t in
            and-both false_now (v == m.variable)
            (contains-from lits n (opposite m) p before
            (stands ∙ ap (λ z. Some z) (sym (ap opposite e ∙ opposite-opposite y))))
            (eq-eqb v m.variable (sym own ∙ sym (ap (λ (z : Lit). z.variable) e)))

        back : (false_now && (v == m.variable)) ≡ true → same_lit m (opposite y) ≡ true
        back t =
            let e =
            (same-place lits places n p y m h stands (and-left false_now (v == m.variable) t)
            (own ∙ eqb-true v m.variable (and-right false_now (v == m.variable) t))).1 in
            same_lit-from m (opposite y) (sym (opposite-opposite m) ∙ ap opposite e)

-- one more listed variable, whose literal stands later
pub collected-skip_by : (lits : List Lit) (places marked : List ℕ) (i d n p : ℕ) (l : Lit) (c : List Lit) →
    ArePlaces lits places → HasPlace lits (get_or marked i d) → i < length marked →
    slice_get places (get_or marked i d) ≡ Some p → n ≤ p →
    IsCollectedBy (take i marked) lits l n c → IsCollectedBy (take (i + 1) marked) lits l n c
collected-skip_by lits places marked i d n p l c h has lt at after k m =
    k m
    ∙ ap (λ b. same_lit m l || b)
    (sym
    (ap (λ b. false_now && b) (number-more marked i d m.variable lt)
    ∙ and-or_distrib_left false_now (contains_number (take i marked) m.variable) (v == m.variable)
    ∙ ap (λ b. (false_now && contains_number (take i marked) m.variable) || b) never
    ∙ or-false (false_now && contains_number (take i marked) m.variable)))
  where
    v : ℕ
    v = get_or marked i d

    false_now : Bool
    false_now = contains (take n lits) (opposite m)

    never : (false_now && (v == m.variable)) ≡ false
    never = false_unless (false_now && (v == m.variable)) no
      where
        no : (false_now && (v == m.variable)) ≡ true → ⊥
        no t =
            let found = place-is lits places v p h has at in
            let early =
            (same-place lits places n p found.0 m h found.1 (and-left false_now (v == m.variable) t)
            (found.2 ∙ eqb-true v m.variable (and-right false_now (v == m.variable) t))).0 in
            omega (arith, early, after)

-- ---- the first marked place of the last level

-- its variable is marked
pub first-marked : (lits : List Lit) (marks : List Bool) (places marked : List ℕ) (from first : ℕ) →
    AreMarks lits marks marked → ArePlaces lits places → IsFirstPlace places from (length lits) marked first →
    first < length lits →
    (y : Lit) × (slice_get lits first ≡ Some y) × (assigned marks y.variable ≡ true) × (from ≤ first)
first-marked lits marks places marked from first a h f lt = by f.found
  where
    by : (first ≡ length lits) ⊎ ((x : ℕ) × (contains_number marked x ≡ true) × (slice_get places x ≡ Some first)
        × (from ≤ first)) →
        (y : Lit) × (slice_get lits first ≡ Some y) × (assigned marks y.variable ≡ true) × (from ≤ first)
    by (inl e) = absurd (omega (arith, e, lt))
    by (inr e) =
        let marked_here = a.listed e.0 ∙ e.1 in
        let found = place-is lits places e.0 first h (a.placed e.0 marked_here) e.2 in
        (found.0, found.1, ap (assigned marks) found.2 ∙ marked_here, e.3)

-- there is one, where some marked literal stands in that level
pub first-there : (lits : List Lit) (marks : List Bool) (places marked : List ℕ) (from first k : ℕ) (l : Lit) →
    AreMarks lits marks marked → ArePlaces lits places → IsFirstPlace places from (length lits) marked first →
    from ≤ k → slice_get lits k ≡ Some l → assigned marks l.variable ≡ true →
    (y : Lit) × (slice_get lits first ≡ Some y) × (assigned marks y.variable ≡ true) × (from ≤ first)
first-there lits marks places marked from first k l a h f le at m =
    let low = f.lower l.variable k (sym (a.listed l.variable) ∙ m) (h k l at) le in
    let inside = slice_get_within lits k l at in
    first-marked lits marks places marked from first a h f (omega (arith, low, inside))

-- with more marks it is no later
pub first-earlier : (lits : List Lit) (marks : List Bool) (places marked marked' : List ℕ) (from first first' : ℕ) →
    AreMarks lits marks marked → ArePlaces lits places → IsFirstPlace places from (length lits) marked first →
    IsFirstPlace places from (length lits) marked' first' → take (length marked) marked' ≡ marked →
    first < length lits → first' ≤ first
first-earlier lits marks places marked marked' from first first' a h f f' same lt =
    let there = first-marked lits marks places marked from first a h f lt in
    f'.lower there.0.variable first
    (number-taken (length marked) marked' there.0.variable
    (ap (λ xs. contains_number xs there.0.variable) same ∙ sym (a.listed there.0.variable) ∙ there.2))
    (h first there.0 there.1) there.3

-- each listed variable is among those that have a place
pub all-within : (lits : List Lit) (marks : List Bool) (places marked : List ℕ) → AreMarks lits marks marked →
    ArePlaces lits places → (x : ℕ) → contains_number marked x ≡ true → x < length places
all-within lits marks places marked a h x m = place-within lits places x h (a.placed x (a.listed x ∙ m))

pub first-alone : (lits : List Lit) (marks : List Bool) (places marked : List ℕ) (from end first : ℕ) →
    AreListed marks marked → ArePlaces lits places → IsFirstPlace places from end marked first →
    AreUnmarked marks lits from first
first-alone lits marks places marked from end first a h f k l le lt at =
    false_unless (assigned marks l.variable) (λ m.
    let low = f.lower l.variable k (sym (a l.variable) ∙ m) (h k l at) le in
    omega (arith, low, lt))

-- the search for the last marked place finds one
pub last-there : (marks : List Bool) (lits : List Lit) (first to : ℕ) (y : Lit) (o : Option ℕ) →
    slice_get lits first ≡ Some y → assigned marks y.variable ≡ true → first < to →
    IfNone o (AreUnmarked marks lits first to) → IsSome o
last-there marks lits first to y None at m lt none =
    absurd (false≢true (sym (none first y (omega arith) lt at) ∙ m))
last-there marks lits first to y (Some place) at m lt none = refl

-- ---- how much of the trail is kept

pub kept-is : (lits : List Lit) (marks : List Bool) (places marked : List ℕ) (end keep : ℕ) →
    AreMarks lits marks marked → ArePlaces lits places → IsKept places end marked keep →
    IsKeptLength marks lits end keep
kept-is lits marks places marked end zero a h k = λ j l from lt at.
    false_unless (assigned marks l.variable) (λ m.
    let up = k.upper l.variable j (sym (a.listed l.variable) ∙ m) (h j l at) lt in
    omega (arith, up))
kept-is lits marks places marked end (suc place) a h k = by k.found
  where
    by : (suc place ≡ 0) ⊎ ((x p : ℕ) × (contains_number marked x ≡ true) × (slice_get places x ≡ Some p) × (p < end)
        × (suc place ≡ p + 1)) → IsLastMarked marks lits 0 end place
    by (inl e) = absurd (omega (arith, e))
    by (inr e) =
        let here : e.1 ≡ place = (let same = e.5 in omega (arith, same)) in
        let marked_here = a.listed e.0 ∙ e.2 in
        let found =
        place-is lits places e.0 place h (a.placed e.0 marked_here) (e.3 ∙ ap (λ n. Some n) here) in
        record {
          from_on = omega arith;
          before = subst (λ n. n < end) here e.4;
          lit = found.0;
          stands = found.1;
          marked = ap (assigned marks) found.2 ∙ marked_here;
          last =
              λ j l from lt at.
              false_unless (assigned marks l.variable) (λ m.
              let up = k.upper l.variable j (sym (a.listed l.variable) ∙ m) (h j l at) lt in
              omega (arith, up, from));
        }
