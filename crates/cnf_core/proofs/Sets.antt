-- Clauses as sets: which literals a clause contains, and what resolution leaves of it.
use Rattle.std.proofs.Common.{◌≡◌, ◌==◌, ◌&&◌, ◌||◌, Bool, true, false, not, cond, List, [], ◌∷◌, ◌++◌, refl, sym, ap}
use Rattle.std.proofs.Common.{◌∙◌, ◌⊎◌, inl, inr}
use Rattle.std.specs.Bool.{beq}
use Rattle.std.specs.Cmp.{booleans_Decides}
use Rattle.std.proofs.lemmas.Bool.{false≢true, eqb-true, eq-eqb}
use Rattle.std.proofs.lemmas.List.Folds.{list_any-append}
use Rattle.cnf_core.specs.declared.clause.Lit.{Lit}
use Rattle.cnf_core.specs.Clause.{opposite, same_lit, contains, IsSubset, AreSame}
use Rattle.cnf_core.specs.Resolution.{without}
use Rattle.list_lemmas.proofs.Bools.{and-both, and_left as and-left, and_right as and-right, not-not, not-same}
use Rattle.list_lemmas.proofs.Bools.{or-cases, or-left, or-right, same_test, true-or-false}

-- ---- tests

-- ---- equal literals

pub same_lit-true : (l m : Lit) → same_lit l m ≡ true → l ≡ m
same_lit-true l m h =
    let variables =
    eqb-true l.variable m.variable (and-left (l.variable == m.variable) (beq l.positive m.positive) h) in
    let signs =
    (booleans_Decides l.positive m.positive).0 (and-right (l.variable == m.variable) (beq l.positive m.positive) h)
    in
    λ i. record { variable = variables i; positive = signs i }

pub same_lit-itself : (l : Lit) → same_lit l l ≡ true
same_lit-itself l =
    and-both (l.variable == l.variable) (beq l.positive l.positive) (eq-eqb l.variable l.variable refl)
    ((booleans_Decides l.positive l.positive).1 refl)

pub same_lit-from : (l m : Lit) → l ≡ m → same_lit l m ≡ true
same_lit-from l m e = ap (same_lit l) (sym e) ∙ same_lit-itself l

pub same_lit-sym : (l m : Lit) → same_lit l m ≡ same_lit m l
same_lit-sym l m =
    same_test (same_lit l m) (same_lit m l) (λ h. same_lit-from m l (sym (same_lit-true l m h)))
    (λ h. same_lit-from l m (sym (same_lit-true m l h)))

pub different : (l m : Lit) → (l ≡ m → ⊥) → same_lit l m ≡ false
different l m h = by (true-or-false (same_lit l m))
  where
    by : (same_lit l m ≡ true) ⊎ (same_lit l m ≡ false) → same_lit l m ≡ false
    by (inl e) = absurd (h (same_lit-true l m e))
    by (inr e) = e

pub opposite-opposite : (l : Lit) → opposite (opposite l) ≡ l
opposite-opposite l = λ i. record { variable = l.variable; positive = not-not l.positive i }

pub opposite-differs : (l : Lit) → l ≡ opposite l → ⊥
opposite-differs l e = not-same l.positive (ap (λ (x : Lit). x.positive) e)

pub opposite-same : (l m : Lit) → opposite l ≡ opposite m → l ≡ m
opposite-same l m e = sym (opposite-opposite l) ∙ ap opposite e ∙ opposite-opposite m

-- two literals of one variable are equal or opposite
pub same_variable : (l m : Lit) → l.variable ≡ m.variable → (l ≡ m) ⊎ (l ≡ opposite m)
same_variable l m e = by l.positive m.positive refl refl
  where
    by : (p q : Bool) → l.positive ≡ p → m.positive ≡ q → (l ≡ m) ⊎ (l ≡ opposite m)
    by true true a b = inl (λ i. record { variable = e i; positive = (a ∙ sym b) i })
    by false false a b = inl (λ i. record { variable = e i; positive = (a ∙ sym b) i })
    by true false a b = inr (λ i. record { variable = e i; positive = (a ∙ ap not (sym b)) i })
    by false true a b = inr (λ i. record { variable = e i; positive = (a ∙ ap not (sym b)) i })

-- ---- membership

pub contains-append : (c d : List Lit) (l : Lit) → contains (c ++ d) l ≡ (contains c l || contains d l)
contains-append c d l = list_any-append (same_lit l) c d

pub contains-left : (c d : List Lit) (l : Lit) → contains c l ≡ true → contains (c ++ d) l ≡ true
contains-left c d l h = contains-append c d l ∙ or-left (contains c l) (contains d l) h

pub contains-right : (c d : List Lit) (l : Lit) → contains d l ≡ true → contains (c ++ d) l ≡ true
contains-right c d l h = contains-append c d l ∙ or-right (contains c l) (contains d l) h

pub contains-cases : (c d : List Lit) (l : Lit) → contains (c ++ d) l ≡ true →
    (contains c l ≡ true) ⊎ (contains d l ≡ true)
contains-cases c d l h = or-cases (contains c l) (contains d l) (sym (contains-append c d l) ∙ h)

pub contains-head : (l : Lit) (c : List Lit) → contains (l ∷ c) l ≡ true
contains-head l c = or-left (same_lit l l) (contains c l) (same_lit-itself l)

pub contains-tail : (m : Lit) (c : List Lit) (l : Lit) → contains c l ≡ true → contains (m ∷ c) l ≡ true
contains-tail m c l h = or-right (same_lit l m) (contains c l) h

pub contains-one : (m l : Lit) → contains (m ∷ []) l ≡ true → l ≡ m
contains-one m l h = by (or-cases (same_lit l m) false h)
  where
    by : (same_lit l m ≡ true) ⊎ (false ≡ true) → l ≡ m
    by (inl e) = same_lit-true l m e
    by (inr e) = absurd (false≢true e)

-- a clause without a literal has the other literals
pub without-keeps : (l : Lit) (c : List Lit) (m : Lit) → same_lit l m ≡ false → contains (without l c) m ≡ contains c m
without-keeps l [] m h = refl
without-keeps l (x ∷ xs) m h = by (true-or-false (same_lit l x)) (without-keeps l xs m h)
  where
    by : (same_lit l x ≡ true) ⊎ (same_lit l x ≡ false) → contains (without l xs) m ≡ contains xs m →
        contains (cond (not (same_lit l x)) (x ∷ without l xs) (without l xs)) m ≡ (same_lit m x || contains xs m)
    by (inl e) ih =
        let other : same_lit m x ≡ false = ap (same_lit m) (sym (same_lit-true l x e)) ∙ same_lit-sym m l ∙ h in
        ap (λ b. contains (cond (not b) (x ∷ without l xs) (without l xs)) m) e ∙ ih
        ∙ ap (λ b. b || contains xs m) (sym other)
    by (inr e) ih =
        ap (λ b. contains (cond (not b) (x ∷ without l xs) (without l xs)) m) e ∙ ap (λ b. same_lit m x || b) ih

-- and not that one
pub without-drops : (l : Lit) (c : List Lit) → contains (without l c) l ≡ false
without-drops l [] = refl
without-drops l (x ∷ xs) = by (true-or-false (same_lit l x)) (without-drops l xs)
  where
    by : (same_lit l x ≡ true) ⊎ (same_lit l x ≡ false) → contains (without l xs) l ≡ false →
        contains (cond (not (same_lit l x)) (x ∷ without l xs) (without l xs)) l ≡ false
    by (inl e) ih = ap (λ b. contains (cond (not b) (x ∷ without l xs) (without l xs)) l) e ∙ ih
    by (inr e) ih =
        ap (λ b. contains (cond (not b) (x ∷ without l xs) (without l xs)) l) e
        ∙ ap (λ b. b || contains (without l xs) l) e ∙ ih

pub contains-without : (l : Lit) (c : List Lit) (m : Lit) →
    contains (without l c) m ≡ (not (same_lit l m) && contains c m)
contains-without l c m = by (true-or-false (same_lit l m))
  where
    by : (same_lit l m ≡ true) ⊎ (same_lit l m ≡ false) →
        contains (without l c) m ≡ (not (same_lit l m) && contains c m)
    by (inl e) = ap (contains (without l c)) (sym (same_lit-true l m e)) ∙ without-drops l c
        ∙ ap (λ b. not b && contains c m) (sym e)
    by (inr e) = without-keeps l c m e ∙ ap (λ b. not b && contains c m) (sym e)

-- ---- sets

pub AreSame-itself : (c : List Lit) → AreSame c c
AreSame-itself c l = refl

pub AreSame-sym : (c d : List Lit) → AreSame c d → AreSame d c
AreSame-sym c d h l = sym (h l)

pub AreSame-trans : (c d e : List Lit) → AreSame c d → AreSame d e → AreSame c e
AreSame-trans c d e h k l = h l ∙ k l

pub AreSame-from : (c d : List Lit) → IsSubset c d → IsSubset d c → AreSame c d
AreSame-from c d h k l = same_test (contains c l) (contains d l) (h l) (k l)

pub IsSubset-from : (c d : List Lit) → AreSame c d → IsSubset c d
IsSubset-from c d h l e = sym (h l) ∙ e

pub IsSubset-trans : (c d e : List Lit) → IsSubset c d → IsSubset d e → IsSubset c e
IsSubset-trans c d e h k l x = k l (h l x)

pub without-same : (l : Lit) (c d : List Lit) → AreSame c d → AreSame (without l c) (without l d)
without-same l c d h m = contains-without l c m ∙ ap (λ b. not (same_lit l m) && b) (h m) ∙ sym (contains-without l d m)

pub append-same : (a b c d : List Lit) → AreSame a b → AreSame c d → AreSame (a ++ c) (b ++ d)
append-same a b c d h k l = contains-append a c l ∙ (λ i. h l i || k l i) ∙ sym (contains-append b d l)

-- a clause with no literal is the empty one
pub no_literal : (c : List Lit) → ((l : Lit) → contains c l ≡ false) → c ≡ []
no_literal [] h = refl
no_literal (x ∷ xs) h = absurd (false≢true (sym (h x) ∙ contains-head x xs))
