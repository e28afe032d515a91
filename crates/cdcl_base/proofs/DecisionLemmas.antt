-- The best literal so far, as the variables are gone over.
use Rattle.std.proofs.Common.{◌≡◌, ℕ, ◌+◌, ◌<◌, ◌≤◌, Bool, true, false, not, List, Option, Some, None, is_some, refl}
use Rattle.std.proofs.Common.{sym, ap, subst, ◌∙◌, ◌⊎◌, inl, inr, arith}
use Rattle.std.specs.Option.{IfSome, IfNone}
use Rattle.std.specs.Bool.{beq}
use Rattle.std.proofs.lemmas.Bool.{false≢true, cases_lt}
use Rattle.cnf_core.specs.declared.clause.Lit.{Lit}
use Rattle.cnf_core.specs.Clause.{opposite, contains}
use Rattle.cdcl_base.specs.Trail.{Trail, IsUnassigned}
use Rattle.cdcl_base.specs.Values.{is_value}
use Rattle.cdcl_base.specs.Scores.{score, IsHighest}

-- each of the first variables has a value
abbrev pub AreAssignedBelow : Trail → ℕ → Type 0
AreAssignedBelow t variable = (l : Lit) → l.variable < variable → contains t.lits l ≡ false →
    contains t.lits (opposite l) ≡ true

-- the best literal of the first variables; none where each of them has a value
pub record IsBest (t : Trail) (scores : List ℕ) (best : Option Lit) (variable : ℕ) : Type 0 where
  pub there : IfSome best (λ l. l.variable < t.variables)
  pub free : IfSome best (λ l. IsUnassigned t.lits l)
  pub none : IfNone best (AreAssignedBelow t variable)
  pub highest : IfSome best (IsHighest scores t.lits variable)

below : (m variable : ℕ) → m < variable + 1 → (m < variable) ⊎ (m ≡ variable)
below m variable h = by (cases_lt m variable)
  where
    by : (m < variable) ⊎ (variable ≤ m) → (m < variable) ⊎ (m ≡ variable)
    by (inl lt) = inl lt
    by (inr ge) = inr (omega (arith, ge, h))

-- of a variable with a value one literal is true
pub valued : (lits : List Lit) (variable : ℕ) (value : Option Bool) →
    ((sign : Bool) → contains lits (record { variable = variable; positive = sign }) ≡ is_value value sign) →
    is_some value ≡ true →
    (l : Lit) → l.variable ≡ variable → (contains lits l ≡ true) ⊎ (contains lits (opposite l) ≡ true)
valued lits variable None h some l e = absurd (false≢true some)
valued lits variable (Some value) h some l e = by (one value l.positive)
  where
    one : (value sign : Bool) → (beq value sign ≡ true) ⊎ (beq value (not sign) ≡ true)
    one true true = inl refl
    one true false = inr refl
    one false true = inr refl
    one false false = inl refl

    at : (sign : Bool) → contains lits (record { variable = l.variable; positive = sign }) ≡ beq value sign
    at sign = ap (λ x. contains lits (record { variable = x; positive = sign })) e ∙ h sign

    by : (beq value l.positive ≡ true) ⊎ (beq value (not l.positive) ≡ true) →
        (contains lits l ≡ true) ⊎ (contains lits (opposite l) ≡ true)
    by (inl s) = inl (at l.positive ∙ s)
    by (inr s) = inr (at (not l.positive) ∙ s)

pub unvalued : (lits : List Lit) (variable : ℕ) (value : Option Bool) →
    ((sign : Bool) → contains lits (record { variable = variable; positive = sign }) ≡ is_value value sign) →
    is_some value ≡ false →
    (sign : Bool) → IsUnassigned lits (record { variable = variable; positive = sign })
unvalued lits variable None h none sign = (h sign, h (not sign))
unvalued lits variable (Some value) h none sign = absurd (false≢true (sym none))

-- a variable with a value
pub pick-skip : (t : Trail) (scores : List ℕ) (best : Option Lit) (variable : ℕ) → IsBest t scores best variable →
    ((l : Lit) → l.variable ≡ variable → (contains t.lits l ≡ true) ⊎ (contains t.lits (opposite l) ≡ true)) →
    IsBest t scores best (variable + 1)
pick-skip t scores None variable h valued =
    record { there = tt; free = tt; none = λ l lt f. by l f (below l.variable variable lt); highest = tt }
  where
    other : (l : Lit) → contains t.lits l ≡ false → (contains t.lits l ≡ true) ⊎ (contains t.lits (opposite l) ≡ true) →
        contains t.lits (opposite l) ≡ true
    other l f (inl e) = absurd (false≢true (sym f ∙ e))
    other l f (inr e) = e

    by : (l : Lit) → contains t.lits l ≡ false → (l.variable < variable) ⊎ (l.variable ≡ variable) →
        contains t.lits (opposite l) ≡ true
    by l f (inl lt) = h.none l lt f
    by l f (inr e) = other l f (valued l e)
pick-skip t scores (Some best) variable h valued =
    record {
      there = h.there;
      free = h.free;
      none = tt;
      highest = λ m lt free. by m free (below m.variable variable lt);
    }
  where
    never : (m : Lit) → IsUnassigned t.lits m → (contains t.lits m ≡ true) ⊎ (contains t.lits (opposite m) ≡ true) → ⊥
    never m free (inl e) = false≢true (sym free.0 ∙ e)
    never m free (inr e) = false≢true (sym free.1 ∙ e)

    by : (m : Lit) → IsUnassigned t.lits m → (m.variable < variable) ⊎ (m.variable ≡ variable) →
        score scores m.variable ≤ score scores best.variable
    by m free (inl lt) = h.highest m lt free
    by m free (inr e) = absurd (never m free (valued m e))

-- a variable without a value, and the better of its literal and the best one
pub pick-more : (t : Trail) (scores : List ℕ) (best : Option Lit) (variable : ℕ) (l r : Lit) →
    IsBest t scores best variable → variable < t.variables → l.variable ≡ variable → IsUnassigned t.lits l →
    (r ≡ l) ⊎ (best ≡ Some r) → score scores l.variable ≤ score scores r.variable →
    IfSome best (λ b. score scores b.variable ≤ score scores r.variable) → IsBest t scores (Some r) (variable + 1)
pick-more t scores best variable l r h within here free one high higher = record {
  there = there one;
  free = unassigned one;
  none = tt;
  highest = λ m lt o. by m o (below m.variable variable lt);
}
  where
    there : (r ≡ l) ⊎ (best ≡ Some r) → r.variable < t.variables
    there (inl e) =
        subst (λ (x : Lit). x.variable < t.variables) (sym e) (subst (λ n. n < t.variables) (sym here) within)
    there (inr e) = subst (λ o. IfSome o (λ x. x.variable < t.variables)) e h.there

    unassigned : (r ≡ l) ⊎ (best ≡ Some r) → IsUnassigned t.lits r
    unassigned (inl e) = subst (IsUnassigned t.lits) (sym e) free
    unassigned (inr e) = subst (λ o. IfSome o (λ x. IsUnassigned t.lits x)) e h.free

    earlier : (o : Option Lit) → IfNone o (AreAssignedBelow t variable) → IfSome o (IsHighest scores t.lits variable) →
        IfSome o (λ b. score scores b.variable ≤ score scores r.variable) →
        (m : Lit) → IsUnassigned t.lits m → m.variable < variable → score scores m.variable ≤ score scores r.variable
    earlier None none highest higher m unassigned_m lt =
        absurd (false≢true (sym unassigned_m.1 ∙ none m lt unassigned_m.0))
    earlier (Some b) none highest higher m unassigned_m lt = let first = highest m lt unassigned_m in
        omega (arith, first, higher)

    by : (m : Lit) → IsUnassigned t.lits m → (m.variable < variable) ⊎ (m.variable ≡ variable) →
        score scores m.variable ≤ score scores r.variable
    by m o (inl lt) = earlier best h.none h.highest higher m o lt
    by m o (inr e) = subst (λ n. score scores n ≤ score scores r.variable) (here ∙ sym e) high
