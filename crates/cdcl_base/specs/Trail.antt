-- The trail of a search: the true literals in the order of their assignment, and the clauses that forced them.
-- The terms are those of N. Eén, N. Sörensson, An Extensible SAT-solver, SAT 2003.
use Rattle.std.specs.Prelude.{◌≡◌, ℕ, ◌^◌, ◌<◌, ◌≤◌, ◌⊎◌, true, false, List, ◌++◌, take, length, Option, Some, None}
use Rattle.std.specs.Prelude.{slice_get, All, Contains}
use Rattle.cnf_core.specs.declared.clause.Lit.{Lit}
use Rattle.cnf_core.specs.declared.clause.Clause.{Clause}
use Rattle.cnf_core.specs.Clause.{opposite, same_lit, contains, IsOver}

-- the number of variables; the true literals, each with the clause that forced it, or none for a decision; and for each
-- decision level the number of literals before it
pub record Trail : Type 0 where
  pub variables : ℕ
  pub lits : List Lit
  pub reasons : List (Option ℕ)
  pub level_starts : List ℕ

-- neither the literal nor its opposite is true
abbrev pub IsUnassigned : List Lit → Lit → Type 0
IsUnassigned lits l = (contains lits l ≡ false) × (contains lits (opposite l) ≡ false)

-- no variable stands twice
abbrev pub HasDistinctVariables : List Lit → Type 0
HasDistinctVariables lits = (k : ℕ) (l : Lit) → slice_get lits k ≡ Some l → IsUnassigned (take k lits) l

-- what each trail keeps: no variable stands twice, each literal without a reason begins a level, and there are no
-- more variables than literals in 32 bits can have
pub record IsTrail (t : Trail) : Type 0 where
  pub over : IsOver t.variables t.lits
  pub distinct : HasDistinctVariables t.lits
  pub explained : length t.reasons ≡ length t.lits
  pub decided : (k : ℕ) → slice_get t.reasons k ≡ Some None → Contains t.level_starts k
  pub rising : (i j a b : ℕ) → i < j → slice_get t.level_starts i ≡ Some a → slice_get t.level_starts j ≡ Some b → a < b
  pub within : All (λ s. s < length t.lits) t.level_starts
  pub fits : length t.lits ≤ t.variables
  pub small : t.variables ≤ 2 ^ 31

-- for each variable with a value the place of its literal
abbrev pub ArePlaces : List Lit → List ℕ → Type 0
ArePlaces lits places = (k : ℕ) (l : Lit) → slice_get lits k ≡ Some l → slice_get places l.variable ≡ Some k

-- each literal is false
abbrev pub IsFalsified : List Lit → List Lit → Type 0
IsFalsified lits c = (l : Lit) → contains c l ≡ true → contains lits (opposite l) ≡ true

-- all literals but this one are false
pub record Forces (lits c : List Lit) (l : Lit) : Type 0 where
  pub stands : contains c l ≡ true
  pub others : (m : Lit) → contains c m ≡ true → (m ≡ l) ⊎ (contains lits (opposite m) ≡ true)

-- a literal that is true
pub record IsSatisfied (lits c : List Lit) : Type 0 where
  pub lit : Lit
  pub stands : contains c lit ≡ true
  pub holds : contains lits lit ≡ true

-- two literals that are not false
pub record IsUnresolved (lits c : List Lit) : Type 0 where
  pub first : Lit
  pub second : Lit
  pub differ : same_lit first second ≡ false
  pub first_stands : contains c first ≡ true
  pub second_stands : contains c second ≡ true
  pub first_not_false : contains lits (opposite first) ≡ false
  pub second_not_false : contains lits (opposite second) ≡ false

-- a clause that forces no literal: it is satisfied or unresolved
abbrev pub IsPropagated : List Lit → List Lit → Type 0
IsPropagated lits c = IsSatisfied lits c ⊎ IsUnresolved lits c

abbrev pub ArePropagated : List Lit → List Clause → Type 0
ArePropagated lits cs = All (λ (c : Clause). IsPropagated lits c.lits) cs

-- the literal in each place that has a reason is forced by that clause and the literals before it
abbrev pub AreReasons : List Clause → Trail → Type 0
AreReasons cs t = (k reason : ℕ) (l : Lit) → slice_get t.lits k ≡ Some l → slice_get t.reasons k ≡ Some (Some reason) →
    (c : Clause) × (slice_get cs reason ≡ Some c) × Forces (take k t.lits) c.lits l

-- before each decision on the trail, every clause was propagated
abbrev pub ArePropagatedBefore : List Clause → Trail → Type 0
ArePropagatedBefore cs t = All (λ s. ArePropagated (take s t.lits) cs) t.level_starts

-- more literals, and the same levels
pub record ExtendsTrail (old new : Trail) : Type 0 where
  pub variables : new.variables ≡ old.variables
  pub level_starts : new.level_starts ≡ old.level_starts
  pub more_lits : List Lit
  pub lits : new.lits ≡ old.lits ++ more_lits
  pub more_reasons : List (Option ℕ)
  pub reasons : new.reasons ≡ old.reasons ++ more_reasons

-- the trail as it was before the first decision at or after a place
pub record IsCancelled (old new : Trail) (keep : ℕ) : Type 0 where
  pub variables : new.variables ≡ old.variables
  pub place : ℕ
  pub later : keep ≤ place
  pub decision : Contains old.level_starts place
  pub lits : new.lits ≡ take place old.lits
  pub reasons : new.reasons ≡ take place old.reasons
  pub level_starts : (s : ℕ) → Contains new.level_starts s → Contains old.level_starts s × (s < keep)

-- a clause by its number, with no literal that is not false
abbrev pub IsConflict : List Lit → List Clause → ℕ → Type 0
IsConflict lits cs k = (c : Clause) × (slice_get cs k ≡ Some c) × IsFalsified lits c.lits

-- each literal or its opposite is true
abbrev pub AreAllAssigned : Trail → Type 0
AreAllAssigned t = (l : Lit) → l.variable < t.variables → contains t.lits l ≡ false →
    contains t.lits (opposite l) ≡ true
