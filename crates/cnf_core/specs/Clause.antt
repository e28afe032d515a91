-- Clauses, read as sets of literals, and their models.
-- The terms are those of A. Biere, M. Heule, H. van Maaren, T. Walsh (eds.), Handbook of Satisfiability.
use Rattle.std.specs.Prelude.{◌≡◌, ℕ, ◌<◌, ◌==◌, ◌&&◌, Bool, true, false, not, if◌then◌else◌}
use Rattle.std.specs.Prelude.{List, [], ◌∷◌, All, slice_get, unwrap_or}
use Rattle.std.specs.List.{list_any, list_all}
use Rattle.std.specs.Bool.{beq}
use Rattle.cnf_core.specs.declared.clause.Lit.{Lit}
use Rattle.cnf_core.specs.declared.clause.Clause.{Clause}

-- the literal of the same variable with the other sign
abbrev pub opposite : Lit → Lit
opposite l = record { variable = l.variable; positive = not l.positive }

abbrev pub same_lit : Lit → Lit → Bool
same_lit l m = (l.variable == m.variable) && beq l.positive m.positive

-- whether a clause contains a literal
abbrev pub contains : List Lit → Lit → Bool
contains c l = list_any (same_lit l) c

-- an assignment gives each variable a truth value
abbrev pub lit_true : (ℕ → Bool) → Lit → Bool
lit_true v l = if l.positive then v l.variable else not (v l.variable)

-- a clause is true where some literal of it is
abbrev pub clause_true : (ℕ → Bool) → List Lit → Bool
clause_true v c = list_any (lit_true v) c

-- a model makes every clause true
abbrev pub is_model : (ℕ → Bool) → List Clause → Bool
is_model v cs = list_all (λ c. clause_true v c.lits) cs

abbrev pub HasNoModel : List Clause → Type 0
HasNoModel cs = (v : ℕ → Bool) → is_model v cs ≡ false

-- the assignment that a list gives, with the k-th value for variable k
abbrev pub assigned : List Bool → ℕ → Bool
assigned values k = unwrap_or (slice_get values k) false

-- a clause over n variables, numbered from 0
abbrev pub IsOver : ℕ → List Lit → Type 0
IsOver n c = All (λ l. l.variable < n) c

-- the second clause contains each literal of the first
abbrev pub IsSubset : List Lit → List Lit → Type 0
IsSubset c d = (l : Lit) → contains c l ≡ true → contains d l ≡ true

-- the same set of literals
abbrev pub AreSame : List Lit → List Lit → Type 0
AreSame c d = (l : Lit) → contains c l ≡ contains d l

-- clause by clause the same sets
abbrev pub AllSame : List Clause → List Clause → Type 0
AllSame [] [] = Unit {0}
AllSame (c ∷ cs) (d ∷ ds) = AreSame c.lits d.lits × AllSame cs ds
AllSame _ _ = ⊥

-- whether the second clause contains each literal of the first
abbrev pub is_subset : List Lit → List Lit → Bool
is_subset c d = list_all (contains d) c

-- whether two literals of a clause are opposite
abbrev pub is_tautology : List Lit → Bool
is_tautology c = list_any (λ (l : Lit). contains c (opposite l)) c

-- whether one of the clauses is a subset of a clause
abbrev pub is_subsumed : List Clause → List Lit → Bool
is_subsumed cs c = list_any (λ (d : Clause). is_subset d.lits c) cs
