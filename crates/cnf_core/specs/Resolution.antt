-- Resolution, logs of it, and which log refutes a list of clauses. J. A. Robinson, A machine-oriented logic based on
-- the resolution principle, Journal of the ACM 12 (1965), for clauses without quantifiers. A chain names its clauses
-- by number, as the traces of zChaff and TraceCheck do.
use Rattle.std.specs.Prelude.{◌≡◌, ℕ, ◌&&◌, true, false, not, if◌then◌else◌, List, [], ◌∷◌, ◌++◌, take, Option, Some}
use Rattle.std.specs.Prelude.{None, option_and_then, slice_get, All, Contains}
use Rattle.std.specs.List.{filter}
use Rattle.cnf_core.specs.declared.clause.Lit.{Lit}
use Rattle.cnf_core.specs.declared.clause.Clause.{Clause}
use Rattle.cnf_core.specs.declared.log.Chain.{Chain}
use Rattle.cnf_core.specs.Clause.{opposite, same_lit, contains, IsSubset}

-- a clause without a literal
abbrev pub without : Lit → List Lit → List Lit
without l c = filter (λ m. not (same_lit l m)) c

-- what two clauses give by resolution on a literal of the first whose opposite the second contains
abbrev pub resolvent : List Lit → Lit → List Lit → Option (List Lit)
resolvent c l d = if contains c l && contains d (opposite l) then Some (without l c ++ without (opposite l) d) else None

-- what a clause and the clause of that number give
abbrev pub step : List Clause → List Lit → Lit × ℕ → Option (List Lit)
step cs c s = option_and_then (λ (d : Clause). resolvent c s.0 d.lits) (slice_get cs s.1)

-- what steps make of a clause, one after another; none where one of them does not resolve
abbrev pub after_steps : List Clause → List Lit → List (Lit × ℕ) → Option (List Lit)
after_steps cs c [] = Some c
after_steps cs c (s ∷ ss) = option_and_then (λ d. after_steps cs d ss) (step cs c s)

-- the clause of a chain over the clauses before it
abbrev pub derived : List Clause → Chain → Option (List Lit)
derived cs chain = option_and_then (λ (c : Clause). after_steps cs c.lits chain.steps) (slice_get cs chain.first)

abbrev pub clause : List Lit → Clause
clause lits = record { lits = lits }

-- the clauses and then those of the chains, in order; none where a chain does not resolve
abbrev pub with_chains : List Clause → List Chain → Option (List Clause)
with_chains cs [] = Some cs
with_chains cs (chain ∷ chains) =
    option_and_then (λ lits. with_chains (cs ++ clause lits ∷ []) chains) (derived cs chain)

-- each chain resolves, and an empty clause is among the clauses and theirs
abbrev pub IsAccepted : List Clause → List Chain → Type 0
IsAccepted cs chains = (all : List Clause) × (with_chains cs chains ≡ Some all) × Contains all (clause [])

-- all chains resolve, and none of the clauses is empty
abbrev pub HasNoEmptyClause : List Clause → List Chain → Type 0
HasNoEmptyClause cs chains = (all : List Clause) × (with_chains cs chains ≡ Some all) × (Contains all (clause []) → ⊥)

-- the chain of that number is the first that does not resolve over the clauses before it
pub record IsFirstBad (cs : List Clause) (chains : List Chain) (number : ℕ) : Type 0 where
  pub before : List Clause
  pub resolve : with_chains cs (take number chains) ≡ Some before
  pub chain : Chain
  pub stands : slice_get chains number ≡ Some chain
  pub bad : derived before chain ≡ None

-- a clause that says something new: it is no tautology, and none of the earlier clauses is a subset of it
pub record IsNewClause (cs : List Clause) (c : List Lit) : Type 0 where
  pub not_tautology : (l : Lit) → contains c l ≡ true → contains c (opposite l) ≡ false
  pub not_subsumed : All (λ d. IsSubset d.lits c → ⊥) cs

-- each chain's clause says something new
abbrev pub AreNewClauses : List Clause → List Chain → Type 0
AreNewClauses cs [] = Unit {0}
AreNewClauses cs (chain ∷ chains) =
    (lits : List Lit) × (derived cs chain ≡ Some lits) × IsNewClause cs lits × AreNewClauses (cs ++ clause lits ∷ [])
    chains
