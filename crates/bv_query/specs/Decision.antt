-- What the answers to a question say: satisfiable, unsatisfiable or unknown in the terms of SMT-LIB 2.6, section 4.2.
use Rattle.std.specs.Prelude.{◌≡◌, ℕ, ◌+◌, ◌<◌, ◌⊎◌, List, Some, false, length, slice_get, All}
use Rattle.bv_terms.specs.declared.value.Sort.{Sort}
use Rattle.bv_terms.specs.declared.value.Value.{Value}
use Rattle.bv_terms.specs.declared.value.Value.TheVariants as val
use Rattle.bv_terms.specs.Term.{Term}
use Rattle.bv_terms.specs.WellSorted.{InputsFit}
use Rattle.cnf_core.specs.declared.log.Chain.{Chain}
use Rattle.cnf_core.specs.Formula.{Formula}
use Rattle.bit_blast.specs.Clauses.{IsTrueAt}
use Rattle.bv_query.specs.Inputs.{IsInputOf}
use Rattle.bv_query.specs.Refuted.{Refuted}
use Rattle.bv_query.specs.declared.decision.Decision.{Decision}
use Rattle.bv_query.specs.declared.decision.Decision.TheVariants.{Yes, No, Spent}

-- of the values of an environment
abbrev pub OnYes : Decision → (List Value → Type 0) → Type 0
OnYes (Yes env) P = P env.values
OnYes (No refutation) P = Unit {0}
OnYes (Spent blasted log) P = Unit {0}

-- of a refutation
abbrev pub OnNo : Decision → (Refuted → Type 0) → Type 0
OnNo (Yes env) P = Unit {0}
OnNo (No refutation) P = P refutation
OnNo (Spent blasted log) P = Unit {0}

-- of the clauses for which the fuel was spent
abbrev pub OnSpent : Decision → (Formula → Type 0) → Type 0
OnSpent (Yes env) P = Unit {0}
OnSpent (No refutation) P = Unit {0}
OnSpent (Spent blasted log) P = P blasted.cnf

-- of the clauses and the variables of the inputs' bits of either
abbrev pub OnClauses : Decision → (Formula → List (ℕ × ℕ × ℕ) → Type 0) → Type 0
OnClauses (Yes env) P = Unit {0}
OnClauses (No refutation) P = P refutation.formula refutation.bits
OnClauses (Spent blasted log) P = P blasted.cnf blasted.bits

-- of the clauses and the chains of either
abbrev pub OnLog : Decision → (Formula → List Chain → Type 0) → Type 0
OnLog (Yes env) P = Unit {0}
OnLog (No refutation) P = P refutation.formula refutation.chains
OnLog (Spent blasted log) P = P blasted.cnf log.chains

-- values of the inputs' sorts that make all formulas true; in the places of no input stands false, and the last place
-- is an input's
pub record IsWitness (formulas : List Term) (env : List Value) : Type 0 where
  pub fits : All (InputsFit env) formulas
  pub truths : All (IsTrueAt env) formulas
  pub gaps : (number : ℕ) → number < length env
      → ((s : Sort) × IsInputOf formulas number s) ⊎ (slice_get env number ≡ Some (val.Bool false))
  pub last : (number : ℕ) → length env ≡ number + 1 → (s : Sort) × IsInputOf formulas number s

-- no values of the inputs' sorts make all formulas true
abbrev pub HaveNoWitness : List Term → Type 0
HaveNoWitness formulas = (env : List Value) → All (InputsFit env) formulas → ¬ All (IsTrueAt env) formulas
