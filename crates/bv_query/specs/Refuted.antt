-- Clauses that a log refutes, with the variables of inputs' bits. The logs are those of zChaff and TraceCheck.
use Rattle.std.specs.Prelude.{ℕ, List, [], ◌∷◌, Option, Some, None, Bool, true, false}
use Rattle.std.specs.List.{list_any}
use Rattle.cnf_core.specs.declared.clause.Lit.{Lit}
use Rattle.cnf_core.specs.declared.clause.Clause.{Clause}
use Rattle.cnf_core.specs.declared.log.Chain.{Chain}
use Rattle.cnf_core.specs.Formula.{Formula}
use Rattle.cnf_core.specs.Resolution.{with_chains}

-- clauses, the variables of inputs' bits in them, and the chains of a log
pub record Refuted : Type 0 where
  pub formula : Formula
  pub bits : List (ℕ × ℕ × ℕ)
  pub chains : List Chain

abbrev pub is_empty : List Lit → Bool
is_empty [] = true
is_empty (l ∷ ls) = false

-- there are clauses, and one of them is empty
abbrev pub has_empty : Option (List Clause) → Bool
has_empty None = false
has_empty (Some cs) = list_any (λ (c : Clause). is_empty c.lits) cs

-- whether each chain resolves, and an empty clause is among the clauses and theirs
abbrev pub is_accepted : List Clause → List Chain → Bool
is_accepted cs chains = has_empty (with_chains cs chains)
