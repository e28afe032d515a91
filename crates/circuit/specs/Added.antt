-- Clauses that are added to a formula.
use Rattle.std.specs.Prelude.{◌≡◌, ℕ, ◌+◌, List, ◌++◌, Bool}
use Rattle.cnf_core.specs.declared.clause.Clause.{Clause}
use Rattle.cnf_core.specs.Clause.{is_model}
use Rattle.cnf_core.specs.Formula.{Formula}
use Rattle.circuit.specs.declared.gate.Gate.{Gate}
use Rattle.circuit.specs.declared.gate.Gate.TheVariants.{Input, And, Xor, Choice, Majority, Parity}
use Rattle.circuit.specs.Gate.{has_value}

-- the new formula has clauses more, which say what an assignment is tested for
pub record Adds (old new : Formula) (test : (ℕ → Bool) → Bool) : Type 0 where
  pub variables : new.variables ≡ old.variables
  pub more_clauses : List Clause
  pub clauses : new.clauses ≡ old.clauses ++ more_clauses
  pub models : (v : ℕ → Bool) → is_model v more_clauses ≡ test v

-- the new formula has one variable more, whose value is that of a gate
abbrev pub AddsGate : Formula → Formula → Gate → Type 0
AddsGate old new g =
    Adds (record { variables = old.variables + 1; clauses = old.clauses }) new (λ v. has_value v (v old.variables) g)

-- a gate that is no input's bit
abbrev pub IsFunction : Gate → Type 0
IsFunction (Input number bit) = ⊥
IsFunction (And a b) = Unit {0}
IsFunction (Xor a b) = Unit {0}
IsFunction (Choice a b c) = Unit {0}
IsFunction (Majority a b c) = Unit {0}
IsFunction (Parity a b c) = Unit {0}
