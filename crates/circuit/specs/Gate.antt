-- Gates, and the circuits that they make. The clauses of gates: G. S. Tseitin, On the complexity of derivation in
-- propositional calculus, 1968.
use Rattle.std.specs.Prelude.{◌≡◌, ℕ, ◌+◌, ◌<◌, List, [], ◌∷◌, ◌++◌, length, slice_get, Some, Bool, true, not}
use Rattle.std.specs.Prelude.{◌&&◌, ◌||◌, ◌⊎◌, if◌then◌else◌, IsTrue}
use Rattle.std.specs.Bool.{beq}
use Rattle.cnf_core.specs.declared.clause.Clause.{Clause}
use Rattle.cnf_core.specs.Clause.{lit_true, is_model}
use Rattle.cnf_core.specs.Formula.{Formula}
use Rattle.circuit.specs.declared.gate.Gate.{Gate}
use Rattle.circuit.specs.declared.gate.Gate.TheVariants.{Input, And, Xor, Choice, Majority, Parity}
use Rattle.circuit.specs.declared.signal.Signal.{Signal}
use Rattle.circuit.specs.declared.signal.Signal.TheVariants.{Literal}
use Rattle.circuit.specs.Signal.{signal_true, IsSignalOver}

-- exactly one of two truth values
abbrev pub xor : Bool → Bool → Bool
xor a b = not (beq a b)

-- at least two of three
abbrev pub majority : Bool → Bool → Bool → Bool
majority a b c = (a && b) || (a && c) || (b && c)

-- one or three of three
abbrev pub parity : Bool → Bool → Bool → Bool
parity a b c = xor (xor a b) c

-- the truth value is the one of a gate, of which an input's bit has any
abbrev pub has_value : (ℕ → Bool) → Bool → Gate → Bool
has_value v g (Input number bit) = true
has_value v g (And a b) = beq g (lit_true v a && lit_true v b)
has_value v g (Xor a b) = beq g (xor (lit_true v a) (lit_true v b))
has_value v g (Choice a b c) = beq g (if lit_true v a then lit_true v b else lit_true v c)
has_value v g (Majority a b c) = beq g (majority (lit_true v a) (lit_true v b) (lit_true v c))
has_value v g (Parity a b c) = beq g (parity (lit_true v a) (lit_true v b) (lit_true v c))

-- an assignment gives each of these gates its value, where the first is that of variable n
abbrev pub hold_from : (ℕ → Bool) → ℕ → List Gate → Bool
hold_from v n [] = true
hold_from v n (g ∷ gs) = has_value v (v n) g && hold_from v (n + 1) gs

-- an assignment gives each gate of a circuit its value: variable k that of gate k
abbrev pub hold : (ℕ → Bool) → List Gate → Bool
hold v gates = hold_from v 0 gates

-- a gate over n variables
abbrev pub IsGateOver : ℕ → Gate → Type 0
IsGateOver n (Input number bit) = Unit {0}
IsGateOver n (And a b) = (a.variable < n) × (b.variable < n)
IsGateOver n (Xor a b) = (a.variable < n) × (b.variable < n)
IsGateOver n (Choice a b c) = (a.variable < n) × (b.variable < n) × (c.variable < n)
IsGateOver n (Majority a b c) = (a.variable < n) × (b.variable < n) × (c.variable < n)
IsGateOver n (Parity a b c) = (a.variable < n) × (b.variable < n) × (c.variable < n)

-- gates over earlier variables, where the first is that of variable n
abbrev pub AreForward : ℕ → List Gate → Type 0
AreForward n [] = Unit {0}
AreForward n (g ∷ gs) = IsGateOver n g × AreForward (n + 1) gs

-- the bits of inputs that are among these gates: the number of the input, the bit, and its variable
abbrev pub bits_from : ℕ → List Gate → List (ℕ × ℕ × ℕ)
bits_from n [] = []
bits_from n (Input number bit ∷ gs) = (number, bit, n) ∷ bits_from (n + 1) gs
bits_from n (g ∷ gs) = bits_from (n + 1) gs

-- clauses over variables of which variable k is that of gate k, and the inputs' bits
pub record Netlist : Type 0 where
  pub formula : Formula
  pub gates : List Gate
  pub bits : List (ℕ × ℕ × ℕ)

-- what every circuit keeps: gates over earlier ones, none twice, a variable each, each model gives them their values,
-- and the inputs' bits are those among the gates
pub record IsNetlist (n : Netlist) : Type 0 where
  pub variables : n.formula.variables ≡ length n.gates
  pub forward : AreForward 0 n.gates
  pub distinct : (j k : ℕ) (g : Gate) → slice_get n.gates j ≡ Some g → slice_get n.gates k ≡ Some g → j ≡ k
  pub models : (v : ℕ → Bool) → IsTrue (is_model v n.formula.clauses) → IsTrue (hold v n.gates)
  pub bits : n.bits ≡ bits_from 0 n.gates

-- the new circuit has some gates more, no input's bit among them, and asserts nothing more
pub record Grows (old new : Netlist) : Type 0 where
  pub netlist : IsNetlist new
  pub more_gates : List Gate
  pub gates : new.gates ≡ old.gates ++ more_gates
  pub bits : new.bits ≡ old.bits
  pub more_clauses : List Clause
  pub clauses : new.formula.clauses ≡ old.formula.clauses ++ more_clauses
  pub models : (v : ℕ → Bool)
      → is_model v new.formula.clauses
      ≡ (is_model v old.formula.clauses && hold_from v (length old.gates) more_gates)

-- the new circuit is the old one, or has this bit of an input as one more gate; it has the same clauses
pub record Lists (number bit : ℕ) (old new : Netlist) : Type 0 where
  pub netlist : IsNetlist new
  pub gates : (new.gates ≡ old.gates) ⊎ (new.gates ≡ old.gates ++ Input number bit ∷ [])
  pub clauses : new.formula.clauses ≡ old.formula.clauses

-- the new circuit has the same gates, and asserts besides what an assignment is tested for
pub record Asserts (old new : Netlist) (test : (ℕ → Bool) → Bool) : Type 0 where
  pub netlist : IsNetlist new
  pub gates : new.gates ≡ old.gates
  pub more_clauses : List Clause
  pub clauses : new.formula.clauses ≡ old.formula.clauses ++ more_clauses
  pub models : (v : ℕ → Bool)
      → is_model v new.formula.clauses ≡ (is_model v old.formula.clauses && test v)

-- a signal of a circuit whose truth value is that of a function, wherever each gate has its value
pub record IsSignalOf (n : Netlist) (function : (ℕ → Bool) → Bool) (s : Signal) : Type 0 where
  pub over : IsSignalOver (length n.gates) s
  pub value : (v : ℕ → Bool) → IsTrue (hold v n.gates) → signal_true v s ≡ function v

-- an assignment that gives each gate its value, and each bit of an input this one
pub record IsRun (gates : List Gate) (bit : ℕ → ℕ → Bool) (v : ℕ → Bool) : Type 0 where
  pub hold : IsTrue (hold v gates)
  pub inputs : (k number place : ℕ) → slice_get gates k ≡ Some (Input number place) → v k ≡ bit number place

-- a signal is the literal of a gate's variable
abbrev pub IsVariableOf : Netlist → Gate → Signal → Type 0
IsVariableOf n g s =
    (k : ℕ) × (slice_get n.gates k ≡ Some g) × (s ≡ Literal (record { variable = k; positive = true }))
