-- The truth values of signals.
use Rattle.std.specs.Prelude.{ℕ, ◌<◌, Bool}
use Rattle.cnf_core.specs.Clause.{lit_true}
use Rattle.circuit.specs.declared.signal.Signal.{Signal}
use Rattle.circuit.specs.declared.signal.Signal.TheVariants.{Constant, Literal}

-- a signal's truth value under an assignment
abbrev pub signal_true : (ℕ → Bool) → Signal → Bool
signal_true v (Constant value) = value
signal_true v (Literal l) = lit_true v l

-- a signal over n variables
abbrev pub IsSignalOver : ℕ → Signal → Type 0
IsSignalOver n (Constant value) = Unit {0}
IsSignalOver n (Literal l) = l.variable < n
