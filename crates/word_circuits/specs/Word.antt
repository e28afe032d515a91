-- Words: bit-vectors as signals of a circuit, the lowest bit first.
use Rattle.std.specs.Prelude.{◌≡◌, ℕ, ◌+◌, ◌-◌, ◌*◌, ◌/◌, ◌^◌, List, [], ◌∷◌, length, Bool, All, IsTrue, bit_and}
use Rattle.std.specs.Prelude.{bit_or, bit_xor, ◌&&◌, ◌||◌, if◌then◌else◌}
use Rattle.circuit.specs.declared.signal.Signal.{Signal}
use Rattle.circuit.specs.Signal.{signal_true, IsSignalOver}
use Rattle.circuit.specs.Gate.{xor, Netlist, hold}
use Rattle.word_circuits.specs.declared.bits.BitFunction.{BitFunction}
use Rattle.word_circuits.specs.declared.bits.BitFunction.TheVariants as bits

-- a truth value as a number
abbrev pub bit : Bool → ℕ
bit b = if b then 1 else 0

-- the number that a word stands for under an assignment
abbrev pub word_number : (ℕ → Bool) → List Signal → ℕ
word_number v [] = 0
word_number v (s ∷ ss) = bit (signal_true v s) + 2 * word_number v ss

-- a word of signals of the circuit
abbrev pub AreOver : Netlist → List Signal → Type 0
AreOver n word = All (IsSignalOver (length n.gates)) word

-- a word of a circuit, of that width, whose number is that of a function, wherever each gate has its value
pub record IsWordOf (n : Netlist) (width : ℕ) (function : (ℕ → Bool) → ℕ) (word : List Signal) : Type 0 where
  pub over : AreOver n word
  pub places : length word ≡ width
  pub number : (v : ℕ → Bool) → IsTrue (hold v n.gates) → word_number v word ≡ function v

-- a function of two bits at each place of two numbers
abbrev pub at_each_bit : BitFunction → ℕ → ℕ → ℕ
at_each_bit bits.And s t = bit_and s t
at_each_bit bits.Or s t = bit_or s t
at_each_bit bits.Xor s t = bit_xor s t

-- the same function of two truth values
abbrev pub of_bits : BitFunction → Bool → Bool → Bool
of_bits bits.And a b = a && b
of_bits bits.Or a b = a || b
of_bits bits.Xor a b = xor a b

-- a number of w bits shifted right by t places, with that bit in those that get free: where it is 1, the bits inverted
-- are shifted, and inverted again
abbrev pub shifted_with : ℕ → ℕ → ℕ → Bool → ℕ
shifted_with w s t b = if b then 2 ^ w - 1 - (2 ^ w - 1 - s) / 2 ^ t else s / 2 ^ t
