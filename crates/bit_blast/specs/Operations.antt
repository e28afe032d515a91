-- What a word of an operation over words is.
use Rattle.std.specs.Prelude.{◌≡◌, ℕ, zero, suc, ◌+◌, ◌*◌, ◌^◌, ◌<◌, ◌≤◌, List, [], ◌∷◌, None, Bool, true, false}
use Rattle.std.specs.Prelude.{length}
use Rattle.std.specs.Prelude.{IsTrue}
use Rattle.bv_terms.specs.declared.op.Op.{Op}
use Rattle.bv_terms.specs.declared.op.Op.TheVariants as op
use Rattle.bv_terms.specs.declared.value.Sort.{Sort}
use Rattle.bv_terms.specs.declared.value.Value.{Value}
use Rattle.bv_terms.specs.declared.value.Value.TheVariants as val
use Rattle.bv_terms.specs.Sorts.{width_of}
use Rattle.bv_terms.specs.Signature.{signature, refusal, result_sort}
use Rattle.bv_terms.specs.Term.{op_value}
use Rattle.circuit.specs.declared.signal.Signal.{Signal}
use Rattle.circuit.specs.Gate.{Netlist, hold}
use Rattle.word_circuits.specs.Word.{bit, word_number, AreOver}
use Rattle.bit_blast.specs.Bits.{bit_of, Agrees, IsListed}
use Rattle.bit_blast.specs.Words.{value_of}

-- words of as many bits as values of these sorts have, which are no memories
abbrev pub AreWide : List Sort → List (List Signal) → Type 0
AreWide [] [] = Unit {0}
AreWide (s ∷ ss) (w ∷ ws) = ((length w ≡ width_of s) × (1 ≤ length w) × (length w ≤ 64)) × AreWide ss ws
AreWide _ _ = ⊥

-- the values of sorts that words are
abbrev pub values_of : (ℕ → Bool) → List Sort → List (List Signal) → List Value
values_of v (s ∷ ss) (w ∷ ws) = value_of s (word_number v w) ∷ values_of v ss ws
values_of v _ _ = []

-- an operation may stand over arguments of which these are words
pub record MayStand (o : Op) (words : List (List Signal)) : Type 0 where
  pub pointer : ℕ
  pub sorts : List Sort
  pub allowed : refusal pointer o sorts ≡ None
  pub wide : AreWide sorts words

-- a word of an operation's value over what these words are, in each way in which it may stand over them
pub record IsOpWord (n : Netlist) (o : Op) (words : List (List Signal)) (word : List Signal) : Type 0 where
  pub over : AreOver n word
  pub places : (p : ℕ) (ss : List Sort) → refusal p o ss ≡ None → AreWide ss words
      → length word ≡ width_of (result_sort (signature o).result ss)
  pub value : (p : ℕ) (ss : List Sort) → refusal p o ss ≡ None → AreWide ss words
      → (inputs : List Value) (v : ℕ → Bool) → IsTrue (hold v n.gates)
      → value_of (result_sort (signature o).result ss) (word_number v word) ≡ op_value inputs o (values_of v ss words)

-- ---- inputs

-- a bit of the input of that number, of which there are so many
abbrev pub IsBitOfInput : ℕ → ℕ → ℕ → ℕ → Type 0
IsBitOfInput number width m k = (m ≡ number) × (k < width)

-- the number of so many bits, bit 0 the lowest
abbrev pub number_of_bits : (ℕ → Bool) → ℕ → ℕ
number_of_bits f zero = 0
number_of_bits f (suc k) = number_of_bits f k + 2 ^ k * bit (f k)

-- a word of the bits of an input, which are listed
pub record IsInputWord (n : Netlist) (number width : ℕ) (word : List Signal) : Type 0 where
  pub over : AreOver n word
  pub places : length word ≡ width
  pub listed : (k : ℕ) → k < width → IsListed n.bits number k
  pub value : (v : ℕ → Bool) (env : List Value) → Agrees v n.bits env
      → word_number v word ≡ number_of_bits (bit_of env number) width

-- ---- kinds of operations over two values

abbrev pub is_connective : Op → Bool
is_connective op.And = true
is_connective op.Or = true
is_connective op.Xor = true
is_connective op.Implies = true
is_connective _ = false

abbrev pub is_comparison : Op → Bool
is_comparison op.Eq = true
is_comparison op.BvUlt = true
is_comparison op.BvUle = true
is_comparison op.BvSlt = true
is_comparison op.BvSle = true
is_comparison _ = false

abbrev pub is_shift : Op → Bool
is_shift op.BvShl = true
is_shift op.BvLshr = true
is_shift op.BvAshr = true
is_shift _ = false

-- bit by bit, or by arithmetic
abbrev pub is_arithmetic : Op → Bool
is_arithmetic op.BvAnd = true
is_arithmetic op.BvOr = true
is_arithmetic op.BvXor = true
is_arithmetic op.BvAdd = true
is_arithmetic op.BvSub = true
is_arithmetic op.BvMul = true
is_arithmetic op.BvUdiv = true
is_arithmetic op.BvUrem = true
is_arithmetic _ = false

-- a word of an operation's value over two words of one width, which has that width
pub record IsArithmetic (n : Netlist) (o : Op) (left right word : List Signal) : Type 0 where
  pub over : AreOver n word
  pub places : length word ≡ length left
  pub value : (inputs : List Value) (v : ℕ → Bool) → IsTrue (hold v n.gates)
      → val.Bits (length left) (word_number v word)
      ≡ op_value inputs o (val.Bits (length left) (word_number v left)
      ∷ val.Bits (length left) (word_number v right) ∷ [])
