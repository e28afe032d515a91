-- The bits of inputs, and the assignments that give them the bits of an environment's values.
use Rattle.std.specs.Prelude.{◌≡◌, ℕ, ◌/◌, ◌%◌, ◌^◌, ◌<◌, ◌==◌, ◌&&◌, List, Bool, false, All, Contains, slice_get}
use Rattle.std.specs.Prelude.{unwrap_or}
use Rattle.bv_terms.specs.declared.op.Op.TheVariants as op
use Rattle.bv_terms.specs.declared.value.Sort.{Sort}
use Rattle.bv_terms.specs.declared.value.Value.{Value}
use Rattle.bv_terms.specs.declared.value.Value.TheVariants as val
use Rattle.bv_terms.specs.Sorts.{width_of}
use Rattle.bv_terms.specs.Term.{Term, Apply, End}
use Rattle.bv_terms.specs.Subterm.{IsSubterm}

-- a bit of a value, bit 0 the lowest: a truth value is bit 0, a bit-vector has the bits of its number
abbrev pub value_bit : Value → ℕ → Bool
value_bit (val.Bool b) k = k == 0 && b
value_bit (val.Bits w n) k = n / 2 ^ k % 2 == 1

-- a bit of the value that the input of that number has in an environment
abbrev pub bit_of : List Value → ℕ → ℕ → Bool
bit_of env number k = value_bit (unwrap_or (slice_get env number) (val.Bool false)) k

-- an assignment has an environment's value at every listed bit: the number of an input, a bit of it, and its variable
abbrev pub Agrees : (ℕ → Bool) → List (ℕ × ℕ × ℕ) → List Value → Type 0
Agrees v bits env = All (λ b. v b.2 ≡ bit_of env b.0 b.1) bits

-- a bit of an input is listed with some variable
abbrev pub IsListed : List (ℕ × ℕ × ℕ) → ℕ → ℕ → Type 0
IsListed bits number k = (variable : ℕ) × Contains bits (number, k, variable)

-- an input of that number stands in the term, and values of its sort have that bit
abbrev pub IsBitOf : Term → ℕ → ℕ → Type 0
IsBitOf t number k = (s : Sort) × IsSubterm (Apply (op.Input number s) End) t × (k < width_of s)
