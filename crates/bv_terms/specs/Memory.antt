-- What a term stands for where an input may be a memory: a value, or a memory. Source: this project's own; the
-- operations on values alone are those of SMT-LIB 2.6 (see Term).
use Rattle.std.specs.Prelude.{◌≡◌, ℕ, zero, suc, ◌+◌, ◌-◌, ◌*◌, ◌/◌, ◌^◌, ◌%◌, ◌<◌, List, [], ◌∷◌, map, slice_get}
use Rattle.std.specs.Prelude.{unwrap_or, Bool, false, ◌||◌, nat_lt, if◌then◌else◌}
use Rattle.bv_terms.specs.declared.op.Op.{Op}
use Rattle.bv_terms.specs.declared.op.Op.TheVariants as op
use Rattle.bv_terms.specs.declared.value.Value.{Value}
use Rattle.bv_terms.specs.declared.value.Value.TheVariants as val
use Rattle.bv_terms.specs.Term.{Term, Operands, Apply, End, Then, bits, op_value}

-- by address, where a pointer has p bits and the addresses are the numbers below 2 ^ p: the byte there, a number below
-- 256, and whether it was read and written
pub record Memory : Type 0 where
  pub byte : ℕ → ℕ
  pub is_read : ℕ → Bool
  pub is_written : ℕ → Bool

-- what a term stands for
pub data Thing : Type 0 where
  Plain : Value → Thing
  Mem : Memory → Thing

-- how many places an address a stands behind the pointer s, where 0 follows the last address
abbrev pub offset : ℕ → ℕ → ℕ → ℕ
offset p s a = (a + (2 ^ p - s)) % 2 ^ p

-- an access of n bytes at s has the addresses s, s + 1, up to s + n - 1, modulo 2 ^ p
abbrev pub is_accessed : ℕ → ℕ → ℕ → ℕ → Bool
is_accessed p n s a = nat_lt (offset p s a) n

-- the number that n bytes from s on make, the first one low
abbrev pub number_at : ℕ → (ℕ → ℕ) → ℕ → ℕ → ℕ
number_at p byte zero s = 0
number_at p byte (suc n) s = byte (s % 2 ^ p) + 256 * number_at p byte n (s + 1)

-- the byte in a place of a number, the low one in place 0
abbrev pub byte_of : ℕ → ℕ → ℕ
byte_of v place = v / 256 ^ place % 256

-- the memory with n addresses from s on marked as read
abbrev pub marked : ℕ → ℕ → ℕ → Memory → Memory
marked p n s m = record {
  byte = m.byte;
  is_read = λ a. is_accessed p n s a || m.is_read a;
  is_written = m.is_written;
}

-- the memory with n bytes of the number v from s on, the low one first, and these addresses marked as written
abbrev pub stored : ℕ → ℕ → ℕ → ℕ → Memory → Memory
stored p n s v m = record {
  byte = λ a. if is_accessed p n s a then byte_of v (offset p s a) else m.byte a;
  is_read = m.is_read;
  is_written = λ a. is_accessed p n s a || m.is_written a;
}

-- a value; in place of a memory some value, since no other operation of a well-sorted term has one as an argument
abbrev pub plain_value : Thing → Value
plain_value (Plain v) = v
plain_value (Mem m) = val.Bool false

-- an operation at what its arguments are, where the inputs are these, and a pointer has p bits
abbrev pub op_thing : ℕ → List Thing → Op → List Thing → Thing
op_thing p inputs (op.Input k s) [] = unwrap_or (slice_get inputs k) (Plain (val.Bool false))
op_thing p inputs (op.MLoad n) (Mem m ∷ Plain (val.Bits w s) ∷ []) = Plain (bits (8 * n) (number_at p m.byte n s))
op_thing p inputs (op.MMark n) (Mem m ∷ Plain (val.Bits w s) ∷ []) = Mem (marked p n s m)
op_thing p inputs (op.MStore n) (Mem m ∷ Plain (val.Bits w s) ∷ Plain (val.Bits u v) ∷ []) = Mem (stored p n s v m)
op_thing p inputs o args = Plain (op_value (map plain_value inputs) o (map plain_value args))

-- what a term stands for, where the inputs are these
unfoldable mutual
  pub thing : ℕ → List Thing → Term → Thing
  thing p inputs (Apply o ts) = op_thing p inputs o (things p inputs ts)

  pub things : ℕ → List Thing → Operands → List Thing
  things p inputs End = []
  things p inputs (Then t ts) = thing p inputs t ∷ things p inputs ts

-- the same bytes and marks at all addresses
pub record SameMemory (p : ℕ) (m n : Memory) : Type 0 where
  pub byte : (a : ℕ) → a < 2 ^ p → m.byte a ≡ n.byte a
  pub is_read : (a : ℕ) → a < 2 ^ p → m.is_read a ≡ n.is_read a
  pub is_written : (a : ℕ) → a < 2 ^ p → m.is_written a ≡ n.is_written a

-- equal values, or the same memory
abbrev pub SameThing : ℕ → Thing → Thing → Type 0
SameThing p (Plain u) (Plain v) = u ≡ v
SameThing p (Mem m) (Mem n) = SameMemory p m n
SameThing p _ _ = ⊥
