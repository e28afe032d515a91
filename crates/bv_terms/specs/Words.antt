-- What operators of bit-vectors do to numbers below 2 ^ w, where it is no plain arithmetic. Source: SMT-LIB 2.6, theory
-- FixedSizeBitVectors and logic QF_BV.
use Rattle.std.specs.Prelude.{ℕ, ◌+◌, ◌-◌, ◌*◌, ◌/◌, ◌%◌, ◌^◌, Bool, not, ◌&&◌, ◌||◌, ◌==◌, nat_lt, nat_le}
use Rattle.std.specs.Prelude.{if◌then◌else◌}
use Rattle.std.specs.Bool.{beq}

-- the top bit is 1
abbrev pub is_negative : ℕ → ℕ → Bool
is_negative w s = nat_le (2 ^ w) (2 * s)

-- the quotient of unsigned numbers; by 0 it is all ones
abbrev pub udiv : ℕ → ℕ → ℕ → ℕ
udiv w s t = if t == 0 then 2 ^ w - 1 else s / t

-- and the remainder; by 0 it is the dividend
abbrev pub urem : ℕ → ℕ → ℕ
urem s t = if t == 0 then s else s % t

-- shifted right by t places, with the top bit in those that get free: where it is 1, the bits inverted are shifted,
-- and inverted again
abbrev pub ashr : ℕ → ℕ → ℕ → ℕ
ashr w s t = if is_negative w s then 2 ^ w - 1 - (2 ^ w - 1 - s) / 2 ^ t else s / 2 ^ t

-- from w to v bits, with the top bit in the new places
abbrev pub sign_extended : ℕ → ℕ → ℕ → ℕ
sign_extended w v s = if is_negative w s then s + (2 ^ v - 2 ^ w) else s

-- below, as signed numbers: s alone is negative, or both are or none, and s is below as an unsigned number
abbrev pub slt : ℕ → ℕ → ℕ → Bool
slt w s t = (is_negative w s && not (is_negative w t)) || (beq (is_negative w s) (is_negative w t) && nat_lt s t)

-- the same or below, as signed numbers
abbrev pub sle : ℕ → ℕ → ℕ → Bool
sle w s t = (is_negative w s && not (is_negative w t)) || (beq (is_negative w s) (is_negative w t) && nat_le s t)
