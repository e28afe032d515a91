-- Terms as trees, and their values. Source: SMT-LIB 2.6, theories Core and FixedSizeBitVectors, logic QF_BV.
use Rattle.std.specs.Prelude.{ℕ, ◌+◌, ◌-◌, ◌*◌, ◌/◌, ◌^◌, ◌%◌, List, [], ◌∷◌, slice_get, bit_and, bit_or, bit_xor}
use Rattle.std.specs.Prelude.{unwrap_or, Bool, false, not, ◌&&◌, ◌||◌, ◌==◌, nat_lt, nat_le, if◌then◌else◌}
use Rattle.std.specs.Bool.{beq}
use Rattle.bv_terms.specs.declared.op.Op.{Op}
use Rattle.bv_terms.specs.declared.op.Op.TheVariants as op
use Rattle.bv_terms.specs.declared.value.Value.{Value}
use Rattle.bv_terms.specs.declared.value.Value.TheVariants as val
use Rattle.bv_terms.specs.Words.{udiv, urem, ashr, sign_extended, slt, sle}

-- a term: an operation over terms
mutual
  pub data Term : Type 0 where
    Apply : Op → Operands → Term

  pub data Operands : Type 0 where
    End : Operands
    Then : Term → Operands → Operands

-- the bit-vector of w bits that stands for n modulo 2 ^ w
abbrev pub bits : ℕ → ℕ → Value
bits w n = val.Bits w (n % 2 ^ w)

-- the same value; a truth value and a bit-vector differ, and so do bit-vectors of two widths
abbrev pub same_value : Value → Value → Bool
same_value (val.Bool p) (val.Bool q) = beq p q
same_value (val.Bits w s) (val.Bits v t) = w == v && s == t
same_value _ _ = false

-- an operation at the values of its arguments, where the inputs have these values, in the order of the standard's
-- lists: Core, FixedSizeBitVectors, QF_BV
abbrev pub op_value : List Value → Op → List Value → Value
op_value inputs (op.Input k s) [] = unwrap_or (slice_get inputs k) (val.Bool false)
op_value inputs (op.Bool p) [] = val.Bool p
op_value inputs op.Not (val.Bool p ∷ []) = val.Bool (not p)
op_value inputs op.Implies (val.Bool p ∷ val.Bool q ∷ []) = val.Bool (not p || q)
op_value inputs op.And (val.Bool p ∷ val.Bool q ∷ []) = val.Bool (p && q)
op_value inputs op.Or (val.Bool p ∷ val.Bool q ∷ []) = val.Bool (p || q)
op_value inputs op.Xor (val.Bool p ∷ val.Bool q ∷ []) = val.Bool (not (beq p q))
op_value inputs op.Eq (u ∷ v ∷ []) = val.Bool (same_value u v)
op_value inputs op.Ite (val.Bool p ∷ u ∷ v ∷ []) = if p then u else v
op_value inputs (op.Bits w n) [] = val.Bits w n
op_value inputs op.Concat (val.Bits w s ∷ val.Bits v t ∷ []) = val.Bits (w + v) (s * 2 ^ v + t)
op_value inputs (op.Extract high low) (val.Bits w s ∷ []) = bits (high - low + 1) (s / 2 ^ low)
op_value inputs op.BvNot (val.Bits w s ∷ []) = bits w (2 ^ w - 1 - s)
op_value inputs op.BvNeg (val.Bits w s ∷ []) = bits w (2 ^ w - s)
op_value inputs op.BvAnd (val.Bits w s ∷ val.Bits v t ∷ []) = bits w (bit_and s t)
op_value inputs op.BvOr (val.Bits w s ∷ val.Bits v t ∷ []) = bits w (bit_or s t)
op_value inputs op.BvAdd (val.Bits w s ∷ val.Bits v t ∷ []) = bits w (s + t)
op_value inputs op.BvMul (val.Bits w s ∷ val.Bits v t ∷ []) = bits w (s * t)
op_value inputs op.BvUdiv (val.Bits w s ∷ val.Bits v t ∷ []) = bits w (udiv w s t)
op_value inputs op.BvUrem (val.Bits w s ∷ val.Bits v t ∷ []) = bits w (urem s t)
op_value inputs op.BvShl (val.Bits w s ∷ val.Bits v t ∷ []) = bits w (s * 2 ^ t)
op_value inputs op.BvLshr (val.Bits w s ∷ val.Bits v t ∷ []) = bits w (s / 2 ^ t)
op_value inputs op.BvUlt (val.Bits w s ∷ val.Bits v t ∷ []) = val.Bool (nat_lt s t)
op_value inputs op.BvXor (val.Bits w s ∷ val.Bits v t ∷ []) = bits w (bit_xor s t)
op_value inputs op.BvSub (val.Bits w s ∷ val.Bits v t ∷ []) = bits w (s + (2 ^ w - t))
op_value inputs op.BvAshr (val.Bits w s ∷ val.Bits v t ∷ []) = bits w (ashr w s t)
op_value inputs (op.ZeroExtend by) (val.Bits w s ∷ []) = val.Bits (w + by) s
op_value inputs (op.SignExtend by) (val.Bits w s ∷ []) = bits (w + by) (sign_extended w (w + by) s)
op_value inputs op.BvUle (val.Bits w s ∷ val.Bits v t ∷ []) = val.Bool (nat_le s t)
op_value inputs op.BvSlt (val.Bits w s ∷ val.Bits v t ∷ []) = val.Bool (slt w s t)
op_value inputs op.BvSle (val.Bits w s ∷ val.Bits v t ∷ []) = val.Bool (sle w s t)
-- what follows is no term whose sorts fit, or it has a memory among its arguments, and no plain value
op_value inputs _ _ = val.Bool false

-- the value of a term, where the inputs have these values
unfoldable mutual
  pub value : List Value → Term → Value
  value inputs (Apply o ts) = op_value inputs o (values inputs ts)

  pub values : List Value → Operands → List Value
  values inputs End = []
  values inputs (Then t ts) = value inputs t ∷ values inputs ts
