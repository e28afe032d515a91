-- The words of the operators that have no index. Source: SMT-LIB 2.6, theories Core and FixedSizeBitVectors, logic
-- QF_BV.
use Rattle.std.specs.Prelude.{ℕ, List, Option, Some, None, bytes_eq, codes, if◌then◌else◌}
use Rattle.std.specs.Option.{option_or}
use Rattle.bv_terms.specs.declared.op.Op.TheVariants as op
use Rattle.term_text.specs.declared.operator.Operator.{Operator}
use Rattle.term_text.specs.declared.operator.Operator.TheVariants.{Operation, Left, Equal, Distinct, Implies}
use Rattle.term_text.specs.declared.operator.Operator.TheVariants.{Inverted, Exchanged, BvComp, Signed}
use Rattle.term_text.specs.declared.operator.LeftAssociative.TheVariants as left
use Rattle.term_text.specs.declared.operator.Bitwise.TheVariants as bitwise
use Rattle.term_text.specs.declared.operator.Order.TheVariants as order
use Rattle.term_text.specs.declared.operator.Division.TheVariants as division

-- the operators of the theory Core
abbrev pub core_named : List ℕ → Option Operator
core_named word =
    if bytes_eq word (codes "not") then Some (Operation op.Not)
    else if bytes_eq word (codes "and") then Some (Left left.And)
    else if bytes_eq word (codes "or") then Some (Left left.Or)
    else if bytes_eq word (codes "xor") then Some (Left left.Xor)
    else if bytes_eq word (codes "=>") then Some Implies
    else if bytes_eq word (codes "=") then Some Equal
    else if bytes_eq word (codes "distinct") then Some Distinct
    else if bytes_eq word (codes "ite") then Some (Operation op.Ite)
    else None

-- those that give a bit-vector of their arguments' width, bit by bit or as numbers
abbrev pub arithmetic_named : List ℕ → Option Operator
arithmetic_named word =
    if bytes_eq word (codes "bvnot") then Some (Operation op.BvNot)
    else if bytes_eq word (codes "bvand") then Some (Left left.BvAnd)
    else if bytes_eq word (codes "bvor") then Some (Left left.BvOr)
    else if bytes_eq word (codes "bvxor") then Some (Left left.BvXor)
    else if bytes_eq word (codes "bvneg") then Some (Operation op.BvNeg)
    else if bytes_eq word (codes "bvadd") then Some (Left left.BvAdd)
    else if bytes_eq word (codes "bvsub") then Some (Operation op.BvSub)
    else if bytes_eq word (codes "bvmul") then Some (Left left.BvMul)
    else None

-- divisions and shifts
abbrev pub division_named : List ℕ → Option Operator
division_named word =
    if bytes_eq word (codes "bvudiv") then Some (Operation op.BvUdiv)
    else if bytes_eq word (codes "bvurem") then Some (Operation op.BvUrem)
    else if bytes_eq word (codes "bvsdiv") then Some (Signed division.Quotient)
    else if bytes_eq word (codes "bvsrem") then Some (Signed division.Remainder)
    else if bytes_eq word (codes "bvsmod") then Some (Signed division.Modulo)
    else if bytes_eq word (codes "bvshl") then Some (Operation op.BvShl)
    else if bytes_eq word (codes "bvlshr") then Some (Operation op.BvLshr)
    else if bytes_eq word (codes "bvashr") then Some (Operation op.BvAshr)
    else None

-- orders
abbrev pub order_named : List ℕ → Option Operator
order_named word =
    if bytes_eq word (codes "bvult") then Some (Operation op.BvUlt)
    else if bytes_eq word (codes "bvule") then Some (Operation op.BvUle)
    else if bytes_eq word (codes "bvslt") then Some (Operation op.BvSlt)
    else if bytes_eq word (codes "bvsle") then Some (Operation op.BvSle)
    else if bytes_eq word (codes "bvugt") then Some (Exchanged order.BvUlt)
    else if bytes_eq word (codes "bvuge") then Some (Exchanged order.BvUle)
    else if bytes_eq word (codes "bvsgt") then Some (Exchanged order.BvSlt)
    else if bytes_eq word (codes "bvsge") then Some (Exchanged order.BvSle)
    else None

-- the remaining ones
abbrev pub other_named : List ℕ → Option Operator
other_named word =
    if bytes_eq word (codes "bvnand") then Some (Inverted bitwise.BvAnd)
    else if bytes_eq word (codes "bvnor") then Some (Inverted bitwise.BvOr)
    else if bytes_eq word (codes "bvxnor") then Some (Inverted bitwise.BvXor)
    else if bytes_eq word (codes "bvcomp") then Some BvComp
    else if bytes_eq word (codes "concat") then Some (Left left.Concat)
    else None

-- the operator of a word
abbrev pub operator_named : List ℕ → Option Operator
operator_named word =
    option_or (option_or (option_or (option_or (core_named word) (arithmetic_named word)) (division_named word))
    (order_named word)) (other_named word)
