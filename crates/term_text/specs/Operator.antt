-- Over arguments of which sorts an operator may stand, and the sort of its result. Source: SMT-LIB 2.6, theories Core
-- and FixedSizeBitVectors, logic QF_BV. The operators over memories are this project's own.
use Rattle.std.specs.Prelude.{ℕ, ◌+◌, ◌-◌, ◌*◌, ◌&&◌, nat_lt, List, [], ◌∷◌, length, replicate, Option, Some, None}
use Rattle.std.specs.Prelude.{Result, Ok, Err}
use Rattle.std.specs.Prelude.{Bool, true, false, ◌==◌, nat_le, if◌then◌else◌}
use Rattle.std.specs.List.{sum_by}
use Rattle.bv_terms.specs.declared.op.Op.{Op}
use Rattle.bv_terms.specs.declared.op.Op.TheVariants as op
use Rattle.bv_terms.specs.declared.signature.Slot.{Slot}
use Rattle.bv_terms.specs.declared.signature.Slot.TheVariants.{Vector, SameAs}
use Rattle.bv_terms.specs.declared.signature.IndexRule.{IndexRule}
use Rattle.bv_terms.specs.declared.signature.IndexRule.TheVariants.{Free}
use Rattle.bv_terms.specs.declared.signature.ResultRule.TheVariants as rule
use Rattle.bv_terms.specs.declared.value.Sort.{Sort}
use Rattle.bv_terms.specs.declared.value.Sort.TheVariants as sort
use Rattle.bv_terms.specs.Sorts.{width_of}
use Rattle.bv_terms.specs.Signature as operation
use Rattle.bv_terms.specs.Signature.{signature, misfit, is_indexed, width_at}
use Rattle.term_text.specs.declared.operator.Operator.{Operator}
use Rattle.term_text.specs.declared.operator.Operator.TheVariants.{Operation, Left, Equal, Distinct, Implies}
use Rattle.term_text.specs.declared.operator.Operator.TheVariants.{Inverted, Exchanged, BvComp, Signed}
use Rattle.term_text.specs.declared.operator.Operator.TheVariants.{Extract, ZeroExtend, SignExtend, RotateLeft}
use Rattle.term_text.specs.declared.operator.Operator.TheVariants.{RotateRight, Repeat}
use Rattle.term_text.specs.declared.operator.LeftAssociative.{LeftAssociative}
use Rattle.term_text.specs.declared.operator.LeftAssociative.TheVariants as left
use Rattle.term_text.specs.declared.operator.Bitwise.{Bitwise}
use Rattle.term_text.specs.declared.operator.Bitwise.TheVariants as bitwise
use Rattle.term_text.specs.declared.operator.Order.{Order}
use Rattle.term_text.specs.declared.operator.Order.TheVariants as order
use Rattle.term_text.specs.declared.judge.OperatorFault.{OperatorFault}
use Rattle.term_text.specs.declared.judge.OperatorFault.TheVariants as fault

-- the operations of the same names
abbrev pub left_operation : LeftAssociative → Op
left_operation left.And = op.And
left_operation left.Or = op.Or
left_operation left.Xor = op.Xor
left_operation left.BvAnd = op.BvAnd
left_operation left.BvOr = op.BvOr
left_operation left.BvXor = op.BvXor
left_operation left.BvAdd = op.BvAdd
left_operation left.BvMul = op.BvMul
left_operation left.Concat = op.Concat

abbrev pub bitwise_operation : Bitwise → Op
bitwise_operation bitwise.BvAnd = op.BvAnd
bitwise_operation bitwise.BvOr = op.BvOr
bitwise_operation bitwise.BvXor = op.BvXor

abbrev pub order_operation : Order → Op
order_operation order.BvUlt = op.BvUlt
order_operation order.BvUle = op.BvUle
order_operation order.BvSlt = op.BvSlt
order_operation order.BvSle = op.BvSle

-- what an operator takes in the places of its first arguments
abbrev pub slots : Operator → List Slot
slots (Operation o) = (signature o).slots
slots (Left o) = (signature (left_operation o)).slots
slots Equal = (signature op.Eq).slots
slots Distinct = (signature op.Eq).slots
slots Implies = (signature op.Implies).slots
slots (Inverted o) = (signature (bitwise_operation o)).slots
slots (Exchanged o) = (signature (order_operation o)).slots
slots BvComp = Vector ∷ SameAs 0 ∷ []
slots (Signed d) = Vector ∷ SameAs 0 ∷ []
slots (Extract high low) = Vector ∷ []
slots (ZeroExtend k) = Vector ∷ []
slots (SignExtend k) = Vector ∷ []
slots (RotateLeft k) = Vector ∷ []
slots (RotateRight k) = Vector ∷ []
slots (Repeat k) = Vector ∷ []

-- the last of these places is that of any number of further arguments too
abbrev pub repeats : Operator → Bool
repeats (Operation o) = false
repeats (Left o) = true
repeats Equal = true
repeats Distinct = true
repeats Implies = true
repeats (Inverted o) = false
repeats (Exchanged o) = false
repeats BvComp = false
repeats (Signed d) = false
repeats (Extract high low) = false
repeats (ZeroExtend k) = false
repeats (SignExtend k) = false
repeats (RotateLeft k) = false
repeats (RotateRight k) = false
repeats (Repeat k) = false

-- an operator takes so many arguments
abbrev pub takes : Operator → ℕ → Bool
takes o n = if repeats o then nat_le (length (slots o)) n else length (slots o) == n

-- slots, and the last one n times more
abbrev pub extended : List Slot → ℕ → List Slot
extended [] n = []
extended (slot ∷ []) n = slot ∷ replicate n slot
extended (slot ∷ other ∷ slots) n = slot ∷ extended (other ∷ slots) n

-- the slots of n arguments, or more slots than these
abbrev pub slots_over : Operator → ℕ → List Slot
slots_over o n = if repeats o then extended (slots o) n else slots o

-- what an operation asks of its own numbers
abbrev pub index : Operator → IndexRule
index (Operation o) = (signature o).index
index _ = Free

-- the numbers of an operator fit arguments of these sorts, where a pointer has p bits
abbrev pub has_index : ℕ → Operator → List Sort → Bool
has_index p (Operation o) ss = is_indexed p (signature o).index ss
has_index p (Extract high low) ss = nat_le low high && nat_lt high (width_at ss 0)
has_index p (Repeat k) ss = nat_le 1 k
has_index p _ ss = true

-- a bit-vector as wide as all of these together
abbrev pub joined_sort : List Sort → Sort
joined_sort ss = sort.Bits (sum_by width_of ss)

abbrev pub left_sort : LeftAssociative → List Sort → Sort
left_sort left.And ss = sort.Bool
left_sort left.Or ss = sort.Bool
left_sort left.Xor ss = sort.Bool
left_sort left.BvAnd ss = operation.result_sort (rule.SameAs 0) ss
left_sort left.BvOr ss = operation.result_sort (rule.SameAs 0) ss
left_sort left.BvXor ss = operation.result_sort (rule.SameAs 0) ss
left_sort left.BvAdd ss = operation.result_sort (rule.SameAs 0) ss
left_sort left.BvMul ss = operation.result_sort (rule.SameAs 0) ss
left_sort left.Concat ss = joined_sort ss

-- the sort of an operator over arguments of these sorts
abbrev pub result_sort : Operator → List Sort → Sort
result_sort (Operation o) ss = operation.result_sort (signature o).result ss
result_sort (Left o) ss = left_sort o ss
result_sort Equal ss = sort.Bool
result_sort Distinct ss = sort.Bool
result_sort Implies ss = sort.Bool
result_sort (Inverted o) ss = operation.result_sort (rule.SameAs 0) ss
result_sort (Exchanged o) ss = sort.Bool
result_sort BvComp ss = sort.Bits 1
result_sort (Signed d) ss = operation.result_sort (rule.SameAs 0) ss
result_sort (Extract high low) ss = sort.Bits (high - low + 1)
result_sort (ZeroExtend k) ss = sort.Bits (width_at ss 0 + k)
result_sort (SignExtend k) ss = sort.Bits (width_at ss 0 + k)
result_sort (RotateLeft k) ss = operation.result_sort (rule.SameAs 0) ss
result_sort (RotateRight k) ss = operation.result_sort (rule.SameAs 0) ss
result_sort (Repeat k) ss = sort.Bits (k * width_at ss 0)

-- the sort of an operator over arguments of these sorts, or why it may not stand over them; the first cause counts
abbrev pub judge_width : Sort → Result Sort OperatorFault
judge_width s = if nat_le (width_of s) 64 then Ok s else Err fault.Width

abbrev pub judge_index : ℕ → Operator → List Sort → Result Sort OperatorFault
judge_index p o ss = if has_index p o ss then judge_width (result_sort o ss) else Err fault.Index

abbrev pub judge_sorts : ℕ → Operator → List Sort → Option ℕ → Result Sort OperatorFault
judge_sorts p o ss (Some place) = Err (fault.Sorts place)
judge_sorts p o ss None = judge_index p o ss

abbrev pub judge : ℕ → Operator → List Sort → Result Sort OperatorFault
judge p o ss =
    if takes o (length ss)
    then judge_sorts p o ss (misfit p (index o) (slots_over o (length ss)) ss)
    else Err fault.Arity
