-- The term that an operator over terms is, in operations. Source: SMT-LIB 2.6, the attributes of function symbols
-- (left-assoc, right-assoc, chainable, pairwise), and the abbreviations of the logic QF_BV.
use Rattle.std.specs.Prelude.{◌-◌, ◌%◌, ◌==◌, if◌then◌else◌, slice_get, unwrap_or, replicate}
use Rattle.std.specs.Prelude.{ℕ, List, [], ◌∷◌, ◌++◌, map, Bool, true, false, not, reverse}
use Rattle.bv_terms.specs.declared.op.Op.{Op}
use Rattle.bv_terms.specs.declared.op.Op.TheVariants as op
use Rattle.bv_terms.specs.declared.value.Sort.{Sort}
use Rattle.bv_terms.specs.Signature.{width_at}
use Rattle.bv_terms.specs.Term.{Term, Operands, Apply, End, Then}
use Rattle.term_text.specs.declared.operator.Operator.{Operator}
use Rattle.term_text.specs.declared.operator.Operator.TheVariants.{Operation, Left, Equal, Distinct, Implies}
use Rattle.term_text.specs.declared.operator.Operator.TheVariants.{Inverted, Exchanged, BvComp, Signed}
use Rattle.term_text.specs.declared.operator.Operator.TheVariants.{Extract, ZeroExtend, SignExtend, RotateLeft}
use Rattle.term_text.specs.declared.operator.Operator.TheVariants.{RotateRight, Repeat}
use Rattle.term_text.specs.declared.operator.Division.{Division}
use Rattle.term_text.specs.declared.operator.Division.TheVariants.{Quotient, Remainder, Modulo}
use Rattle.term_text.specs.Operator.{left_operation, bitwise_operation, order_operation}

abbrev pub operands_of : List Term → Operands
operands_of [] = End
operands_of (t ∷ ts) = Then t (operands_of ts)

-- an operation over terms
abbrev pub applied : Op → List Term → Term
applied o ts = Apply o (operands_of ts)

-- where an operator without arguments makes no sense, some term
abbrev pub some_term : Term
some_term = applied (op.Bool false) []

-- an operation on a term and the next, then on that and the next after it, and so on
abbrev pub left_from : Op → Term → List Term → Term
left_from o t [] = t
left_from o t (u ∷ us) = left_from o (applied o (t ∷ u ∷ [])) us

abbrev pub left : Op → List Term → Term
left o [] = some_term
left o (t ∷ ts) = left_from o t ts

-- an operation on a term and what the further ones give
abbrev pub right_from : Op → Term → List Term → Term
right_from o t [] = t
right_from o t (u ∷ us) = applied o (t ∷ right_from o u us ∷ [])

abbrev pub right : Op → List Term → Term
right o [] = some_term
right o (t ∷ ts) = right_from o t ts

abbrev pub equation : Term → Term → Term
equation t u = applied op.Eq (t ∷ u ∷ [])

abbrev pub inequation : Term → Term → Term
inequation t u = applied op.Not (equation t u ∷ [])

-- each term is equal to the next
abbrev pub equations_from : Term → List Term → List Term
equations_from t [] = []
equations_from t (u ∷ us) = equation t u ∷ equations_from u us

abbrev pub equations : List Term → List Term
equations [] = []
equations (t ∷ ts) = equations_from t ts

-- each term differs from each later one
abbrev pub inequations : List Term → List Term
inequations [] = []
inequations (t ∷ ts) = map (inequation t) ts ++ inequations ts

-- a bit-vector of w bits
abbrev pub constant : ℕ → ℕ → Term
constant w n = applied (op.Bits w n) []

abbrev pub first_term : List Term → Term
first_term ts = unwrap_or (slice_get ts 0) some_term

abbrev pub extracted : ℕ → ℕ → Term → Term
extracted high low t = applied (op.Extract high low) (t ∷ [])

-- the w bits of a term turned r places to the left, where r is below w
abbrev pub rotated : ℕ → ℕ → Term → Term
rotated w r t =
    if r == 0 then t else applied op.Concat (extracted (w - r - 1) 0 t ∷ extracted (w - 1) (w - r) t ∷ [])

abbrev pub second_term : List Term → Term
second_term ts = unwrap_or (slice_get ts 1) some_term

-- an operation on two terms
abbrev pub on_two : Op → Term → Term → Term
on_two o t u = applied o (t ∷ u ∷ [])

abbrev pub negated : Term → Term
negated t = applied op.BvNeg (t ∷ [])

-- the sign bit of the w bits of a term is set
abbrev pub is_negative : ℕ → Term → Term
is_negative w t = on_two op.BvSlt t (constant w 0)

-- one term where t is negative, another where it is not
abbrev pub if_negative : ℕ → Term → Term → Term → Term
if_negative w t u v = applied op.Ite (is_negative w t ∷ u ∷ v ∷ [])

abbrev pub absolute : ℕ → Term → Term
absolute w t = if_negative w t (negated t) t

-- one of four terms: where neither s nor t is negative, where s alone is, where t alone is, where both are
abbrev pub by_signs : ℕ → Term → Term → Term → Term → Term → Term → Term
by_signs w s t neither first second both =
    if_negative w s (if_negative w t both first) (if_negative w t second neither)

-- a remainder u of absolute values with the sign of t, where it is not 0
abbrev pub signed_as_divisor : ℕ → Term → Term → Term → Term
signed_as_divisor w u s t =
    by_signs w s t u (on_two op.BvAdd (negated u) t) (on_two op.BvAdd u t) (negated u)

-- u where that is 0, another term where it is not
abbrev pub unless_zero : ℕ → Term → Term → Term
unless_zero w u v = applied op.Ite (equation u (constant w 0) ∷ u ∷ v ∷ [])

-- the remainder u of absolute values, or what has the sign of t
abbrev pub modulo_of : ℕ → Term → Term → Term → Term
modulo_of w u s t = unless_zero w u (signed_as_divisor w u s t)

-- the divisions of two's complement numbers of w bits
abbrev pub signed : Division → ℕ → Term → Term → Term
signed Quotient w s t =
    by_signs w s t (on_two op.BvUdiv s t) (negated (on_two op.BvUdiv (negated s) t))
    (negated (on_two op.BvUdiv s (negated t))) (on_two op.BvUdiv (negated s) (negated t))
signed Remainder w s t =
    by_signs w s t (on_two op.BvUrem s t) (negated (on_two op.BvUrem (negated s) t))
    (on_two op.BvUrem s (negated t)) (negated (on_two op.BvUrem (negated s) (negated t)))
signed Modulo w s t = modulo_of w (on_two op.BvUrem (absolute w s) (absolute w t)) s t

-- an operation on two terms, or what it gives negated
abbrev pub perhaps_negated : Bool → Op → Term → Term → Term
perhaps_negated negates o s t = if negates then negated (on_two o s t) else on_two o s t

-- an operation on s and the absolute value of t; what it gives may be negated where t is negative, and where it is not
abbrev pub by_second : ℕ → Op → Bool → Bool → Term → Term → Term
by_second w o below above s t =
    if_negative w t (perhaps_negated below o s (negated t)) (perhaps_negated above o s t)

-- an unsigned division of the absolute values, with the sign that a quotient has, or with that of s
abbrev pub by_both : ℕ → Op → Bool → Term → Term → Term
by_both w o quotient s t =
    if_negative w s (by_second w o (not quotient) true (negated s) t) (by_second w o quotient false s t)

-- the term that an operator over terms of these sorts is
abbrev pub written : Operator → List Sort → List Term → Term
written (Operation o) ss ts = applied o ts
written (Left o) ss ts = left (left_operation o) ts
written Equal ss ts = left op.And (equations ts)
written Distinct ss ts = left op.And (inequations ts)
written Implies ss ts = right op.Implies ts
written (Inverted o) ss ts = applied op.BvNot (applied (bitwise_operation o) ts ∷ [])
written (Exchanged o) ss ts = applied (order_operation o) (reverse ts)
written BvComp ss ts = applied op.Ite (applied op.Eq ts ∷ constant 1 1 ∷ constant 1 0 ∷ [])
written (Signed d) ss ts = signed d (width_at ss 0) (first_term ts) (second_term ts)
written (Extract high low) ss ts = applied (op.Extract high low) ts
written (ZeroExtend k) ss ts = applied (op.ZeroExtend k) ts
written (SignExtend k) ss ts = applied (op.SignExtend k) ts
written (RotateLeft k) ss ts = rotated (width_at ss 0) (k % width_at ss 0) (first_term ts)
written (RotateRight k) ss ts =
    rotated (width_at ss 0) ((width_at ss 0 - k % width_at ss 0) % width_at ss 0) (first_term ts)
written (Repeat k) ss ts = left op.Concat (replicate k (first_term ts))
