-- A term that is written out has the inputs of its arguments and no others.
use Rattle.std.proofs.Common.{◌≡◌, ℕ, zero, suc, List, [], ◌∷◌, ◌++◌, map, Bool, true, false, refl, sym, subst}
use Rattle.std.specs.Prelude.{◌-◌, ◌%◌, replicate, reverse, if◌then◌else◌}
use Rattle.std.proofs.lemmas.List.{reverse-append}
use Rattle.list_lemmas.proofs.Bools.{and-both}
use Rattle.bv_terms.specs.declared.op.Op.{Op}
use Rattle.bv_terms.specs.declared.op.Op.TheVariants as op
use Rattle.bv_terms.specs.declared.value.Sort.{Sort}
use Rattle.bv_terms.specs.Signature.{width_at}
use Rattle.bv_terms.specs.Term.{Term}
use Rattle.term_text.specs.declared.operator.Operator.{Operator}
use Rattle.term_text.specs.declared.operator.Operator.TheVariants.{Operation, Left, Equal, Distinct, Implies}
use Rattle.term_text.specs.declared.operator.Operator.TheVariants.{Inverted, Exchanged, BvComp, Signed}
use Rattle.term_text.specs.declared.operator.Operator.TheVariants.{Extract, ZeroExtend, SignExtend, RotateLeft}
use Rattle.term_text.specs.declared.operator.Operator.TheVariants.{RotateRight, Repeat}
use Rattle.term_text.specs.declared.operator.LeftAssociative.{LeftAssociative}
use Rattle.term_text.specs.declared.operator.LeftAssociative.TheVariants as left_word
use Rattle.term_text.specs.declared.operator.Bitwise.{Bitwise}
use Rattle.term_text.specs.declared.operator.Bitwise.TheVariants as bitwise
use Rattle.term_text.specs.declared.operator.Order.{Order}
use Rattle.term_text.specs.declared.operator.Order.TheVariants as order
use Rattle.term_text.specs.declared.operator.Division.{Division}
use Rattle.term_text.specs.declared.operator.Division.TheVariants.{Quotient, Remainder, Modulo}
use Rattle.term_text.specs.Operator.{left_operation, bitwise_operation, order_operation}
use Rattle.term_text.specs.Written.{operands_of, applied, some_term, left_from, left, right_from, right, equation}
use Rattle.term_text.specs.Written.{inequation, equations_from, equations, inequations, constant, first_term}
use Rattle.term_text.specs.Written.{extracted, rotated, second_term, on_two, negated, is_negative, if_negative}
use Rattle.term_text.specs.Written.{absolute, by_signs, signed_as_divisor, modulo_of, signed, written}
use Rattle.isel_spec.specs.File.{is_in_scope, stays_in, all_stay_in}

-- the inputs that stand in a term have these sorts
abbrev pub Stays : List Sort → Term → Type 0
Stays ss t = stays_in ss t ≡ true

abbrev pub EachStays : List Sort → List Term → Type 0
EachStays ss [] = Unit {0}
EachStays ss (t ∷ ts) = Stays ss t × EachStays ss ts

-- an operation that is no input, or one of these sorts
abbrev pub IsPlain : List Sort → Op → Type 0
IsPlain ss o = is_in_scope ss o ≡ true

operands-stay : (ss : List Sort) (ts : List Term) → EachStays ss ts → all_stay_in ss (operands_of ts) ≡ true
unfolding all_stay_in
operands-stay ss [] h = refl
operands-stay ss (t ∷ ts) h = and-both (stays_in ss t) (all_stay_in ss (operands_of ts)) h.0 (operands-stay ss ts h.1)

pub applied-stays : (ss : List Sort) (o : Op) (ts : List Term) → IsPlain ss o → EachStays ss ts
    → Stays ss (applied o ts)
unfolding stays_in
applied-stays ss o ts plain h =
    and-both (is_in_scope ss o) (all_stay_in ss (operands_of ts)) plain (operands-stay ss ts h)

-- ---- terms that are joined

some-stays : (ss : List Sort) → Stays ss some_term
some-stays ss = applied-stays ss (op.Bool false) [] refl tt

two-stay : (ss : List Sort) (o : Op) (t u : Term) → IsPlain ss o → Stays ss t → Stays ss u → Stays ss (on_two o t u)
two-stay ss o t u plain h k = applied-stays ss o (t ∷ u ∷ []) plain (h, (k, tt))

left_from-stays : (ss : List Sort) (o : Op) (t : Term) (us : List Term) → IsPlain ss o → Stays ss t
    → EachStays ss us → Stays ss (left_from o t us)
left_from-stays ss o t [] plain h all = h
left_from-stays ss o t (u ∷ us) plain h all =
    left_from-stays ss o (on_two o t u) us plain (two-stay ss o t u plain h all.0) all.1

left-stays : (ss : List Sort) (o : Op) (ts : List Term) → IsPlain ss o → EachStays ss ts → Stays ss (left o ts)
left-stays ss o [] plain all = some-stays ss
left-stays ss o (t ∷ ts) plain all = left_from-stays ss o t ts plain all.0 all.1

right_from-stays : (ss : List Sort) (o : Op) (t : Term) (us : List Term) → IsPlain ss o → Stays ss t
    → EachStays ss us → Stays ss (right_from o t us)
right_from-stays ss o t [] plain h all = h
right_from-stays ss o t (u ∷ us) plain h all =
    two-stay ss o t (right_from o u us) plain h (right_from-stays ss o u us plain all.0 all.1)

right-stays : (ss : List Sort) (o : Op) (ts : List Term) → IsPlain ss o → EachStays ss ts → Stays ss (right o ts)
right-stays ss o [] plain all = some-stays ss
right-stays ss o (t ∷ ts) plain all = right_from-stays ss o t ts plain all.0 all.1

equations_from-stay : (ss : List Sort) (t : Term) (us : List Term) → Stays ss t → EachStays ss us
    → EachStays ss (equations_from t us)
equations_from-stay ss t [] h all = tt
equations_from-stay ss t (u ∷ us) h all =
    (two-stay ss op.Eq t u refl h all.0, equations_from-stay ss u us all.0 all.1)

equations-stay : (ss : List Sort) (ts : List Term) → EachStays ss ts → EachStays ss (equations ts)
equations-stay ss [] all = tt
equations-stay ss (t ∷ ts) all = equations_from-stay ss t ts all.0 all.1

differing-stay : (ss : List Sort) (t : Term) (us : List Term) → Stays ss t → EachStays ss us
    → EachStays ss (map (inequation t) us)
differing-stay ss t [] h all = tt
differing-stay ss t (u ∷ us) h all = (
  applied-stays ss op.Not (equation t u ∷ []) refl (two-stay ss op.Eq t u refl h all.0, tt),
  differing-stay ss t us h all.1,
)

joined-stay : (ss : List Sort) (ts us : List Term) → EachStays ss ts → EachStays ss us → EachStays ss (ts ++ us)
joined-stay ss [] us h k = k
joined-stay ss (t ∷ ts) us h k = (h.0, joined-stay ss ts us h.1 k)

inequations-stay : (ss : List Sort) (ts : List Term) → EachStays ss ts → EachStays ss (inequations ts)
inequations-stay ss [] all = tt
inequations-stay ss (t ∷ ts) all =
    joined-stay ss (map (inequation t) ts) (inequations ts) (differing-stay ss t ts all.0 all.1)
    (inequations-stay ss ts all.1)

reversed-stay : (ss : List Sort) (ts : List Term) → EachStays ss ts → EachStays ss (reverse ts)
reversed-stay ss [] all = tt
reversed-stay ss (t ∷ ts) all =
    subst (EachStays ss) (sym (reverse-append (t ∷ []) ts))
    (joined-stay ss (reverse ts) (t ∷ []) (reversed-stay ss ts all.1) (all.0, tt))

repeated-stay : (ss : List Sort) (t : Term) (n : ℕ) → Stays ss t → EachStays ss (replicate n t)
repeated-stay ss t zero h = tt
repeated-stay ss t (suc n) h = (h, repeated-stay ss t n h)

-- ---- the terms of operators on one or two arguments

first-stays : (ss : List Sort) (ts : List Term) → EachStays ss ts → Stays ss (first_term ts)
first-stays ss [] all = some-stays ss
first-stays ss (t ∷ ts) all = all.0

second-stays : (ss : List Sort) (ts : List Term) → EachStays ss ts → Stays ss (second_term ts)
second-stays ss [] all = some-stays ss
second-stays ss (t ∷ []) all = some-stays ss
second-stays ss (t ∷ u ∷ us) all = all.1.0

constant-stays : (ss : List Sort) (w n : ℕ) → Stays ss (constant w n)
constant-stays ss w n = applied-stays ss (op.Bits w n) [] refl tt

either-stays : (ss : List Sort) (b : Bool) (t u : Term) → Stays ss t → Stays ss u → Stays ss (if b then t else u)
either-stays ss true t u h k = h
either-stays ss false t u h k = k

extracted-stays : (ss : List Sort) (high low : ℕ) (t : Term) → Stays ss t → Stays ss (extracted high low t)
extracted-stays ss high low t h = applied-stays ss (op.Extract high low) (t ∷ []) refl (h, tt)

rotated-stays : (ss : List Sort) (w r : ℕ) (t : Term) → Stays ss t → Stays ss (rotated w r t)
rotated-stays ss w r t h =
    either-stays ss _ t _ h (two-stay ss op.Concat _ _ refl (extracted-stays ss _ _ t h) (extracted-stays ss _ _ t h))

negated-stays : (ss : List Sort) (t : Term) → Stays ss t → Stays ss (negated t)
negated-stays ss t h = applied-stays ss op.BvNeg (t ∷ []) refl (h, tt)

choice-stays : (ss : List Sort) (c t u : Term) → Stays ss c → Stays ss t → Stays ss u
    → Stays ss (applied op.Ite (c ∷ t ∷ u ∷ []))
choice-stays ss c t u g h k = applied-stays ss op.Ite (c ∷ t ∷ u ∷ []) refl (g, (h, (k, tt)))

by_sign-stays : (ss : List Sort) (w : ℕ) (t u v : Term) → Stays ss t → Stays ss u → Stays ss v
    → Stays ss (if_negative w t u v)
by_sign-stays ss w t u v g h k =
    choice-stays ss (is_negative w t) u v (two-stay ss op.BvSlt t (constant w 0) refl g (constant-stays ss w 0)) h k

by_signs-stays : (ss : List Sort) (w : ℕ) (s t a b c d : Term) → Stays ss s → Stays ss t → Stays ss a → Stays ss b
    → Stays ss c → Stays ss d → Stays ss (by_signs w s t a b c d)
by_signs-stays ss w s t a b c d hs ht ha hb hc hd =
    by_sign-stays ss w s (if_negative w t d b) (if_negative w t c a) hs (by_sign-stays ss w t d b ht hd hb)
    (by_sign-stays ss w t c a ht hc ha)

absolute-stays : (ss : List Sort) (w : ℕ) (t : Term) → Stays ss t → Stays ss (absolute w t)
absolute-stays ss w t h = by_sign-stays ss w t (negated t) t h (negated-stays ss t h) h

modulo-stays : (ss : List Sort) (w : ℕ) (u s t : Term) → Stays ss u → Stays ss s → Stays ss t
    → Stays ss (modulo_of w u s t)
modulo-stays ss w u s t hu hs ht =
    choice-stays ss (equation u (constant w 0)) u (signed_as_divisor w u s t)
    (two-stay ss op.Eq u (constant w 0) refl hu (constant-stays ss w 0)) hu
    (by_signs-stays ss w s t u (on_two op.BvAdd (negated u) t) (on_two op.BvAdd u t) (negated u) hs ht hu
    (two-stay ss op.BvAdd (negated u) t refl (negated-stays ss u hu) ht) (two-stay ss op.BvAdd u t refl hu ht)
    (negated-stays ss u hu))

signed-stays : (ss : List Sort) (d : Division) (w : ℕ) (s t : Term) → Stays ss s → Stays ss t
    → Stays ss (signed d w s t)
signed-stays ss Quotient w s t h k =
    let over = op.BvUdiv in
    let s' = negated-stays ss s h in
    let t' = negated-stays ss t k in
    by_signs-stays ss w s t (on_two over s t) (negated (on_two over (negated s) t))
    (negated (on_two over s (negated t)))
    (on_two over (negated s) (negated t)) h k (two-stay ss over s t refl h k)
    (negated-stays ss (on_two over (negated s) t) (two-stay ss over (negated s) t refl s' k))
    (negated-stays ss (on_two over s (negated t)) (two-stay ss over s (negated t) refl h t'))
    (two-stay ss over (negated s) (negated t) refl s' t')
signed-stays ss Remainder w s t h k =
    let over = op.BvUrem in
    let s' = negated-stays ss s h in
    let t' = negated-stays ss t k in
    by_signs-stays ss w s t (on_two over s t) (negated (on_two over (negated s) t)) (on_two over s (negated t))
    (negated (on_two over (negated s) (negated t))) h k (two-stay ss over s t refl h k)
    (negated-stays ss (on_two over (negated s) t) (two-stay ss over (negated s) t refl s' k))
    (two-stay ss over s (negated t) refl h t')
    (negated-stays ss (on_two over (negated s) (negated t)) (two-stay ss over (negated s) (negated t) refl s' t'))
signed-stays ss Modulo w s t h k =
    modulo-stays ss w (on_two op.BvUrem (absolute w s) (absolute w t)) s t
    (two-stay ss op.BvUrem (absolute w s) (absolute w t) refl (absolute-stays ss w s h) (absolute-stays ss w t k)) h k

-- ---- operators

-- an operator that is no input
abbrev pub IsPlainOperator : List Sort → Operator → Type 0
IsPlainOperator ss (Operation o) = IsPlain ss o
IsPlainOperator ss _ = Unit {0}

left-plain : (ss : List Sort) (o : LeftAssociative) → IsPlain ss (left_operation o)
left-plain ss left_word.And = refl
left-plain ss left_word.Or = refl
left-plain ss left_word.Xor = refl
left-plain ss left_word.BvAnd = refl
left-plain ss left_word.BvOr = refl
left-plain ss left_word.BvXor = refl
left-plain ss left_word.BvAdd = refl
left-plain ss left_word.BvMul = refl
left-plain ss left_word.Concat = refl

bitwise-plain : (ss : List Sort) (o : Bitwise) → IsPlain ss (bitwise_operation o)
bitwise-plain ss bitwise.BvAnd = refl
bitwise-plain ss bitwise.BvOr = refl
bitwise-plain ss bitwise.BvXor = refl

order-plain : (ss : List Sort) (o : Order) → IsPlain ss (order_operation o)
order-plain ss order.BvUlt = refl
order-plain ss order.BvUle = refl
order-plain ss order.BvSlt = refl
order-plain ss order.BvSle = refl

-- the term that an operator over terms is
pub written-stays : (ss : List Sort) (o : Operator) (qs : List Sort) (ts : List Term) → IsPlainOperator ss o
    → EachStays ss ts → Stays ss (written o qs ts)
written-stays ss (Operation o) qs ts plain all = applied-stays ss o ts plain all
written-stays ss (Left o) qs ts plain all = left-stays ss (left_operation o) ts (left-plain ss o) all
written-stays ss Equal qs ts plain all = left-stays ss op.And (equations ts) refl (equations-stay ss ts all)
written-stays ss Distinct qs ts plain all = left-stays ss op.And (inequations ts) refl (inequations-stay ss ts all)
written-stays ss Implies qs ts plain all = right-stays ss op.Implies ts refl all
written-stays ss (Inverted o) qs ts plain all =
    applied-stays ss op.BvNot (applied (bitwise_operation o) ts ∷ []) refl
    (applied-stays ss (bitwise_operation o) ts (bitwise-plain ss o) all, tt)
written-stays ss (Exchanged o) qs ts plain all =
    applied-stays ss (order_operation o) (reverse ts) (order-plain ss o) (reversed-stay ss ts all)
written-stays ss BvComp qs ts plain all =
    choice-stays ss (applied op.Eq ts) (constant 1 1) (constant 1 0) (applied-stays ss op.Eq ts refl all)
    (constant-stays ss 1 1) (constant-stays ss 1 0)
written-stays ss (Signed d) qs ts plain all =
    signed-stays ss d (width_at qs 0) (first_term ts) (second_term ts) (first-stays ss ts all) (second-stays ss ts all)
written-stays ss (Extract high low) qs ts plain all = applied-stays ss (op.Extract high low) ts refl all
written-stays ss (ZeroExtend k) qs ts plain all = applied-stays ss (op.ZeroExtend k) ts refl all
written-stays ss (SignExtend k) qs ts plain all = applied-stays ss (op.SignExtend k) ts refl all
written-stays ss (RotateLeft k) qs ts plain all =
    rotated-stays ss (width_at qs 0) (k % width_at qs 0) (first_term ts) (first-stays ss ts all)
written-stays ss (RotateRight k) qs ts plain all =
    rotated-stays ss (width_at qs 0) ((width_at qs 0 - k % width_at qs 0) % width_at qs 0) (first_term ts)
    (first-stays ss ts all)
written-stays ss (Repeat k) qs ts plain all =
    left-stays ss op.Concat (replicate k (first_term ts)) refl
    (repeated-stay ss (first_term ts) k (first-stays ss ts all))
