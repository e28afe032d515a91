-- An operator that may stand over terms is written out as a term of its sort.
use Rattle.std.proofs.Common.{◌≡◌, ℕ, zero, suc, ◌+◌, ◌≤◌, Bool, true, false, cond, not, nat_le, eqb, List, []}
use Rattle.std.proofs.Common.{◌∷◌, length, replicate, reverse, Option, None, Some, Result, Ok, Err, IsOk}
use Rattle.std.proofs.Common.{refl, sym, ap, ◌∙◌, subst, arith}
use Rattle.std.specs.Prelude.{zip, map, ◌++◌}
use Rattle.std.specs.List.{position_from, sum_by}
use Rattle.std.proofs.lemmas.Bool.Decides.{Decides-eqb, nat_tests}
use Rattle.std.proofs.lemmas.Iterator.Adapters.{position_from-zero}
use Rattle.std.proofs.lemmas.List.Sums.{sum_by-cons}
use Rattle.std.proofs.lemmas.Option.{same_Some}
use Rattle.bv_terms.specs.declared.op.Op.{Op}
use Rattle.bv_terms.specs.declared.op.Op.TheVariants as op
use Rattle.bv_terms.specs.declared.op.MakeFault.TheVariants as make
use Rattle.bv_terms.specs.declared.signature.Slot.{Slot}
use Rattle.bv_terms.specs.declared.signature.Slot.TheVariants.{Truth, Vector, NoMemory, SameAs}
use Rattle.bv_terms.specs.declared.signature.IndexRule.{IndexRule}
use Rattle.bv_terms.specs.declared.signature.IndexRule.TheVariants.{Free, Slice}
use Rattle.bv_terms.specs.declared.signature.ResultRule.TheVariants as rule
use Rattle.bv_terms.specs.declared.value.Sort.{Sort}
use Rattle.bv_terms.specs.declared.value.Sort.TheVariants as sort
use Rattle.bv_terms.specs.Sorts.{is_bits, same_sort, width_of, is_width, AreSized}
use Rattle.bv_terms.specs.Signature as operation
use Rattle.bv_terms.specs.Signature.{width_at, Signature, arithmetic, comparison, signature, arity, fits, misfit}
use Rattle.bv_terms.specs.Signature.{is_indexed, fault_of_width, fault_of_index, fault_of, refusal}
use Rattle.bv_terms.specs.Term.{Term, End, Then}
use Rattle.bv_terms.specs.declared.op.TermId.{TermId}
use Rattle.bv_terms.specs.Table.{Table, IsTable}
use Rattle.bv_terms.specs.WellSorted.{op_sort, sort_unless, sort_of, sorts_of}
use Rattle.bv_terms.proofs.SignatureLemmas.{AllFit, IsFitting, same_sort-true, sorts_same, sorts_vector}
use Rattle.bv_terms.proofs.TermLemmas.{sorts_of-some, sorts_of-sized}
use Rattle.bv_terms.proofs.MakeLemmas.{sorts_of-end, sorts_of-then, sort_of-apply}
use Rattle.list_lemmas.proofs.Bools.{le_true, lt-true, and-both, and_parts, le-from_test}
use Rattle.std.proofs.lemmas.Bool.{ltb-true}
use Rattle.std.proofs.lemmas.Nat.{mod_below, pow_pos}
use Rattle.std.proofs.Common.{◌*◌, ◌-◌, ◌%◌, ◌^◌, ◌<◌, nat_lt}
use Rattle.list_lemmas.proofs.Lists.{heads, tails}
use Rattle.list_lemmas.proofs.Options.{some-is}
use Rattle.term_text.specs.declared.operator.Operator.{Operator}
use Rattle.term_text.specs.declared.operator.Operator.TheVariants.{Operation, Left, Equal, Distinct, Implies}
use Rattle.term_text.specs.declared.operator.Operator.TheVariants.{Inverted, Exchanged, BvComp, Signed}
use Rattle.term_text.specs.declared.operator.Operator.TheVariants.{Extract, ZeroExtend, SignExtend, RotateLeft}
use Rattle.term_text.specs.declared.operator.Operator.TheVariants.{RotateRight, Repeat}
use Rattle.term_text.specs.declared.operator.LeftAssociative.TheVariants as left_op
use Rattle.term_text.specs.declared.operator.Bitwise.TheVariants as bitwise
use Rattle.term_text.specs.declared.operator.Order.TheVariants as order
use Rattle.term_text.specs.declared.operator.Division.{Division}
use Rattle.term_text.specs.declared.operator.Division.TheVariants as division
use Rattle.term_text.specs.declared.judge.OperatorFault.{OperatorFault}
use Rattle.term_text.specs.declared.judge.OperatorFault.TheVariants as fault
use Rattle.term_text.specs.Operator.{slots, takes}
use Rattle.term_text.specs.Operator.{slots_over, index, has_index, joined_sort, result_sort, judge_width}
use Rattle.term_text.specs.Operator.{judge_index, judge_sorts, judge}
use Rattle.term_text.specs.Written.{operands_of, applied, left_from, left, right_from, right, written}
use Rattle.term_text.specs.Written.{equation, equations, equations_from, inequation, inequations, constant, extracted}
use Rattle.term_text.specs.Written.{rotated, on_two, negated, is_negative, if_negative, absolute, by_signs}
use Rattle.term_text.specs.Written.{signed_as_divisor, modulo_of, signed}
use Rattle.term_text.specs.Build.{AreNodes, terms_at, sorts_at, IsWellSorted}
use Rattle.term_text.proofs.BuildLemmas.{sorts_at-is}

-- ---- what a verdict without a fault says

-- each argument that has a slot fits it
abbrev pub EachFits : ℕ → IndexRule → List Sort → List Slot → List Sort → Type 0
EachFits p r all [] ss = Unit {0}
EachFits p r all (slot ∷ slots) [] = Unit {0}
EachFits p r all (slot ∷ slots) (s ∷ ss) = (fits p r all slot s ≡ true) × EachFits p r all slots ss

pub record Fits (p : ℕ) (o : Operator) (ss : List Sort) : Type 0 where
  pub taken : takes o (length ss) ≡ true
  pub fit : EachFits p (index o) ss (slots_over o (length ss)) ss
  pub indexed : has_index p o ss ≡ true
  pub narrow : width_of (result_sort o ss) ≤ 64

not_misfit : (b : Bool) (i : ℕ) (o : Option ℕ) → cond (not b) (Some i) o ≡ None → (b ≡ true) × (o ≡ None)
not_misfit true i o h = (refl, h)
not_misfit false i o h = cc

each_fits : (p : ℕ) (r : IndexRule) (all : List Sort) (slots : List Slot) (ss : List Sort) (i : ℕ)
    → position_from (λ (e : Slot × Sort). not (fits p r all e.0 e.1)) i (zip slots ss) ≡ None
    → EachFits p r all slots ss
each_fits p r all [] ss i h = tt
each_fits p r all (slot ∷ slots) [] i h = tt
each_fits p r all (slot ∷ slots) (s ∷ ss) i h =
    let parts = not_misfit (fits p r all slot s) i
    (position_from (λ (e : Slot × Sort). not (fits p r all e.0 e.1)) (i + 1) (zip slots ss)) h in
    (parts.0, each_fits p r all slots ss (i + 1) parts.1)

ok_if : (b : Bool) (r : Result Sort OperatorFault) (f : OperatorFault) (s : Sort) → cond b r (Err f) ≡ Ok s
    → (b ≡ true) × (r ≡ Ok s)
ok_if true r f s h = (refl, h)
ok_if false r f s h = cc

ok_unless : (p : ℕ) (o : Operator) (ss : List Sort) (q : Option ℕ) (s : Sort) → judge_sorts p o ss q ≡ Ok s
    → (q ≡ None) × (judge_index p o ss ≡ Ok s)
ok_unless p o ss None s h = (refl, h)
ok_unless p o ss (Some place) s h = cc

same_ok : (s t : Sort) → ◌≡◌ {A = Result Sort OperatorFault} (Ok s) (Ok t) → s ≡ t
same_ok s t h = cc

narrow_of : (n : ℕ) → nat_le n 64 ≡ true → n ≤ 64
narrow_of n h = grind (arith, nat_tests)

pub Fits-of : (p : ℕ) (o : Operator) (ss : List Sort) (s : Sort) → judge p o ss ≡ Ok s
    → Fits p o ss × (result_sort o ss ≡ s)
Fits-of p o ss s h =
    let all = slots_over o (length ss) in
    let taken = ok_if (takes o (length ss)) (judge_sorts p o ss (misfit p (index o) all ss)) fault.Arity s h in
    let sorts = ok_unless p o ss (misfit p (index o) all ss) s taken.1 in
    let own = ok_if (has_index p o ss) (judge_width (result_sort o ss)) fault.Index s sorts.1 in
    let width = ok_if (nat_le (width_of (result_sort o ss)) 64) (Ok (result_sort o ss)) fault.Width s own.1 in (
      record {
        taken = taken.0;
        fit = each_fits p (index o) ss all ss 0
            (sym (position_from-zero (λ (e : Slot × Sort). not (fits p (index o) ss e.0 e.1)) (zip all ss)) ∙ sorts.0);
        indexed = own.0;
        narrow = narrow_of (width_of (result_sort o ss)) width.0;
      },
      same_ok (result_sort o ss) s width.1,
    )

-- ---- an operation over sorts that fit has a sort

none_found : (p : ℕ) (r : IndexRule) (all : List Sort) (slots : List Slot) (ss : List Sort) (i : ℕ)
    → AllFit p r all slots ss
    → position_from (λ (e : Slot × Sort). not (fits p r all e.0 e.1)) i (zip slots ss) ≡ None
none_found p r all [] [] i h = refl
none_found p r all [] (s ∷ ss) i h = absurd h
none_found p r all (slot ∷ slots) [] i h = absurd h
none_found p r all (slot ∷ slots) (s ∷ ss) i h =
    ap (λ b. cond (not b) (Some i)
    (position_from (λ (e : Slot × Sort). not (fits p r all e.0 e.1)) (i + 1) (zip slots ss))) h.0
    ∙ none_found p r all slots ss (i + 1) h.1

same_length : (m n : ℕ) → m ≡ n → eqb m n ≡ true
same_length m n h = (Decides-eqb m n).1 h

pub refusal-fitting : (p : ℕ) (o : Op) (ss : List Sort) → IsFitting p o ss → refusal p o ss ≡ None
refusal-fitting p o ss f =
    let sig = signature o in
    let test : Slot × Sort → Bool = λ e. not (fits p sig.index ss e.0 e.1) in
    ap (λ b. cond b (fault_of p sig ss (misfit p sig.index sig.slots ss)) (Some make.Arity))
    (same_length (length ss) (arity o) f.arity)
    ∙ ap (fault_of p sig ss)
    (position_from-zero test (zip sig.slots ss) ∙ none_found p sig.index ss sig.slots ss 0 f.fit)
    ∙ ap (λ b. cond b (fault_of_width (operation.result_sort sig.result ss)) (Some make.Index)) f.indexed
    ∙ ap (λ b. cond b None (Some make.Width)) (le_true (width_of (operation.result_sort sig.result ss)) 64 f.narrow)

pub op_sort-fitting : (p : ℕ) (o : Op) (ss : List Sort) → IsFitting p o ss
    → op_sort p o ss ≡ Some (operation.result_sort (signature o).result ss)
op_sort-fitting p o ss f =
    ap (λ q. sort_unless q (operation.result_sort (signature o).result ss)) (refusal-fitting p o ss f)

all_fit : (p : ℕ) (r : IndexRule) (all : List Sort) (slots : List Slot) (ss : List Sort) → length slots ≡ length ss
    → EachFits p r all slots ss → AllFit p r all slots ss
all_fit p r all [] [] e h = tt
all_fit p r all [] (s ∷ ss) e h = absurd (omega arith)
all_fit p r all (slot ∷ slots) [] e h = absurd (omega arith)
all_fit p r all (slot ∷ slots) (s ∷ ss) e h = (h.0, all_fit p r all slots ss (omega arith) h.1)

-- an operation as an operator
operation-fitting : (p : ℕ) (o : Op) (ss : List Sort) → Fits p (Operation o) ss → IsFitting p o ss
operation-fitting p o ss f =
    let count = (Decides-eqb (arity o) (length ss)).0 f.taken in
    record {
      arity = sym count;
      fit = all_fit p (signature o).index ss (signature o).slots ss count f.fit;
      indexed = f.indexed;
      narrow = f.narrow;
    }

-- ---- sorts of two arguments that fit

same_sort-itself : (s : Sort) → same_sort s s ≡ true
same_sort-itself sort.Bool = refl
same_sort-itself (sort.Bits w) = (Decides-eqb w w).1 refl
same_sort-itself sort.Mem = refl

-- each of these is this sort
abbrev AllSame : Sort → List Sort → Type 0
AllSame s [] = Unit {0}
AllSame s (t ∷ ts) = (t ≡ s) × AllSame s ts

abbrev AllVectors : List Sort → Type 0
AllVectors [] = Unit {0}
AllVectors (s ∷ ss) = (is_bits s ≡ true) × AllVectors ss

-- what a slot takes that each argument has
truths : (p : ℕ) (r : IndexRule) (all : List Sort) (n : ℕ) (ss : List Sort) → length ss ≤ n
    → EachFits p r all (replicate n Truth) ss → AllSame sort.Bool ss
truths p r all n [] h e = tt
truths p r all zero (s ∷ ss) h e = absurd (omega arith)
truths p r all (suc n) (s ∷ ss) h e = (same_sort-true s sort.Bool e.0, truths p r all n ss (omega arith) e.1)

vectors : (p : ℕ) (r : IndexRule) (all : List Sort) (n : ℕ) (ss : List Sort) → length ss ≤ n
    → EachFits p r all (replicate n Vector) ss → AllVectors ss
vectors p r all n [] h e = tt
vectors p r all zero (s ∷ ss) h e = absurd (omega arith)
vectors p r all (suc n) (s ∷ ss) h e = (e.0, vectors p r all n ss (omega arith) e.1)

likes : (p : ℕ) (r : IndexRule) (first : Sort) (all : List Sort) (n : ℕ) (ss : List Sort) → length ss ≤ n
    → EachFits p r (first ∷ all) (replicate n (SameAs 0)) ss → AllSame first ss
likes p r first all n [] h e = tt
likes p r first all zero (s ∷ ss) h e = absurd (omega arith)
likes p r first all (suc n) (s ∷ ss) h e = (same_sort-true s first e.0, likes p r first all n ss (omega arith) e.1)

-- ---- terms joined from the left

sorts_of-two : (p : ℕ) (t u : Term) (s r : Sort) → sort_of p t ≡ Some s → sort_of p u ≡ Some r
    → sorts_of p (operands_of (t ∷ u ∷ [])) ≡ Some (s ∷ r ∷ [])
sorts_of-two p t u s r h k = sorts_of-then p t (Then u End) s (r ∷ []) h (sorts_of-then p u End r [] k (sorts_of-end p))

pub applied-two : (p : ℕ) (o : Op) (t u : Term) (s r q : Sort) → sort_of p t ≡ Some s → sort_of p u ≡ Some r
    → op_sort p o (s ∷ r ∷ []) ≡ Some q → sort_of p (applied o (t ∷ u ∷ [])) ≡ Some q
applied-two p o t u s r q h k e =
    sort_of-apply p o (operands_of (t ∷ u ∷ [])) (s ∷ r ∷ []) (sorts_of-two p t u s r h k) ∙ e

-- each of the terms has this sort
abbrev AllOf : ℕ → Sort → List Term → Type 0
AllOf p s [] = Unit {0}
AllOf p s (t ∷ ts) = (sort_of p t ≡ Some s) × AllOf p s ts

all_of : (p : ℕ) (s : Sort) (ts : List Term) (ss : List Sort) → sorts_of p (operands_of ts) ≡ Some ss → AllSame s ss
    → AllOf p s ts
all_of p s [] ss h same = tt
all_of p s (t ∷ ts) ss h same =
    let parts = sorts_of-some p t (operands_of ts) ss h in
    let rest = subst (AllSame s) parts.2 same in
    (parts.3 ∙ ap Some rest.0, all_of p s ts parts.1 parts.4 rest.1)

-- an operation that gives its first argument's sort again
left_from-all : (p : ℕ) (o : Op) (s r : Sort) → op_sort p o (s ∷ r ∷ []) ≡ Some s → (t : Term) → sort_of p t ≡ Some s
    → (us : List Term) → AllOf p r us → sort_of p (left_from o t us) ≡ Some s
left_from-all p o s r e t h [] all = h
left_from-all p o s r e t h (u ∷ us) all =
    left_from-all p o s r e (applied o (t ∷ u ∷ [])) (applied-two p o t u s r s h all.0 e) us all.1

left_from-same : (p : ℕ) (o : Op) (s r : Sort) → op_sort p o (s ∷ r ∷ []) ≡ Some s → (t : Term) → sort_of p t ≡ Some s
    → (us : List Term) (ss : List Sort) → sorts_of p (operands_of us) ≡ Some ss → AllSame r ss
    → sort_of p (left_from o t us) ≡ Some s
left_from-same p o s r e t h us ss k same = left_from-all p o s r e t h us (all_of p r us ss k same)

right_from-same : (p : ℕ) (o : Op) (s : Sort) → op_sort p o (s ∷ s ∷ []) ≡ Some s → (t : Term) → sort_of p t ≡ Some s
    → (us : List Term) (ss : List Sort) → sorts_of p (operands_of us) ≡ Some ss → AllSame s ss
    → sort_of p (right_from o t us) ≡ Some s
right_from-same p o s e t h [] ss k same = h
right_from-same p o s e t h (u ∷ us) ss k same =
    let parts = sorts_of-some p u (operands_of us) ss k in
    let rest = subst (AllSame s) parts.2 same in
    applied-two p o t (right_from o u us) s s s h
    (right_from-same p o s e u (parts.3 ∙ ap Some rest.0) us parts.1 parts.4 rest.1) e

vector_sort : (s : Sort) → is_bits s ≡ true → s ≡ sort.Bits (width_of s)
vector_sort sort.Bool h = cc
vector_sort (sort.Bits w) h = refl
vector_sort sort.Mem h = cc

-- a pair of vectors fits the slots of `concat`, and one of one width those of `bvand` and its like
concat_sort : (p v w : ℕ) → v + w ≤ 64 → op_sort p op.Concat (sort.Bits v ∷ sort.Bits w ∷ []) ≡ Some (sort.Bits (v + w))
concat_sort p v w h =
    op_sort-fitting p op.Concat (sort.Bits v ∷ sort.Bits w ∷ [])
    (record { arity = refl; fit = (refl, (refl, tt)); indexed = refl; narrow = h })

joined-concat : (p : ℕ) (t : Term) (w : ℕ) → sort_of p t ≡ Some (sort.Bits w) → (us : List Term) (ss : List Sort)
    → sorts_of p (operands_of us) ≡ Some ss → AllVectors ss → w + sum_by width_of ss ≤ 64
    → sort_of p (left_from op.Concat t us) ≡ Some (sort.Bits (w + sum_by width_of ss))
joined-concat p t w h [] ss k all narrow =
    let none = same_Some [] ss (sym (sorts_of-end p) ∙ k) in
    let same : w ≡ w + sum_by width_of ss = omega (arith, ap (sum_by width_of) (sym none)) in
    h ∙ ap (λ n. Some (sort.Bits n)) same
joined-concat p t w h (u ∷ us) ss k all narrow =
    let parts = sorts_of-some p u (operands_of us) ss k in
    let v = width_of parts.0 in
    let rest = subst AllVectors parts.2 all in
    let sum : sum_by width_of ss ≡ v + sum_by width_of parts.1 =
    ap (sum_by width_of) parts.2 ∙ sum_by-cons width_of parts.0 parts.1 in
    let same : w + v + sum_by width_of parts.1 ≡ w + sum_by width_of ss = omega arith in
    joined-concat p (applied op.Concat (t ∷ u ∷ [])) (w + v)
    (applied-two p op.Concat t u (sort.Bits w) (sort.Bits v) (sort.Bits (w + v)) h
    (parts.3 ∙ ap Some (vector_sort parts.0 rest.0)) (concat_sort p w v (omega arith)))
    us parts.1 parts.4 rest.1 (omega arith)
    ∙ ap (λ n. Some (sort.Bits n)) same

-- ---- the ways of writing out

-- where two arguments or more are asked for there is one
no_terms : (p : ℕ) (ss : List Sort) → sorts_of p (operands_of []) ≡ Some ss → nat_le 2 (length ss) ≡ true → ⊥
no_terms p ss h k = by ss (same_Some [] ss (sym (sorts_of-end p) ∙ h)) k
  where
    by : (ss : List Sort) → ◌≡◌ {A = List Sort} [] ss → nat_le 2 (length ss) ≡ true → ⊥
    by [] e k = cc
    by (s ∷ ss) e k = cc

left-truths : (p : ℕ) (o : Op) → op_sort p o (sort.Bool ∷ sort.Bool ∷ []) ≡ Some sort.Bool → (ts : List Term)
    (ss : List Sort) → sorts_of p (operands_of ts) ≡ Some ss → nat_le 2 (length ss) ≡ true
    → EachFits p Free ss (Truth ∷ Truth ∷ replicate (length ss) Truth) ss → sort_of p (left o ts) ≡ Some sort.Bool
left-truths p o e [] ss h k fit = absurd (no_terms p ss h k)
left-truths p o e (t ∷ us) ss h k fit =
    let parts = sorts_of-some p t (operands_of us) ss h in
    let each = subst (λ ss. EachFits p Free ss (Truth ∷ Truth ∷ replicate (length ss) Truth) ss) parts.2 fit in
    let rest = truths p Free (parts.0 ∷ parts.1) (suc (suc (length parts.1))) parts.1 (omega arith) each.1 in
    left_from-same p o sort.Bool sort.Bool e t (parts.3 ∙ ap Some (same_sort-true parts.0 sort.Bool each.0))
    us parts.1 parts.4 rest

right-truths : (p : ℕ) (o : Op) → op_sort p o (sort.Bool ∷ sort.Bool ∷ []) ≡ Some sort.Bool → (ts : List Term)
    (ss : List Sort) → sorts_of p (operands_of ts) ≡ Some ss → nat_le 2 (length ss) ≡ true
    → EachFits p Free ss (Truth ∷ Truth ∷ replicate (length ss) Truth) ss → sort_of p (right o ts) ≡ Some sort.Bool
right-truths p o e [] ss h k fit = absurd (no_terms p ss h k)
right-truths p o e (t ∷ us) ss h k fit =
    let parts = sorts_of-some p t (operands_of us) ss h in
    let each = subst (λ ss. EachFits p Free ss (Truth ∷ Truth ∷ replicate (length ss) Truth) ss) parts.2 fit in
    let rest = truths p Free (parts.0 ∷ parts.1) (suc (suc (length parts.1))) parts.1 (omega arith) each.1 in
    right_from-same p o sort.Bool e t (parts.3 ∙ ap Some (same_sort-true parts.0 sort.Bool each.0))
    us parts.1 parts.4 rest

-- an operation on two bit-vectors of one width that gives one of that width
word_sort : (p : ℕ) (o : Op) → signature o ≡ arithmetic → (s : Sort) → is_bits s ≡ true → width_of s ≤ 64
    → op_sort p o (s ∷ s ∷ []) ≡ Some s
word_sort p o e s bits narrow =
    let ss : List Sort = s ∷ s ∷ [] in
    let f : IsFitting p o ss = record {
      arity = ap (λ (sig : Signature). length sig.slots) (sym e);
      fit = subst (λ (sig : Signature). AllFit p sig.index ss sig.slots ss) (sym e) (bits, (same_sort-itself s, tt));
      indexed = ap (λ (sig : Signature). is_indexed p sig.index ss) e;
      narrow = subst (λ (sig : Signature). width_of (operation.result_sort sig.result ss) ≤ 64) (sym e) narrow;
    } in
    op_sort-fitting p o ss f ∙ ap (λ (sig : Signature). Some (operation.result_sort sig.result ss)) e

left-words : (p : ℕ) (o : Op) → signature o ≡ arithmetic → (ts : List Term) (ss : List Sort)
    → sorts_of p (operands_of ts) ≡ Some ss → nat_le 2 (length ss) ≡ true
    → EachFits p Free ss (Vector ∷ SameAs 0 ∷ replicate (length ss) (SameAs 0)) ss
    → width_of (operation.result_sort (rule.SameAs 0) ss) ≤ 64
    → sort_of p (left o ts) ≡ Some (operation.result_sort (rule.SameAs 0) ss)
left-words p o e [] ss h k fit narrow = absurd (no_terms p ss h k)
left-words p o e (t ∷ us) ss h k fit narrow =
    let parts = sorts_of-some p t (operands_of us) ss h in
    let first = parts.0 in
    let each = subst (λ ss. EachFits p Free ss (Vector ∷ SameAs 0 ∷ replicate (length ss) (SameAs 0)) ss) parts.2 fit in
    let rest = likes p Free first parts.1 (suc (suc (length parts.1))) parts.1 (omega arith) each.1 in
    let small = subst (λ ss. width_of (operation.result_sort (rule.SameAs 0) ss) ≤ 64) parts.2 narrow in
    left_from-same p o first first (word_sort p o e first each.0 small) t parts.3 us parts.1 parts.4 rest
    ∙ ap (λ ss. Some (operation.result_sort (rule.SameAs 0) ss)) (sym parts.2)

left-concat : (p : ℕ) (ts : List Term) (ss : List Sort)
    → sorts_of p (operands_of ts) ≡ Some ss → nat_le 2 (length ss) ≡ true
    → EachFits p Free ss (Vector ∷ Vector ∷ replicate (length ss) Vector) ss → sum_by width_of ss ≤ 64
    → sort_of p (left op.Concat ts) ≡ Some (joined_sort ss)
left-concat p [] ss h k fit narrow = absurd (no_terms p ss h k)
left-concat p (t ∷ us) ss h k fit narrow =
    let parts = sorts_of-some p t (operands_of us) ss h in
    let first = parts.0 in
    let each = subst (λ ss. EachFits p Free ss (Vector ∷ Vector ∷ replicate (length ss) Vector) ss) parts.2 fit in
    let rest = vectors p Free (first ∷ parts.1) (suc (suc (length parts.1))) parts.1 (omega arith) each.1 in
    let sum : width_of first + sum_by width_of parts.1 ≡ sum_by width_of ss =
    sym (ap (sum_by width_of) parts.2 ∙ sum_by-cons width_of first parts.1) in
    joined-concat p t (width_of first) (parts.3 ∙ ap Some (vector_sort first each.0)) us parts.1 parts.4 rest
    (omega arith)
    ∙ ap (λ n. Some (sort.Bits n)) sum

-- an operation over terms that fit it
applied-fitting : (p : ℕ) (o : Op) (ts : List Term) (ss : List Sort) → sorts_of p (operands_of ts) ≡ Some ss
    → IsFitting p o ss → sort_of p (applied o ts) ≡ Some (operation.result_sort (signature o).result ss)
applied-fitting p o ts ss h f = sort_of-apply p o (operands_of ts) ss h ∙ op_sort-fitting p o ss f

-- two bit-vectors of one width
words : (p : ℕ) (ss : List Sort) → eqb 2 (length ss) ≡ true → EachFits p Free ss (Vector ∷ SameAs 0 ∷ []) ss
    → (w : ℕ) × (ss ≡ sort.Bits w ∷ sort.Bits w ∷ [])
words p ss k fit =
    sorts_same p Free ss (all_fit p Free ss (Vector ∷ SameAs 0 ∷ []) ss ((Decides-eqb 2 (length ss)).0 k) fit)

no_sorts : (p : ℕ) (ts : List Term) → sorts_of p (operands_of ts) ≡ Some [] → ts ≡ []
no_sorts p [] h = refl
no_sorts p (t ∷ ts) h = let parts = sorts_of-some p t (operands_of ts) [] h in absurd (cc parts.2)

two_terms : (p : ℕ) (ts : List Term) (s r : Sort) → sorts_of p (operands_of ts) ≡ Some (s ∷ r ∷ [])
    → (t u : Term) × (ts ≡ t ∷ u ∷ []) × (sort_of p t ≡ Some s) × (sort_of p u ≡ Some r)
two_terms p [] s r h = absurd (cc (sorts_of-end p))
two_terms p (t ∷ []) s r h =
    let parts = sorts_of-some p t End (s ∷ r ∷ []) h in
    absurd (cc (same_Some [] parts.1 (sym (sorts_of-end p) ∙ parts.4)))
two_terms p (t ∷ u ∷ ts) s r h =
    let first = sorts_of-some p t (operands_of (u ∷ ts)) (s ∷ r ∷ []) h in
    let rest = tails s first.0 (r ∷ []) first.1 first.2 in
    let second = sorts_of-some p u (operands_of ts) (r ∷ []) (first.4 ∙ ap Some (sym rest)) in
    let none = no_sorts p ts (second.4 ∙ ap Some (sym (tails r second.0 [] second.1 second.2))) in (
      t,
      u,
      ap (λ ts. t ∷ u ∷ ts) none,
      first.3 ∙ ap Some (sym (heads s first.0 (r ∷ []) first.1 first.2)),
      second.3 ∙ ap Some (sym (heads r second.0 [] second.1 second.2)),
    )

inverted-words : (p : ℕ) (o : Op) → signature o ≡ arithmetic → (ts : List Term) (ss : List Sort)
    → sorts_of p (operands_of ts) ≡ Some ss → eqb 2 (length ss) ≡ true
    → EachFits p Free ss (Vector ∷ SameAs 0 ∷ []) ss → width_of (operation.result_sort (rule.SameAs 0) ss) ≤ 64
    → sort_of p (applied op.BvNot (applied o ts ∷ [])) ≡ Some (operation.result_sort (rule.SameAs 0) ss)
inverted-words p o e ts ss h k fit narrow =
    let two = words p ss k fit in
    let word : Sort = sort.Bits two.0 in
    let small = subst (λ ss. width_of (operation.result_sort (rule.SameAs 0) ss) ≤ 64) two.1 narrow in
    let joined = sort_of-apply p o (operands_of ts) ss h ∙ ap (op_sort p o) two.1 ∙ word_sort p o e word refl small in
    let one : IsFitting p op.BvNot (word ∷ []) =
    record { arity = refl; fit = (refl, tt); indexed = refl; narrow = small } in
    sort_of-apply p op.BvNot (operands_of (applied o ts ∷ [])) (word ∷ [])
    (sorts_of-then p (applied o ts) End word [] joined (sorts_of-end p))
    ∙ op_sort-fitting p op.BvNot (word ∷ []) one
    ∙ ap (λ ss. Some (operation.result_sort (rule.SameAs 0) ss)) (sym two.1)

-- an order of two bit-vectors of one width
order_sort : (p : ℕ) (o : Op) → signature o ≡ comparison → (s : Sort) → is_bits s ≡ true
    → op_sort p o (s ∷ s ∷ []) ≡ Some sort.Bool
order_sort p o e s bits =
    let ss : List Sort = s ∷ s ∷ [] in
    let f : IsFitting p o ss = record {
      arity = ap (λ (sig : Signature). length sig.slots) (sym e);
      fit = subst (λ (sig : Signature). AllFit p sig.index ss sig.slots ss) (sym e) (bits, (same_sort-itself s, tt));
      indexed = ap (λ (sig : Signature). is_indexed p sig.index ss) e;
      narrow = subst (λ (sig : Signature). width_of (operation.result_sort sig.result ss) ≤ 64) (sym e) (omega arith);
    } in
    op_sort-fitting p o ss f ∙ ap (λ (sig : Signature). Some (operation.result_sort sig.result ss)) e

exchanged-words : (p : ℕ) (o : Op) → signature o ≡ comparison → (ts : List Term) (ss : List Sort)
    → sorts_of p (operands_of ts) ≡ Some ss → eqb 2 (length ss) ≡ true
    → EachFits p Free ss (Vector ∷ SameAs 0 ∷ []) ss
    → sort_of p (applied o (reverse ts)) ≡ Some sort.Bool
exchanged-words p o e ts ss h k fit =
    let two = words p ss k fit in
    let word : Sort = sort.Bits two.0 in
    let terms = two_terms p ts word word (h ∙ ap Some two.1) in
    subst (λ ts. sort_of p (applied o (reverse ts)) ≡ Some sort.Bool) (sym terms.2)
    (applied-two p o terms.1 terms.0 word word sort.Bool terms.4 terms.3 (order_sort p o e word refl))

-- a truth value, without arguments or with them
nullary : (p : ℕ) (o : Op) (s : Sort) → op_sort p o [] ≡ Some s → sort_of p (applied o []) ≡ Some s
nullary p o s h = sort_of-apply p o End [] (sorts_of-end p) ∙ h

conjunction : (p : ℕ) (es : List Term) → AllOf p sort.Bool es → sort_of p (left op.And es) ≡ Some sort.Bool
conjunction p [] all = nullary p (op.Bool false) sort.Bool refl
conjunction p (e ∷ es) all = left_from-all p op.And sort.Bool sort.Bool refl e all.0 es all.1

-- two arguments of one sort, no memories
equal_sort : (p : ℕ) (s : Sort) → not (same_sort s sort.Mem) ≡ true → op_sort p op.Eq (s ∷ s ∷ []) ≡ Some sort.Bool
equal_sort p s m =
    op_sort-fitting p op.Eq (s ∷ s ∷ [])
    (record { arity = refl; fit = (m, (same_sort-itself s, tt)); indexed = refl; narrow = omega arith })

equation-sorted : (p : ℕ) (s : Sort) → not (same_sort s sort.Mem) ≡ true → (t u : Term) → sort_of p t ≡ Some s
    → sort_of p u ≡ Some s → sort_of p (equation t u) ≡ Some sort.Bool
equation-sorted p s m t u h k = applied-two p op.Eq t u s s sort.Bool h k (equal_sort p s m)

applied-one : (p : ℕ) (o : Op) (t : Term) (s q : Sort) → sort_of p t ≡ Some s → op_sort p o (s ∷ []) ≡ Some q
    → sort_of p (applied o (t ∷ [])) ≡ Some q
applied-one p o t s q h e =
    sort_of-apply p o (operands_of (t ∷ [])) (s ∷ []) (sorts_of-then p t End s [] h (sorts_of-end p)) ∙ e

equations-sorted : (p : ℕ) (s : Sort) → not (same_sort s sort.Mem) ≡ true → (t : Term) → sort_of p t ≡ Some s
    → (us : List Term) → AllOf p s us → AllOf p sort.Bool (equations_from t us)
equations-sorted p s m t h [] all = tt
equations-sorted p s m t h (u ∷ us) all =
    (equation-sorted p s m t u h all.0, equations-sorted p s m u all.0 us all.1)

differences-sorted : (p : ℕ) (s : Sort) → not (same_sort s sort.Mem) ≡ true → (t : Term) → sort_of p t ≡ Some s
    → (us : List Term) → AllOf p s us → AllOf p sort.Bool (map (inequation t) us)
differences-sorted p s m t h [] all = tt
differences-sorted p s m t h (u ∷ us) all = (
  applied-one p op.Not (equation t u) sort.Bool sort.Bool (equation-sorted p s m t u h all.0) refl,
  differences-sorted p s m t h us all.1,
)

AllOf-append : (p : ℕ) (s : Sort) (ts us : List Term) → AllOf p s ts → AllOf p s us → AllOf p s (ts ++ us)
AllOf-append p s [] us h k = k
AllOf-append p s (t ∷ ts) us h k = (h.0, AllOf-append p s ts us h.1 k)

inequations-sorted : (p : ℕ) (s : Sort) → not (same_sort s sort.Mem) ≡ true → (ts : List Term) → AllOf p s ts
    → AllOf p sort.Bool (inequations ts)
inequations-sorted p s m [] all = tt
inequations-sorted p s m (t ∷ ts) all =
    AllOf-append p sort.Bool (map (inequation t) ts) (inequations ts) (differences-sorted p s m t all.0 ts all.1)
    (inequations-sorted p s m ts all.1)

-- two or more terms of one sort, no memories
alike : (p : ℕ) (ts : List Term) (ss : List Sort) → sorts_of p (operands_of ts) ≡ Some ss → nat_le 2 (length ss) ≡ true
    → EachFits p Free ss (NoMemory ∷ SameAs 0 ∷ replicate (length ss) (SameAs 0)) ss
    → (s : Sort) × (not (same_sort s sort.Mem) ≡ true) × AllOf p s ts
alike p [] ss h k fit = absurd (no_terms p ss h k)
alike p (t ∷ us) ss h k fit =
    let parts = sorts_of-some p t (operands_of us) ss h in
    let first = parts.0 in
    let each = subst (λ ss. EachFits p Free ss (NoMemory ∷ SameAs 0 ∷ replicate (length ss) (SameAs 0)) ss) parts.2 fit
    in
    let rest = likes p Free first parts.1 (suc (suc (length parts.1))) parts.1 (omega arith) each.1 in
    (first, each.0, (parts.3, all_of p first us parts.1 parts.4 rest))

equal-sorted : (p : ℕ) (ts : List Term) (ss : List Sort) → sorts_of p (operands_of ts) ≡ Some ss
    → nat_le 2 (length ss) ≡ true → EachFits p Free ss (NoMemory ∷ SameAs 0 ∷ replicate (length ss) (SameAs 0)) ss
    → sort_of p (left op.And (equations ts)) ≡ Some sort.Bool
equal-sorted p [] ss h k fit = absurd (no_terms p ss h k)
equal-sorted p (t ∷ us) ss h k fit =
    let all = alike p (t ∷ us) ss h k fit in
    conjunction p (equations_from t us) (equations-sorted p all.0 all.1 t all.2.0 us all.2.1)

distinct-sorted : (p : ℕ) (ts : List Term) (ss : List Sort) → sorts_of p (operands_of ts) ≡ Some ss
    → nat_le 2 (length ss) ≡ true → EachFits p Free ss (NoMemory ∷ SameAs 0 ∷ replicate (length ss) (SameAs 0)) ss
    → sort_of p (left op.And (inequations ts)) ≡ Some sort.Bool
distinct-sorted p ts ss h k fit =
    let all = alike p ts ss h k fit in
    conjunction p (inequations ts) (inequations-sorted p all.0 all.1 ts all.2)

sorts_of-three : (p : ℕ) (t u v : Term) (s r q : Sort) → sort_of p t ≡ Some s → sort_of p u ≡ Some r
    → sort_of p v ≡ Some q → sorts_of p (operands_of (t ∷ u ∷ v ∷ [])) ≡ Some (s ∷ r ∷ q ∷ [])
sorts_of-three p t u v s r q h k l =
    sorts_of-then p t (operands_of (u ∷ v ∷ [])) s (r ∷ q ∷ []) h (sorts_of-two p u v r q k l)

compared-sorted : (p : ℕ) (ts : List Term) (ss : List Sort) → sorts_of p (operands_of ts) ≡ Some ss
    → eqb 2 (length ss) ≡ true → EachFits p Free ss (Vector ∷ SameAs 0 ∷ []) ss
    → sort_of p (applied op.Ite (applied op.Eq ts ∷ constant 1 1 ∷ constant 1 0 ∷ [])) ≡ Some (sort.Bits 1)
compared-sorted p ts ss h k fit =
    let two = words p ss k fit in
    let word : Sort = sort.Bits two.0 in
    let bit : Sort = sort.Bits 1 in
    let equal = sort_of-apply p op.Eq (operands_of ts) ss h ∙ ap (op_sort p op.Eq) two.1 ∙ equal_sort p word refl in
    sort_of-apply p op.Ite (operands_of (applied op.Eq ts ∷ constant 1 1 ∷ constant 1 0 ∷ []))
    (sort.Bool ∷ bit ∷ bit ∷ [])
    (sorts_of-three p (applied op.Eq ts) (constant 1 1) (constant 1 0) sort.Bool bit bit equal
    (nullary p (op.Bits 1 1) bit refl) (nullary p (op.Bits 1 0) bit refl))

-- ---- one bit-vector

one_vector : (p : ℕ) (ss : List Sort) → eqb 1 (length ss) ≡ true → EachFits p Free ss (Vector ∷ []) ss
    → (w : ℕ) × (ss ≡ sort.Bits w ∷ [])
one_vector p ss k fit =
    sorts_vector p Free ss ss (all_fit p Free ss (Vector ∷ []) ss ((Decides-eqb 1 (length ss)).0 k) fit)

one_term : (p : ℕ) (ts : List Term) (s : Sort) → sorts_of p (operands_of ts) ≡ Some (s ∷ [])
    → (t : Term) × (ts ≡ t ∷ []) × (sort_of p t ≡ Some s)
one_term p [] s h = absurd (cc (sorts_of-end p))
one_term p (t ∷ ts) s h =
    let parts = sorts_of-some p t (operands_of ts) (s ∷ []) h in
    let none = no_sorts p ts (parts.4 ∙ ap Some (sym (tails s parts.0 [] parts.1 parts.2))) in
    (t, ap (λ ts. t ∷ ts) none, parts.3 ∙ ap Some (sym (heads s parts.0 [] parts.1 parts.2)))

-- what holds of each bit-vector holds of the one that fits
on_vector : (P : List Sort → List Term → Type 0) (p : ℕ) → ((w : ℕ) (t : Term) → sort_of p t ≡ Some (sort.Bits w)
    → 1 ≤ w → w ≤ 64 → P (sort.Bits w ∷ []) (t ∷ [])) → (ss : List Sort) (ts : List Term)
    → sorts_of p (operands_of ts) ≡ Some ss → eqb 1 (length ss) ≡ true → EachFits p Free ss (Vector ∷ []) ss → P ss ts
on_vector P p all ss ts h k fit =
    let one = one_vector p ss k fit in
    let term = one_term p ts (sort.Bits one.0) (h ∙ ap Some one.1) in
    let sized = subst AreSized one.1 (sorts_of-sized p (operands_of ts) ss h) in
    subst (λ ss. P ss ts) (sym one.1) (subst (P (sort.Bits one.0 ∷ [])) (sym term.1)
    (all one.0 term.0 term.2 sized.0.0 sized.0.1))

vector_fits : (p : ℕ) (r : IndexRule) (ss : List Sort) → eqb 1 (length ss) ≡ true → EachFits p Free ss (Vector ∷ []) ss
    → AllFit p r ss (Vector ∷ []) ss
vector_fits p r ss k fit =
    let one = one_vector p ss k fit in
    subst (λ ss. AllFit p r ss (Vector ∷ []) ss) (sym one.1) (refl, tt)

extract_sort : (p w high low : ℕ) → low ≤ high → high < w → w ≤ 64
    → op_sort p (op.Extract high low) (sort.Bits w ∷ []) ≡ Some (sort.Bits (high - low + 1))
extract_sort p w high low h k narrow =
    op_sort-fitting p (op.Extract high low) (sort.Bits w ∷ [])
    (record {
      arity = refl;
      fit = (refl, tt);
      indexed = and-both (nat_le low high) (nat_lt high w) (le_true low high h) (lt-true high w k);
      narrow = omega arith;
    })

turned-sorted : (p w r : ℕ) (t : Term) → sort_of p t ≡ Some (sort.Bits w) → 0 < r → r < w → w ≤ 64
    → sort_of p (applied op.Concat (extracted (w - r - 1) 0 t ∷ extracted (w - 1) (w - r) t ∷ [])) ≡ Some (sort.Bits w)
turned-sorted p w r t h some fewer narrow =
    let high = applied-one p (op.Extract (w - r - 1) 0) t (sort.Bits w) (sort.Bits (w - r - 1 - 0 + 1)) h
    (extract_sort p w (w - r - 1) 0 (omega arith) (omega arith) narrow) in
    let low = applied-one p (op.Extract (w - 1) (w - r)) t (sort.Bits w) (sort.Bits (w - 1 - (w - r) + 1)) h
    (extract_sort p w (w - 1) (w - r) (omega arith) (omega arith) narrow) in
    let sum : w - r - 1 - 0 + 1 + (w - 1 - (w - r) + 1) ≡ w = omega arith in
    applied-two p op.Concat (extracted (w - r - 1) 0 t) (extracted (w - 1) (w - r) t) (sort.Bits (w - r - 1 - 0 + 1))
    (sort.Bits (w - 1 - (w - r) + 1)) (sort.Bits (w - r - 1 - 0 + 1 + (w - 1 - (w - r) + 1))) high low
    (concat_sort p (w - r - 1 - 0 + 1) (w - 1 - (w - r) + 1) (omega arith))
    ∙ ap (λ n. Some (sort.Bits n)) sum

some_places : (r : ℕ) → eqb (suc r) 0 ≡ false
some_places r = grind (arith, nat_tests)

rotated-sorted : (p w r : ℕ) (t : Term) → sort_of p t ≡ Some (sort.Bits w) → r < w → w ≤ 64
    → sort_of p (rotated w r t) ≡ Some (sort.Bits w)
rotated-sorted p w zero t h fewer narrow = h
rotated-sorted p w (suc r) t h fewer narrow =
    let turned = applied op.Concat (extracted (w - suc r - 1) 0 t ∷ extracted (w - 1) (w - suc r) t ∷ []) in
    ap (λ b. sort_of p (cond b t turned)) (some_places r) ∙ turned-sorted p w (suc r) t h (omega arith) fewer narrow

repeated-sorted : (p w : ℕ) (t : Term) → sort_of p t ≡ Some (sort.Bits w) → (n v : ℕ) (u : Term)
    → sort_of p u ≡ Some (sort.Bits v) → v + n * w ≤ 64
    → sort_of p (left_from op.Concat u (replicate n t)) ≡ Some (sort.Bits (v + n * w))
repeated-sorted p w t h zero v u k narrow =
    let same : v ≡ v + 0 * w = omega arith in k ∙ ap (λ n. Some (sort.Bits n)) same
repeated-sorted p w t h (suc n) v u k narrow =
    let same : v + w + n * w ≡ v + suc n * w = omega arith in
    repeated-sorted p w t h n (v + w) (applied op.Concat (u ∷ t ∷ []))
    (applied-two p op.Concat u t (sort.Bits v) (sort.Bits w) (sort.Bits (v + w)) k h
    (concat_sort p v w (omega arith))) (omega arith)
    ∙ ap (λ n. Some (sort.Bits n)) same

copies-sorted : (p w k : ℕ) (t : Term) → sort_of p t ≡ Some (sort.Bits w) → 1 ≤ k → k * w ≤ 64
    → sort_of p (left op.Concat (replicate k t)) ≡ Some (sort.Bits (k * w))
copies-sorted p w zero t h some narrow = absurd (omega arith)
copies-sorted p w (suc n) t h some narrow =
    let same : w + n * w ≡ suc n * w = omega arith in
    repeated-sorted p w t h n w t h (omega arith) ∙ ap (λ n. Some (sort.Bits n)) same

-- ---- the signed divisions

-- the term is a bit-vector of w bits, and w is a width
abbrev IsWord : ℕ → ℕ → Term → Type 0
IsWord p w t = sort_of p t ≡ Some (sort.Bits w)

abbrev IsWidth : ℕ → Type 0
IsWidth w = (1 ≤ w) × (w ≤ 64)

negated-sorted : (p w : ℕ) → IsWidth w → (t : Term) → IsWord p w t → IsWord p w (negated t)
negated-sorted p w size t h =
    applied-one p op.BvNeg t (sort.Bits w) (sort.Bits w) h
    (op_sort-fitting p op.BvNeg (sort.Bits w ∷ [])
    (record { arity = refl; fit = (refl, tt); indexed = refl; narrow = size.1 }))

on_two-sorted : (p w : ℕ) → IsWidth w → (o : Op) → signature o ≡ arithmetic → (t u : Term) → IsWord p w t
    → IsWord p w u → IsWord p w (on_two o t u)
on_two-sorted p w size o e t u h k =
    applied-two p o t u (sort.Bits w) (sort.Bits w) (sort.Bits w) h k (word_sort p o e (sort.Bits w) refl size.1)

zero-sorted : (p w : ℕ) → IsWidth w → IsWord p w (constant w 0)
zero-sorted p w size =
    let width = and-both (nat_le 1 w) (nat_le w 64) (le_true 1 w size.0) (le_true w 64 size.1) in
    nullary p (op.Bits w 0) (sort.Bits w)
    (op_sort-fitting p (op.Bits w 0) []
    (record {
      arity = refl;
      fit = tt;
      indexed = and-both (is_width w) (nat_lt 0 (2 ^ w)) width (lt-true 0 (2 ^ w) (pow_pos w));
      narrow = size.1;
    }))

choice-sorted : (p w : ℕ) → IsWidth w → (t u v : Term) → sort_of p t ≡ Some sort.Bool → IsWord p w u → IsWord p w v
    → IsWord p w (applied op.Ite (t ∷ u ∷ v ∷ []))
choice-sorted p w size t u v h k l =
    let word : Sort = sort.Bits w in
    sort_of-apply p op.Ite (operands_of (t ∷ u ∷ v ∷ [])) (sort.Bool ∷ word ∷ word ∷ [])
    (sorts_of-three p t u v sort.Bool word word h k l)
    ∙ op_sort-fitting p op.Ite (sort.Bool ∷ word ∷ word ∷ [])
    (record { arity = refl; fit = (refl, (refl, (same_sort-itself word, tt))); indexed = refl; narrow = size.1 })

if_negative-sorted : (p w : ℕ) → IsWidth w → (t u v : Term) → IsWord p w t → IsWord p w u → IsWord p w v
    → IsWord p w (if_negative w t u v)
if_negative-sorted p w size t u v h k l =
    choice-sorted p w size (is_negative w t) u v
    (applied-two p op.BvSlt t (constant w 0) (sort.Bits w) (sort.Bits w) sort.Bool h (zero-sorted p w size)
    (order_sort p op.BvSlt refl (sort.Bits w) refl)) k l

absolute-sorted : (p w : ℕ) → IsWidth w → (t : Term) → IsWord p w t → IsWord p w (absolute w t)
absolute-sorted p w size t h = if_negative-sorted p w size t (negated t) t h (negated-sorted p w size t h) h

by_signs-sorted : (p w : ℕ) → IsWidth w → (s t a b c d : Term) → IsWord p w s → IsWord p w t → IsWord p w a
    → IsWord p w b → IsWord p w c → IsWord p w d → IsWord p w (by_signs w s t a b c d)
by_signs-sorted p w size s t a b c d h k ha hb hc hd =
    if_negative-sorted p w size s (if_negative w t d b) (if_negative w t c a) h
    (if_negative-sorted p w size t d b k hd hb) (if_negative-sorted p w size t c a k hc ha)

modulo-sorted : (p w : ℕ) → IsWidth w → (u s t : Term) → IsWord p w u → IsWord p w s → IsWord p w t
    → IsWord p w (modulo_of w u s t)
modulo-sorted p w size u s t h k l =
    let opposite = negated-sorted p w size u h in
    choice-sorted p w size (equation u (constant w 0)) u (signed_as_divisor w u s t)
    (equation-sorted p (sort.Bits w) refl u (constant w 0) h (zero-sorted p w size)) h
    (by_signs-sorted p w size s t u (on_two op.BvAdd (negated u) t) (on_two op.BvAdd u t) (negated u) k l h
    (on_two-sorted p w size op.BvAdd refl (negated u) t opposite l) (on_two-sorted p w size op.BvAdd refl u t h l)
    opposite)

signed-sorted : (p w : ℕ) → IsWidth w → (d : Division) (s t : Term) → IsWord p w s → IsWord p w t
    → IsWord p w (signed d w s t)
signed-sorted p w size division.Quotient s t h k =
    let made = on_two-sorted p w size op.BvUdiv refl in
    let h' = negated-sorted p w size s h in
    let k' = negated-sorted p w size t k in
    by_signs-sorted p w size s t _ _ _ _ h k (made s t h k) (negated-sorted p w size _ (made (negated s) t h' k))
    (negated-sorted p w size _ (made s (negated t) h k')) (made (negated s) (negated t) h' k')
signed-sorted p w size division.Remainder s t h k =
    let made = on_two-sorted p w size op.BvUrem refl in
    let h' = negated-sorted p w size s h in
    let k' = negated-sorted p w size t k in
    by_signs-sorted p w size s t _ _ _ _ h k (made s t h k) (negated-sorted p w size _ (made (negated s) t h' k))
    (made s (negated t) h k') (negated-sorted p w size _ (made (negated s) (negated t) h' k'))
signed-sorted p w size division.Modulo s t h k =
    modulo-sorted p w size (on_two op.BvUrem (absolute w s) (absolute w t)) s t
    (on_two-sorted p w size op.BvUrem refl (absolute w s) (absolute w t) (absolute-sorted p w size s h)
    (absolute-sorted p w size t k)) h k

signed-words : (p : ℕ) (d : Division) (ts : List Term) (ss : List Sort) → sorts_of p (operands_of ts) ≡ Some ss
    → eqb 2 (length ss) ≡ true → EachFits p Free ss (Vector ∷ SameAs 0 ∷ []) ss
    → sort_of p (written (Signed d) ss ts) ≡ Some (result_sort (Signed d) ss)
signed-words p d ts ss h k fit =
    let two = words p ss k fit in
    let word : Sort = sort.Bits two.0 in
    let terms = two_terms p ts word word (h ∙ ap Some two.1) in
    let sized = subst AreSized two.1 (sorts_of-sized p (operands_of ts) ss h) in
    subst (λ ss. sort_of p (written (Signed d) ss ts) ≡ Some (result_sort (Signed d) ss)) (sym two.1)
    (subst (λ ts. sort_of p (written (Signed d) (word ∷ word ∷ []) ts) ≡ Some word) (sym terms.2)
    (signed-sorted p two.0 (sized.0.0, sized.0.1) d terms.0 terms.1 terms.3 terms.4))

-- ---- all operators

written-result : (p : ℕ) (o : Operator) (ss : List Sort) → Fits p o ss → (ts : List Term)
    → sorts_of p (operands_of ts) ≡ Some ss → sort_of p (written o ss ts) ≡ Some (result_sort o ss)
written-result p (Operation o) ss f ts h = applied-fitting p o ts ss h (operation-fitting p o ss f)
written-result p (Left left_op.And) ss f ts h = left-truths p op.And refl ts ss h f.taken f.fit
written-result p (Left left_op.Or) ss f ts h = left-truths p op.Or refl ts ss h f.taken f.fit
written-result p (Left left_op.Xor) ss f ts h = left-truths p op.Xor refl ts ss h f.taken f.fit
written-result p (Left left_op.BvAnd) ss f ts h = left-words p op.BvAnd refl ts ss h f.taken f.fit f.narrow
written-result p (Left left_op.BvOr) ss f ts h = left-words p op.BvOr refl ts ss h f.taken f.fit f.narrow
written-result p (Left left_op.BvXor) ss f ts h = left-words p op.BvXor refl ts ss h f.taken f.fit f.narrow
written-result p (Left left_op.BvAdd) ss f ts h = left-words p op.BvAdd refl ts ss h f.taken f.fit f.narrow
written-result p (Left left_op.BvMul) ss f ts h = left-words p op.BvMul refl ts ss h f.taken f.fit f.narrow
written-result p (Left left_op.Concat) ss f ts h = left-concat p ts ss h f.taken f.fit f.narrow
written-result p Equal ss f ts h = equal-sorted p ts ss h f.taken f.fit
written-result p Distinct ss f ts h = distinct-sorted p ts ss h f.taken f.fit
written-result p Implies ss f ts h = right-truths p op.Implies refl ts ss h f.taken f.fit
written-result p (Inverted bitwise.BvAnd) ss f ts h = inverted-words p op.BvAnd refl ts ss h f.taken f.fit f.narrow
written-result p (Inverted bitwise.BvOr) ss f ts h = inverted-words p op.BvOr refl ts ss h f.taken f.fit f.narrow
written-result p (Inverted bitwise.BvXor) ss f ts h = inverted-words p op.BvXor refl ts ss h f.taken f.fit f.narrow
written-result p (Exchanged order.BvUlt) ss f ts h = exchanged-words p op.BvUlt refl ts ss h f.taken f.fit
written-result p (Exchanged order.BvUle) ss f ts h = exchanged-words p op.BvUle refl ts ss h f.taken f.fit
written-result p (Exchanged order.BvSlt) ss f ts h = exchanged-words p op.BvSlt refl ts ss h f.taken f.fit
written-result p (Exchanged order.BvSle) ss f ts h = exchanged-words p op.BvSle refl ts ss h f.taken f.fit
written-result p BvComp ss f ts h = compared-sorted p ts ss h f.taken f.fit
written-result p (Signed d) ss f ts h = signed-words p d ts ss h f.taken f.fit
written-result p (Extract high low) ss f ts h =
    applied-fitting p (op.Extract high low) ts ss h
    (record {
      arity = sym ((Decides-eqb 1 (length ss)).0 f.taken);
      fit = vector_fits p (Slice high low) ss f.taken f.fit;
      indexed = f.indexed;
      narrow = f.narrow;
    })
written-result p (ZeroExtend k) ss f ts h =
    applied-fitting p (op.ZeroExtend k) ts ss h
    (record {
      arity = sym ((Decides-eqb 1 (length ss)).0 f.taken);
      fit = vector_fits p Free ss f.taken f.fit;
      indexed = refl;
      narrow = f.narrow;
    })
written-result p (SignExtend k) ss f ts h =
    applied-fitting p (op.SignExtend k) ts ss h
    (record {
      arity = sym ((Decides-eqb 1 (length ss)).0 f.taken);
      fit = vector_fits p Free ss f.taken f.fit;
      indexed = refl;
      narrow = f.narrow;
    })
written-result p (RotateLeft k) ss f ts h =
    on_vector (λ ss ts. sort_of p (written (RotateLeft k) ss ts) ≡ Some (result_sort (RotateLeft k) ss)) p
    (λ w t sorted wide narrow. rotated-sorted p w (k % w) t sorted (mod_below k w wide) narrow)
    ss ts h f.taken f.fit
written-result p (RotateRight k) ss f ts h =
    on_vector (λ ss ts. sort_of p (written (RotateRight k) ss ts) ≡ Some (result_sort (RotateRight k) ss)) p
    (λ w t sorted wide narrow. rotated-sorted p w ((w - k % w) % w) t sorted (mod_below (w - k % w) w wide) narrow)
    ss ts h f.taken f.fit
written-result p (Repeat k) ss f ts h =
    on_vector (λ ss ts. k * width_at ss 0 ≤ 64
    → sort_of p (written (Repeat k) ss ts) ≡ Some (result_sort (Repeat k) ss)) p
    (λ w t sorted wide narrow small. copies-sorted p w k t sorted (le-from_test 1 k f.indexed) small)
    ss ts h f.taken f.fit f.narrow

-- an operator that may stand over terms is written out as a term of its sort
pub written-sorted : (p : ℕ) (o : Operator) (ss : List Sort) (s : Sort) → judge p o ss ≡ Ok s → (ts : List Term)
    → sorts_of p (operands_of ts) ≡ Some ss → sort_of p (written o ss ts) ≡ Some s
written-sorted p o ss s h ts k =
    let fitting = Fits-of p o ss s h in
    written-result p o ss fitting.0 ts k ∙ ap Some fitting.1

the_ok : (r : Result Sort OperatorFault) → IsOk r → (s : Sort) × (r ≡ Ok s)
the_ok (Ok s) h = (s, refl)
the_ok (Err f) h = cc

pub written-well_sorted : (table : Table) → IsTable table → (o : Operator) (ids : List TermId) → AreNodes table ids
    → IsOk (judge table.pointer o (sorts_at table ids))
    → IsWellSorted table (written o (sorts_at table ids) (terms_at table ids))
written-well_sorted table is o ids all h =
    let fitting = the_ok (judge table.pointer o (sorts_at table ids)) h in
    let sorted = written-sorted table.pointer o (sorts_at table ids) fitting.0 fitting.1 (terms_at table ids)
    (sorts_at-is table is ids all) in
    some-is (sort_of table.pointer (written o (sorts_at table ids) (terms_at table ids))) fitting.0 sorted

-- ---- what casts and remainders ask

sized_at : (table : Table) → IsTable table → (ids : List TermId) → AreNodes table ids → AreSized (sorts_at table ids)
sized_at table is ids all =
    sorts_of-sized table.pointer (operands_of (terms_at table ids)) (sorts_at table ids) (sorts_at-is table is ids all)

width_is : (p : ℕ) (ss : List Sort) → eqb 1 (length ss) ≡ true → EachFits p Free ss (Vector ∷ []) ss → AreSized ss
    → (1 ≤ width_at ss 0) × (width_at ss 0 ≤ 64)
width_is p ss k fit sized =
    let one = one_vector p ss k fit in
    let at = subst AreSized one.1 sized in
    subst (λ ss. (1 ≤ width_at ss 0) × (width_at ss 0 ≤ 64)) (sym one.1) (at.0.0, at.0.1)

pub extract-small : (table : Table) → IsTable table → (high low : ℕ) (ids : List TermId) → AreNodes table ids
    → IsOk (judge table.pointer (Extract high low) (sorts_at table ids)) → (high < 256) × (low < 256)
extract-small table is high low ids all h =
    let ss = sorts_at table ids in
    let fitting = the_ok (judge table.pointer (Extract high low) ss) h in
    let f = (Fits-of table.pointer (Extract high low) ss fitting.0 fitting.1).0 in
    let width = width_is table.pointer ss f.taken f.fit (sized_at table is ids all) in
    let tests = and_parts (nat_le low high) (nat_lt high (width_at ss 0)) f.indexed in
    let below = ltb-true high (width_at ss 0) tests.1 in
    let order = le-from_test low high tests.0 in
    (omega arith, omega arith)

pub rotate-wide : (table : Table) → IsTable table → (k : ℕ) (ids : List TermId) → AreNodes table ids
    → IsOk (judge table.pointer (RotateLeft k) (sorts_at table ids)) → 1 ≤ width_at (sorts_at table ids) 0
rotate-wide table is k ids all h =
    let ss = sorts_at table ids in
    let fitting = the_ok (judge table.pointer (RotateLeft k) ss) h in
    let f = (Fits-of table.pointer (RotateLeft k) ss fitting.0 fitting.1).0 in
    (width_is table.pointer ss f.taken f.fit (sized_at table is ids all)).0
