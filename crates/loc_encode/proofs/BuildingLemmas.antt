-- Terms that choose between others: that a table takes them, their sorts, inputs and values.
use Rattle.std.proofs.Common.{◌≡◌, ℕ, ◌<◌, ◌≤◌, Bool, true, false, List, [], ◌∷◌, Some, None, inl, inr, ◌&&◌}
use Rattle.std.proofs.Common.{refl, sym, ap, ◌∙◌, subst, arith, slice_get, unwrap_or, ◌^◌}
use Rattle.std.specs.Prelude.{if◌then◌else◌, option_and_then, nat_le, nat_lt, ◌==◌}
use Rattle.std.proofs.lemmas.Bool.{eq-eqb}
use Rattle.bv_terms.specs.declared.op.Op.{Op}
use Rattle.bv_terms.specs.declared.op.Op.TheVariants as op
use Rattle.bv_terms.specs.declared.op.TermId.{TermId}
use Rattle.bv_terms.specs.declared.value.Sort.{Sort}
use Rattle.bv_terms.specs.declared.value.Sort.TheVariants as sort
use Rattle.bv_terms.specs.declared.value.Value.{Value}
use Rattle.bv_terms.specs.declared.value.Value.TheVariants as val
use Rattle.bv_terms.specs.Term.{Term, Operands, Apply, End, Then, value, same_value, op_value}
use Rattle.bv_terms.specs.Sorts.{HasSort, IsSized}
use Rattle.bv_terms.specs.Signature.{signature, refusal, result_sort}
use Rattle.bv_terms.specs.WellSorted.{sort_of, sorts_of, op_sort, sort_unless}
use Rattle.bv_terms.specs.Table.{Table, term_at, make_refusal, Extends, operands, terms_of}
use Rattle.bv_terms.specs.Subterm.{IsSubterm}
use Rattle.bv_terms.proofs.TermLemmas.{sort_of-sized}
use Rattle.bv_terms.proofs.GraftLemmas.{Extends-term, Extends-longer}
use Rattle.list_lemmas.proofs.Bools.{le_true, lt-true}
use Rattle.pattern_core.specs.Claim.{Claim}
use Rattle.loc_encode.specs.declared.slots.Slot.{Slot}
use Rattle.loc_encode.specs.Slots.{IsSlot, slot_number}
use Rattle.loc_encode.specs.Parts.{IsOver}
use Rattle.loc_encode.specs.Building.{constant_term, input_term, choice_term, equal_term, both_term}
use Rattle.loc_encode.specs.Building.{IsOneSort, AreTruths}

-- ---- sorts

pub sorts_then : (p : ℕ) (t : Term) (ts : Operands) (s : Sort) (ss : List Sort) → sort_of p t ≡ Some s
    → sorts_of p ts ≡ Some ss → sorts_of p (Then t ts) ≡ Some (s ∷ ss)
unfolding sort_of
sorts_then p t ts s ss h k =
    λ i. option_and_then (λ s. option_and_then (λ (ss : List Sort). Some (s ∷ ss)) (k i)) (h i)

pub sorts_end : (p : ℕ) → sorts_of p End ≡ Some []
unfolding sort_of
sorts_end p = refl

sort_from : (p : ℕ) (o : Op) (ts : Operands) (ss : List Sort) → sorts_of p ts ≡ Some ss → refusal p o ss ≡ None
    → sort_of p (Apply o ts) ≡ Some (result_sort (signature o).result ss)
unfolding sort_of
sort_from p o ts ss e r =
    ap (option_and_then (op_sort p o)) e ∙ ap (λ f. sort_unless f (result_sort (signature o).result ss)) r

two : (p : ℕ) (t u : Term) (s r : Sort) → sort_of p t ≡ Some s → sort_of p u ≡ Some r
    → sorts_of p (Then t (Then u End)) ≡ Some (s ∷ r ∷ [])
two p t u s r h k = sorts_then p t (Then u End) s (r ∷ []) h (sorts_then p u End r [] k (sorts_end p))

allowed_equal : (p : ℕ) (s : Sort) → ¬ (s ≡ sort.Mem) → refusal p op.Eq (s ∷ s ∷ []) ≡ None
allowed_equal p sort.Bool plain = refl
allowed_equal p (sort.Bits w) plain = let e : (w == w) ≡ true = eq-eqb w w refl in rw e refl
allowed_equal p sort.Mem plain = absurd (plain refl)

allowed_choice : (p : ℕ) (s : Sort) → ¬ (s ≡ sort.Mem) → IsSized s → refusal p op.Ite (sort.Bool ∷ s ∷ s ∷ []) ≡ None
allowed_choice p sort.Bool plain sized = refl
allowed_choice p (sort.Bits w) plain sized =
    let e : (w == w) ≡ true = eq-eqb w w refl in
    let l : nat_le w 64 ≡ true = le_true w 64 sized.1 in
    rw (e, l) refl
allowed_choice p sort.Mem plain sized = absurd (plain refl)

allowed_input : (p k : ℕ) (s : Sort) → IsSized s → refusal p (op.Input k s) [] ≡ None
allowed_input p k sort.Bool sized = refl
allowed_input p k (sort.Bits w) sized =
    let a : nat_le 1 w ≡ true = le_true 1 w sized.0 in
    let b : nat_le w 64 ≡ true = le_true w 64 sized.1 in
    rw (a, b) refl
allowed_input p k sort.Mem sized = refl

allowed_bits : (p w n : ℕ) → 1 ≤ w → w ≤ 64 → n < 2 ^ w → refusal p (op.Bits w n) [] ≡ None
allowed_bits p w n h k l =
    let a : nat_le 1 w ≡ true = le_true 1 w h in
    let b : nat_le w 64 ≡ true = le_true w 64 k in
    let d : nat_lt n (2 ^ w) ≡ true = lt-true n (2 ^ w) l in
    rw (a, b, d) refl

-- ---- that a table takes them

pub made_input : (table : Table) (k : ℕ) (s : Sort) → IsSized s → make_refusal table (op.Input k s) [] ≡ None
made_input table k s h =
    ap (option_and_then (refusal table.pointer (op.Input k s))) (sorts_end table.pointer)
    ∙ allowed_input table.pointer k s h

pub made_truth : (table : Table) (b : Bool) → make_refusal table (op.Bool b) [] ≡ None
made_truth table b =
    ap (option_and_then (refusal table.pointer (op.Bool b))) (sorts_end table.pointer)

pub made_bits : (table : Table) (w n : ℕ) (s : Sort) → HasSort s (val.Bits w n) → IsSized s
    → make_refusal table (op.Bits w n) [] ≡ None
made_bits table w n sort.Bool h sized = absurd h
made_bits table w n sort.Mem h sized = absurd h
made_bits table w n (sort.Bits v) h sized =
    ap (option_and_then (refusal table.pointer (op.Bits w n))) (sorts_end table.pointer)
    ∙ allowed_bits table.pointer w n (omega (arith, h.0, sized.0)) (omega (arith, h.0, sized.1))
    (subst (λ v. n < 2 ^ v) (sym h.0) h.1)

pub made_equal : (table : Table) (a b : TermId) → IsOneSort table a b → make_refusal table op.Eq (a ∷ b ∷ []) ≡ None
made_equal table a b is =
    let p = table.pointer in
    ap (option_and_then (refusal p op.Eq)) (two p (term_at table a) (term_at table b) is.one is.one is.sorted
    is.other_sorted)
    ∙ allowed_equal p is.one is.plain

pub made_both : (table : Table) (a b : TermId) → AreTruths table a b → make_refusal table op.And (a ∷ b ∷ []) ≡ None
made_both table a b are =
    let p = table.pointer in
    ap (option_and_then (refusal p op.And)) (two p (term_at table a) (term_at table b) sort.Bool sort.Bool are.sorted
    are.other_sorted)

pub made_choice : (table : Table) (k a b : TermId) → IsOneSort table a b
    → sort_of table.pointer (term_at table k) ≡ Some sort.Bool
    → make_refusal table op.Ite (k ∷ a ∷ b ∷ []) ≡ None
made_choice table k a b is truth =
    let p = table.pointer in
    ap (option_and_then (refusal p op.Ite)) (sorts_then p (term_at table k) _ sort.Bool (is.one ∷ is.one ∷ []) truth
    (two p (term_at table a) (term_at table b) is.one is.one is.sorted is.other_sorted))
    ∙ allowed_choice p is.one is.plain (sort_of-sized p (term_at table a) is.one is.sorted)

-- the term of a choice, made after its input
pub choice-made : (old mid new : Table) (truth chosen other id : TermId) (k : ℕ) → IsOneSort old chosen other
    → Extends old mid → term_at mid truth ≡ input_term k sort.Bool
    → term_at new id ≡ Apply op.Ite (operands (terms_of mid) (truth ∷ chosen ∷ other ∷ []))
    → term_at new id ≡ choice_term k (term_at old chosen) (term_at old other)
choice-made old mid new truth chosen other id k is more first e =
    e ∙ (λ i. Apply op.Ite (Then (first i) (Then (Extends-term old mid more chosen is.there i)
    (Then (Extends-term old mid more other is.other_there i) End))))

-- what a longer table keeps
pub IsOneSort-longer : (old new : Table) (a b : TermId) → Extends old new → IsOneSort old a b → IsOneSort new a b
IsOneSort-longer old new a b more is = record {
  one = is.one;
  plain = is.plain;
  there = omega (arith, is.there, Extends-longer old new more);
  other_there = omega (arith, is.other_there, Extends-longer old new more);
  sorted = (λ i. sort_of (more.pointer i) (Extends-term old new more a is.there i)) ∙ is.sorted;
  other_sorted = (λ i. sort_of (more.pointer i) (Extends-term old new more b is.other_there i)) ∙ is.other_sorted;
}

-- ---- the sorts of the terms

pub sort-input : (p k : ℕ) (s : Sort) → IsSized s → sort_of p (input_term k s) ≡ Some s
sort-input p k s h = sort_from p (op.Input k s) End [] (sorts_end p) (allowed_input p k s h)

pub sort-constant : (p : ℕ) (v : Value) (s : Sort) → HasSort s v → IsSized s → sort_of p (constant_term v) ≡ Some s
sort-constant p (val.Bool b) sort.Bool h sized = sort_from p (op.Bool b) End [] (sorts_end p) refl
sort-constant p (val.Bool b) (sort.Bits w) h sized = absurd h
sort-constant p (val.Bool b) sort.Mem h sized = absurd h
sort-constant p (val.Bits w n) sort.Bool h sized = absurd h
sort-constant p (val.Bits w n) sort.Mem h sized = absurd h
sort-constant p (val.Bits w n) (sort.Bits v) h sized =
    sort_from p (op.Bits w n) End [] (sorts_end p)
    (allowed_bits p w n (omega (arith, h.0, sized.0)) (omega (arith, h.0, sized.1))
    (subst (λ v. n < 2 ^ v) (sym h.0) h.1))
    ∙ ap (λ x. Some (sort.Bits x)) h.0

pub sort-choice : (p k : ℕ) (t u : Term) (s : Sort) → ¬ (s ≡ sort.Mem) → sort_of p t ≡ Some s → sort_of p u ≡ Some s
    → sort_of p (choice_term k t u) ≡ Some s
sort-choice p k t u s plain h g =
    sort_from p op.Ite _ (sort.Bool ∷ s ∷ s ∷ [])
    (sorts_then p (input_term k sort.Bool) _ sort.Bool (s ∷ s ∷ []) (sort-input p k sort.Bool tt) (two p t u s s h g))
    (allowed_choice p s plain (sort_of-sized p t s h))

pub sort-equal : (p : ℕ) (t u : Term) (s : Sort) → ¬ (s ≡ sort.Mem) → sort_of p t ≡ Some s → sort_of p u ≡ Some s
    → sort_of p (equal_term t u) ≡ Some sort.Bool
sort-equal p t u s plain h g = sort_from p op.Eq _ (s ∷ s ∷ []) (two p t u s s h g) (allowed_equal p s plain)

pub sort-both : (p : ℕ) (t u : Term) → sort_of p t ≡ Some sort.Bool → sort_of p u ≡ Some sort.Bool
    → sort_of p (both_term t u) ≡ Some sort.Bool
sort-both p t u h g = sort_from p op.And _ (sort.Bool ∷ sort.Bool ∷ []) (two p t u sort.Bool sort.Bool h g) refl

-- ---- values

pub value-constant : (env : List Value) (v : Value) → value env (constant_term v) ≡ v
unfolding value
value-constant env (val.Bool b) = refl
value-constant env (val.Bits w n) = refl

pub value-input : (env : List Value) (k : ℕ) (s : Sort) (v : Value) → slice_get env k ≡ Some v
    → value env (input_term k s) ≡ v
unfolding value
value-input env k s v h = ap (λ o. unwrap_or o (val.Bool false)) h

pub value-choice : (env : List Value) (k : ℕ) (t u : Term) (b : Bool) → slice_get env k ≡ Some (val.Bool b)
    → value env (choice_term k t u) ≡ (if b then value env t else value env u)
unfolding value
value-choice env k t u b h =
    ap (λ o. op_value env op.Ite (unwrap_or o (val.Bool false) ∷ value env t ∷ value env u ∷ [])) h

pub value-equal : (env : List Value) (t u : Term)
    → value env (equal_term t u) ≡ val.Bool (same_value (value env t) (value env u))
unfolding value
value-equal env t u = refl

pub value-both : (env : List Value) (t u : Term) (x y : Bool) → value env t ≡ val.Bool x → value env u ≡ val.Bool y
    → value env (both_term t u) ≡ val.Bool (x && y)
unfolding value
value-both env t u x y h g = λ i. op_value env op.And (h i ∷ g i ∷ [])

-- ---- inputs

pub over-constant : (c : Claim) (v : Value) → IsOver c (constant_term v)
unfolding IsSubterm
over-constant c (val.Bool b) k s (inl e) = absurd (cc)
over-constant c (val.Bool b) k s (inr none) = absurd none
over-constant c (val.Bits w n) k s (inl e) = absurd (cc)
over-constant c (val.Bits w n) k s (inr none) = absurd none

pub over-input : (c : Claim) (x : Slot) (s : Sort) → IsSlot c x s → IsOver c (input_term (slot_number x) s)
unfolding IsSubterm
over-input c x s is k r (inl e) =
    let same : k ≡ slot_number x = cc in
    let sorts : s ≡ r = cc in
    (x, subst (IsSlot c x) sorts is, same)
over-input c x s is k r (inr none) = absurd none

pub over-choice : (c : Claim) (x : Slot) (t u : Term) → IsSlot c x sort.Bool → IsOver c t → IsOver c u
    → IsOver c (choice_term (slot_number x) t u)
unfolding IsSubterm
over-choice c x t u is h g k s (inl e) = absurd (cc)
over-choice c x t u is h g k s (inr (inl e)) = over-input c x sort.Bool is k s e
over-choice c x t u is h g k s (inr (inr (inl e))) = h k s e
over-choice c x t u is h g k s (inr (inr (inr (inl e)))) = g k s e
over-choice c x t u is h g k s (inr (inr (inr (inr none)))) = absurd none

pub over-equal : (c : Claim) (t u : Term) → IsOver c t → IsOver c u → IsOver c (equal_term t u)
unfolding IsSubterm
over-equal c t u h g k s (inl e) = absurd (cc)
over-equal c t u h g k s (inr (inl e)) = h k s e
over-equal c t u h g k s (inr (inr (inl e))) = g k s e
over-equal c t u h g k s (inr (inr (inr none))) = absurd none

pub over-both : (c : Claim) (t u : Term) → IsOver c t → IsOver c u → IsOver c (both_term t u)
unfolding IsSubterm
over-both c t u h g k s (inl e) = absurd (cc)
over-both c t u h g k s (inr (inl e)) = h k s e
over-both c t u h g k s (inr (inr (inl e))) = g k s e
over-both c t u h g k s (inr (inr (inr none))) = absurd none
