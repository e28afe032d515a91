-- What terms of truth values are, and the tests that they make.
use Rattle.std.proofs.Common.{◌≡◌, ℕ, ◌≤◌, ◌⊎◌, ⊎_elim, Bool, true, false, not, ◌&&◌, ◌||◌, List, []}
use Rattle.std.proofs.Common.{◌∷◌}
use Rattle.std.proofs.Common.{slice_get, Some, refl, sym, ap, ◌∙◌, subst, unwrap_or, cond}
use Rattle.bv_terms.specs.declared.op.Op.{Op}
use Rattle.bv_terms.specs.declared.op.Op.TheVariants as op
use Rattle.bv_terms.specs.declared.op.TermId.{TermId}
use Rattle.bv_terms.specs.declared.value.Sort.{Sort}
use Rattle.bv_terms.specs.declared.value.Sort.TheVariants as sort
use Rattle.bv_terms.specs.declared.value.Value.{Value}
use Rattle.bv_terms.specs.declared.value.Value.TheVariants as val
use Rattle.bv_terms.specs.Term.{Term, Operands, Apply, End, Then, op_value, same_value, value}
use Rattle.bv_terms.specs.Sorts.{IsSized}
use Rattle.bv_terms.specs.WellSorted.{sort_of, sorts_of, op_sort}
use Rattle.bv_terms.specs.Subterm.{IsSubterm, IsSubtermAmong}
use Rattle.bv_terms.specs.Table.{Table, term_at, Extends}
use Rattle.bv_terms.proofs.MakeLemmas.{sorts_of-end, sorts_of-then, sort_of-apply}
use Rattle.pattern_core.specs.Claim.{Claim}
use Rattle.std.specs.Prelude.{nat_le}
use Rattle.list_lemmas.proofs.Bools.{le_true}
use Rattle.loc_encode.specs.declared.slots.Slot.{Slot}
use Rattle.loc_encode.specs.declared.slots.Slot.TheVariants as slot
use Rattle.loc_encode.specs.Slots.{slot_number, IsSlot}
use Rattle.loc_encode.specs.Parts.{IsOver, IsTruthOver}
use Rattle.loc_encode.specs.Truths.{truth, input, negation, conjunction, disjunction, equality, choice}
use Rattle.loc_encode.specs.Truths.{Denotes}
use Rattle.loc_encode.specs.Tests.{IsTruthTerm}
use Rattle.loc_encode.proofs.TallyLemmas.{equal_test}

-- ---- sorts

truth-sorted : (p : ℕ) (b : Bool) → sort_of p (truth b) ≡ Some sort.Bool
truth-sorted p b = sort_of-apply p (op.Bool b) End [] (sorts_of-end p)

input-sorted : (p k : ℕ) → sort_of p (input k sort.Bool) ≡ Some sort.Bool
input-sorted p k = sort_of-apply p (op.Input k sort.Bool) End [] (sorts_of-end p)

one-sorted : (p : ℕ) (t : Term) (s : Sort) → sort_of p t ≡ Some s → sorts_of p (Then t End) ≡ Some (s ∷ [])
one-sorted p t s e = sorts_of-then p t End s [] e (sorts_of-end p)

two-sorted : (p : ℕ) (t u : Term) (r s : Sort) → sort_of p t ≡ Some r → sort_of p u ≡ Some s
    → sorts_of p (Then t (Then u End)) ≡ Some (r ∷ s ∷ [])
two-sorted p t u r s e f = sorts_of-then p t (Then u End) r (s ∷ []) e (one-sorted p u s f)

negation-sorted : (p : ℕ) (t : Term) → sort_of p t ≡ Some sort.Bool → sort_of p (negation t) ≡ Some sort.Bool
negation-sorted p t e = sort_of-apply p op.Not (Then t End) (sort.Bool ∷ []) (one-sorted p t sort.Bool e)

conjunction-sorted : (p : ℕ) (t u : Term) → sort_of p t ≡ Some sort.Bool → sort_of p u ≡ Some sort.Bool
    → sort_of p (conjunction t u) ≡ Some sort.Bool
conjunction-sorted p t u e f = sort_of-apply p op.And (Then t (Then u End)) (sort.Bool ∷ sort.Bool ∷ [])
    (two-sorted p t u sort.Bool sort.Bool e f)

disjunction-sorted : (p : ℕ) (t u : Term) → sort_of p t ≡ Some sort.Bool → sort_of p u ≡ Some sort.Bool
    → sort_of p (disjunction t u) ≡ Some sort.Bool
disjunction-sorted p t u e f = sort_of-apply p op.Or (Then t (Then u End)) (sort.Bool ∷ sort.Bool ∷ [])
    (two-sorted p t u sort.Bool sort.Bool e f)

choice-sorted : (p : ℕ) (t u v : Term) → sort_of p t ≡ Some sort.Bool → sort_of p u ≡ Some sort.Bool
    → sort_of p v ≡ Some sort.Bool → sort_of p (choice t u v) ≡ Some sort.Bool
choice-sorted p t u v e f g =
    sort_of-apply p op.Ite (Then t (Then u (Then v End))) (sort.Bool ∷ sort.Bool ∷ sort.Bool ∷ [])
    (sorts_of-then p t (Then u (Then v End)) sort.Bool (sort.Bool ∷ sort.Bool ∷ []) e
    (two-sorted p u v sort.Bool sort.Bool f g))

-- an input of a width
bits-sorted : (p k w : ℕ) → 1 ≤ w → w ≤ 64 → sort_of p (input k (sort.Bits w)) ≡ Some (sort.Bits w)
bits-sorted p k w some few =
    sort_of-apply p (op.Input k (sort.Bits w)) End [] (sorts_of-end p)
    ∙ (let low : nat_le 1 w ≡ true = le_true 1 w some in let high : nat_le w 64 ≡ true = le_true w 64 few in
    rw (low, high) refl)

same_width : (p w : ℕ) → op_sort p op.Eq (sort.Bits w ∷ sort.Bits w ∷ []) ≡ Some sort.Bool
same_width p w = rw (equal_test w) refl

equality-sorted : (p : ℕ) (t u : Term) (s : Sort) → op_sort p op.Eq (s ∷ s ∷ []) ≡ Some sort.Bool → sort_of p t ≡ Some s
    → sort_of p u ≡ Some s → sort_of p (equality t u) ≡ Some sort.Bool
equality-sorted p t u s eq e f =
    sort_of-apply p op.Eq (Then t (Then u End)) (s ∷ s ∷ []) (two-sorted p t u s s e f) ∙ eq

-- ---- inputs

-- an input in an operation over operands is in one of them
among-operands : (number : ℕ) (s : Sort) (o : Op) (t : Term) (ts : Operands)
    → IsSubterm (input number s) (Apply o (Then t ts)) → IsSubtermAmong (input number s) (Then t ts)
unfolding IsSubterm
among-operands number s o t ts below = ⊎_elim (λ same. absurd (cc)) (λ among. among) below

no-input : (number : ℕ) (s : Sort) (b : Bool) → IsSubterm (input number s) (truth b) → ⊥
unfolding IsSubterm
no-input number s b below = ⊎_elim (λ same. absurd (cc)) (λ none. none) below

one-input : (number k : ℕ) (s r : Sort) → IsSubterm (input number s) (input k r) → (number ≡ k) × (s ≡ r)
unfolding IsSubterm
one-input number k s r below = ⊎_elim (λ same. (cc, cc)) (λ none. absurd none) below

first-or-later : (u t : Term) (ts : Operands) → IsSubtermAmong u (Then t ts) → IsSubterm u t ⊎ IsSubtermAmong u ts
unfolding IsSubterm
first-or-later u t ts h = h

nothing-later : (u : Term) → IsSubtermAmong u End → ⊥
unfolding IsSubterm
nothing-later u h = h

over-truth : (c : Claim) (b : Bool) → IsOver c (truth b)
over-truth c b = λ k s below. absurd (no-input k s b below)

over-input : (c : Claim) (x : Slot) (r : Sort) → IsSlot c x r → IsOver c (input (slot_number x) r)
over-input c x r slot = λ k s below.
    let same = one-input k (slot_number x) s r below in
    (x, subst (IsSlot c x) (sym same.1) slot, same.0)

over-one : (c : Claim) (o : Op) (t : Term) → IsOver c t → IsOver c (Apply o (Then t End))
over-one c o t h = λ k s below.
    ⊎_elim (λ here. h k s here) (λ later. absurd (nothing-later (input k s) later))
    (first-or-later (input k s) t End (among-operands k s o t End below))

over-two : (c : Claim) (o : Op) (t u : Term) → IsOver c t → IsOver c u → IsOver c (Apply o (Then t (Then u End)))
over-two c o t u h i = λ k s below.
    ⊎_elim (λ here. h k s here)
    (λ later. ⊎_elim (λ here. i k s here) (λ none. absurd (nothing-later (input k s) none))
    (first-or-later (input k s) u End later))
    (first-or-later (input k s) t (Then u End) (among-operands k s o t (Then u End) below))

over-three : (c : Claim) (o : Op) (t u v : Term) → IsOver c t → IsOver c u → IsOver c v
    → IsOver c (Apply o (Then t (Then u (Then v End))))
over-three c o t u v h i j = λ k s below.
    ⊎_elim (λ here. h k s here)
    (λ later. ⊎_elim (λ here. i k s here)
    (λ last. ⊎_elim (λ here. j k s here) (λ none. absurd (nothing-later (input k s) none))
    (first-or-later (input k s) v End last))
    (first-or-later (input k s) u (Then v End) later))
    (first-or-later (input k s) t (Then u (Then v End)) (among-operands k s o t (Then u (Then v End)) below))

-- ---- truth values over slots

pub IsTruthTerm-truth : (c : Claim) (p : ℕ) (b : Bool) → IsTruthTerm c p (truth b)
IsTruthTerm-truth c p b = record { truth = truth-sorted p b; over = over-truth c b }

pub IsTruthTerm-input : (c : Claim) (p : ℕ) (x : Slot) → IsSlot c x sort.Bool
    → IsTruthTerm c p (input (slot_number x) sort.Bool)
IsTruthTerm-input c p x slot =
    record { truth = input-sorted p (slot_number x); over = over-input c x sort.Bool slot }

pub IsTruthTerm-negation : (c : Claim) (p : ℕ) (t : Term) → IsTruthTerm c p t → IsTruthTerm c p (negation t)
IsTruthTerm-negation c p t h =
    record { truth = negation-sorted p t h.truth; over = over-one c op.Not t h.over }

pub IsTruthTerm-conjunction : (c : Claim) (p : ℕ) (t u : Term) → IsTruthTerm c p t → IsTruthTerm c p u
    → IsTruthTerm c p (conjunction t u)
IsTruthTerm-conjunction c p t u h i = record {
  truth = conjunction-sorted p t u h.truth i.truth;
  over = over-two c op.And t u h.over i.over;
}

pub IsTruthTerm-disjunction : (c : Claim) (p : ℕ) (t u : Term) → IsTruthTerm c p t → IsTruthTerm c p u
    → IsTruthTerm c p (disjunction t u)
IsTruthTerm-disjunction c p t u h i = record {
  truth = disjunction-sorted p t u h.truth i.truth;
  over = over-two c op.Or t u h.over i.over;
}

pub IsTruthTerm-choice : (c : Claim) (p : ℕ) (t u v : Term) → IsTruthTerm c p t → IsTruthTerm c p u
    → IsTruthTerm c p v → IsTruthTerm c p (choice t u v)
IsTruthTerm-choice c p t u v h i j = record {
  truth = choice-sorted p t u v h.truth i.truth j.truth;
  over = over-three c op.Ite t u v h.over i.over j.over;
}

-- an input beside itself
no-memory-slot : (c : Claim) (x : Slot) → IsSlot c x sort.Mem → ⊥
no-memory-slot c (slot.Kind line op) h = let wrong = h.2 in cc
no-memory-slot c (slot.Attr line op place) h = let wrong = h.1.4 in cc
no-memory-slot c (slot.Arg line place source) h = let wrong = h.2 in cc
no-memory-slot c (slot.Result place source) h = let wrong = h.1 in cc

pub IsTruthTerm-equality : (c : Claim) (p : ℕ) (x : Slot) (s : Sort) → IsSlot c x s → IsSized s
    → IsTruthTerm c p (equality (input (slot_number x) s) (input (slot_number x) s))
IsTruthTerm-equality c p x sort.Bool slot sized = record {
  truth = equality-sorted p (input (slot_number x) sort.Bool) (input (slot_number x) sort.Bool) sort.Bool refl
      (input-sorted p (slot_number x)) (input-sorted p (slot_number x));
  over = over-two c op.Eq (input (slot_number x) sort.Bool) (input (slot_number x) sort.Bool)
      (over-input c x sort.Bool slot) (over-input c x sort.Bool slot);
}
IsTruthTerm-equality c p x (sort.Bits w) slot sized = record {
  truth = equality-sorted p (input (slot_number x) (sort.Bits w)) (input (slot_number x) (sort.Bits w)) (sort.Bits w)
      (same_width p w) (bits-sorted p (slot_number x) w sized.0 sized.1)
      (bits-sorted p (slot_number x) w sized.0 sized.1);
  over = over-two c op.Eq (input (slot_number x) (sort.Bits w)) (input (slot_number x) (sort.Bits w))
      (over-input c x (sort.Bits w) slot) (over-input c x (sort.Bits w) slot);
}
IsTruthTerm-equality c p x sort.Mem slot sized = absurd (no-memory-slot c x slot)

-- the node of a term in a table that extends the one over which the term was made
pub IsTruthOver-made : (c : Claim) (old new : Table) (id : TermId) (t : Term) → Extends old new → Denotes new id t
    → IsTruthTerm c old.pointer t → IsTruthOver c new id
IsTruthOver-made c old new id t more made h = record {
  there = made.there;
  truth = ap (sort_of new.pointer) made.term ∙ ap (λ p. sort_of p t) more.pointer ∙ h.truth;
  over = subst (IsOver c) (sym made.term) h.over;
}

pub IsTruthTerm-node : (c : Claim) (table : Table) (at : TermId) → IsTruthOver c table at
    → IsTruthTerm c table.pointer (term_at table at)
IsTruthTerm-node c table at h = record { truth = h.truth; over = h.over }

-- ---- values

pub value-truth : (env : List Value) (b : Bool) → value env (truth b) ≡ val.Bool b
unfolding value
value-truth env b = refl

pub value-input : (env : List Value) (k : ℕ) (s : Sort) (v : Value) → slice_get env k ≡ Some v
    → value env (input k s) ≡ v
unfolding value
value-input env k s v e = ap (λ o. unwrap_or o (val.Bool false)) e

pub value-negation : (env : List Value) (t : Term) (a : Bool) → value env t ≡ val.Bool a
    → value env (negation t) ≡ val.Bool (not a)
unfolding value
value-negation env t a e = ap (λ v. op_value env op.Not (v ∷ [])) e

pub value-conjunction : (env : List Value) (t u : Term) (a b : Bool) → value env t ≡ val.Bool a
    → value env u ≡ val.Bool b → value env (conjunction t u) ≡ val.Bool (a && b)
unfolding value
value-conjunction env t u a b e f =
    ap (λ v. op_value env op.And (v ∷ value env u ∷ [])) e ∙ ap (λ v. op_value env op.And (val.Bool a ∷ v ∷ [])) f

pub value-disjunction : (env : List Value) (t u : Term) (a b : Bool) → value env t ≡ val.Bool a
    → value env u ≡ val.Bool b → value env (disjunction t u) ≡ val.Bool (a || b)
unfolding value
value-disjunction env t u a b e f =
    ap (λ v. op_value env op.Or (v ∷ value env u ∷ [])) e ∙ ap (λ v. op_value env op.Or (val.Bool a ∷ v ∷ [])) f

pub value-equality : (env : List Value) (t u : Term) (v w : Value) → value env t ≡ v → value env u ≡ w
    → value env (equality t u) ≡ val.Bool (same_value v w)
unfolding value
value-equality env t u v w e f =
    ap (λ x. op_value env op.Eq (x ∷ value env u ∷ [])) e ∙ ap (λ x. op_value env op.Eq (v ∷ x ∷ [])) f

pub value-choice : (env : List Value) (t u v : Term) (a : Bool) (x y : Value) → value env t ≡ val.Bool a
    → value env u ≡ x → value env v ≡ y → value env (choice t u v) ≡ cond a x y
unfolding value
value-choice env t u v a x y e f g =
    ap (λ w. op_value env op.Ite (w ∷ value env u ∷ value env v ∷ [])) e
    ∙ ap (λ w. op_value env op.Ite (val.Bool a ∷ w ∷ value env v ∷ [])) f
    ∙ ap (λ w. op_value env op.Ite (val.Bool a ∷ x ∷ w ∷ [])) g
