-- Conditions one after the other.
use Rattle.std.proofs.Common.{◌≡◌, ◌∙◌, ◌<◌, ◌≤◌, ◌↔◌, ℕ, List, [], ◌∷◌, Some, Bool, true, refl, sym, ap, subst}
use Rattle.std.proofs.Common.{length, slice_get, ⊎_elim, inl, inr, ◌⊎◌, ◌+◌, arith}
use Rattle.std.specs.Prelude.{IsSome, not, false}
use Rattle.std.proofs.lemmas.Bool.{cases_lt}
use Rattle.std.proofs.lemmas.Option.{same_Some, slice_get_within}
use Rattle.bv_terms.specs.declared.op.Op.{Op}
use Rattle.bv_terms.specs.declared.op.Op.TheVariants as op
use Rattle.bv_terms.specs.declared.op.TermId.{TermId}
use Rattle.bv_terms.specs.declared.value.Sort.{Sort}
use Rattle.bv_terms.specs.declared.value.Sort.TheVariants as sort
use Rattle.bv_terms.specs.declared.value.Value.{Value}
use Rattle.bv_terms.specs.declared.value.Value.TheVariants as val
use Rattle.bv_terms.specs.Signature.{signature, result_sort}
use Rattle.bv_terms.specs.Table.{Table, Extends, operands, terms_of, term_at}
use Rattle.bv_terms.specs.Term.{Term, Apply, End, Then, value}
use Rattle.bv_terms.specs.WellSorted.{sort_of}
use Rattle.bv_terms.proofs.GraftLemmas.{Extends-term, Extends-longer}
use Rattle.pattern_core.specs.Claim.{Claim}
use Rattle.loc_encode.specs.declared.slots.Slot.{Slot}
use Rattle.loc_encode.specs.Slots.{slot_number, IsSlot}
use Rattle.loc_encode.specs.Parts.{IsTruthOver, IsTrueAt, IsOver}
use Rattle.loc_encode.specs.Matching.{IsSet, IsNumber}
use Rattle.loc_encode.specs.Condition.{IsMade, IsTruth, IsTest, IsBoth}
use Rattle.loc_encode.proofs.TermFacts.{IsTrue, and-parts, and-true, and-is_truth, sort-of_rule, input-only, input-none}
use Rattle.loc_encode.proofs.TermFacts.{input-of_two, input-true, equal-true, not-value, truth-value, input-of_one}

-- ---- what is made

-- of an operation that gives one sort
pub made-sort : (old : Table) (o : Op) (args : List TermId) (new : Table) (at : TermId) (s : Sort)
    → ((ss : List Sort) → result_sort (signature o).result ss ≡ s) → IsMade old o args new at
    → sort_of new.pointer (term_at new at) ≡ Some s
made-sort old o args new at s rule made =
    ap (sort_of new.pointer) made.term
    ∙ sort-of_rule new.pointer o (operands (terms_of old) args) s rule
    (subst (λ t. IsSome (sort_of new.pointer t)) made.term made.sorted)

-- over what its arguments are
pub over-two : (c : Claim) (o : Op) (t u : Term) → IsOver c t → IsOver c u → IsOver c (Apply o (Then t (Then u End)))
over-two c o t u a b k s below = ⊎_elim (λ here. a k s here) (λ there. b k s there) (input-of_two k s o t u below)

pub over-one : (c : Claim) (o : Op) (t : Term) → IsOver c t → IsOver c (Apply o (Then t End))
over-one c o t a k s below = a k s (input-of_one k s o t below)

pub over-none : (c : Claim) (o : Op) → ((l : ℕ) (t : Sort) → o ≡ op.Input l t → ⊥) → IsOver c (Apply o End)
over-none c o other k s below = absurd (input-none k s o other below)

pub over-slot : (c : Claim) (x : Slot) (s : Sort) → IsSlot c x s → IsOver c (Apply (op.Input (slot_number x) s) End)
over-slot c x s is k t below =
    let same = input-only k (slot_number x) t s below in (x, subst (IsSlot c x) (sym same.1) is, same.0)

-- the truth value at a table with more nodes
pub truth-kept : (c : Claim) (old new : Table) (at : TermId) → Extends old new → IsTruthOver c old at
    → IsTruthOver c new at
truth-kept c old new at grown is =
    let term : term_at new at ≡ term_at old at = Extends-term old new grown at is.there in
    let longer : length old.nodes ≤ length new.nodes = Extends-longer old new grown in
    record {
      there = omega (arith, is.there, longer);
      truth =
          ap (sort_of new.pointer) term ∙ ap (λ p. sort_of p (term_at old at)) grown.pointer ∙ is.truth;
      over = subst (IsOver c) (sym term) is.over;
    }

-- ---- conditions

pub both-and : (c : Claim) (old mid new : Table) (a x b : TermId) (M : List Value → Type 0)
    → Extends old mid → a.0 < length old.nodes → IsMade mid op.And (a ∷ x ∷ []) new b → IsTest c mid x M
    → IsBoth c old a new b M
both-and c old mid new a x b M grown within made test =
    let kept : term_at mid a ≡ term_at old a = Extends-term old mid grown a within in
    let t : Term = term_at mid a in
    let u : Term = term_at mid x in
    record {
      truth = λ is. record {
        over = record {
          there = made.there;
          truth = made-sort mid op.And (a ∷ x ∷ []) new b sort.Bool (λ ss. refl) made;
          over =
              subst (IsOver c) (sym made.term)
              (over-two c op.And t u (subst (IsOver c) (sym kept) is.over.over) test.over.over);
        };
        always = λ env. subst (λ w. (v : Bool) × (value env w ≡ val.Bool v)) (sym made.term) (and-is_truth env t u);
      };
      holds = λ env. (
        λ e.
            let parts = and-parts env t u (subst (IsTrue env) made.term e) in
            (subst (IsTrue env) kept parts.0, (test.holds env).0 parts.1),
        λ h.
            subst (IsTrue env) (sym made.term)
            (and-true env t u (subst (IsTrue env) (sym kept) h.0) ((test.holds env).1 h.1)),
      );
    }

-- a choice that is made
pub test-choice : (c : Claim) (old new : Table) (k : ℕ) (at : TermId) (x : Slot) → k ≡ slot_number x
    → IsSlot c x sort.Bool
    → IsMade old (op.Input k sort.Bool) [] new at → IsTest c new at (IsSet x)
test-choice c old new k at x same is made =
    let input : term_at new at ≡ Apply (op.Input (slot_number x) sort.Bool) End =
    made.term ∙ ap (λ n. Apply (op.Input n sort.Bool) End) same in
    record {
      over = record {
        there = made.there;
        truth = made-sort old (op.Input k sort.Bool) [] new at sort.Bool (λ ss. refl) made;
        over = subst (IsOver c) (sym input) (over-slot c x sort.Bool is);
      };
      holds = λ env. (
        λ e. (input-true env (slot_number x)).0 (subst (IsTrue env) input e),
        λ h. subst (IsTrue env) (sym input) ((input-true env (slot_number x)).1 h),
      );
    }

-- an attribute that is a number
pub test-number : (c : Claim) (a b d new : Table) (k w n : ℕ) (i m at : TermId) (x : Slot) → k ≡ slot_number x
    → IsSlot c x (sort.Bits w) → IsMade a (op.Input k (sort.Bits w)) [] b i → Extends b d
    → IsMade b (op.Bits w n) [] d m → IsMade d op.Eq (i ∷ m ∷ []) new at → IsTest c new at (IsNumber x w n)
test-number c a b d new k w n i m at x same is input grown constant equal =
    let t : Term = Apply (op.Input (slot_number x) (sort.Bits w)) End in
    let u : Term = Apply (op.Bits w n) End in
    let first : term_at d i ≡ t =
    Extends-term b d grown i input.there ∙ input.term ∙ ap (λ l. Apply (op.Input l (sort.Bits w)) End) same in
    let term : term_at new at ≡ Apply op.Eq (Then t (Then u End)) =
    equal.term ∙ ap (λ v. Apply op.Eq (Then v (Then (term_at d m) End))) first
    ∙ ap (λ v. Apply op.Eq (Then t (Then v End))) constant.term in
    record {
      over = record {
        there = equal.there;
        truth = made-sort d op.Eq (i ∷ m ∷ []) new at sort.Bool (λ ss. refl) equal;
        over =
            subst (IsOver c) (sym term)
            (over-two c op.Eq t u (over-slot c x (sort.Bits w) is) (over-none c (op.Bits w n) (λ l s e. cc)));
      };
      holds = λ env. (
        λ e. (equal-true env (slot_number x) w w n).0 (subst (IsTrue env) term e),
        λ h. subst (IsTrue env) (sym term) ((equal-true env (slot_number x) w w n).1 h),
      );
    }

pub both-then : (c : Claim) (old mid new : Table) (a b d : TermId) (M N : List Value → Type 0) → IsBoth c old a mid b M
    → IsBoth c mid b new d N → IsBoth c old a new d (λ env. M env × N env)
both-then c old mid new a b d M N first second = record {
  truth = λ is. second.truth (first.truth is);
  holds = λ env. (
    λ e. let h = (second.holds env).0 e in let g = (first.holds env).0 h.0 in (g.0, (g.1, h.1)),
    λ h. (second.holds env).1 ((first.holds env).1 (h.0, h.1.0), h.1.1),
  );
}

pub both-same : (c : Claim) (old new : Table) (a b : TermId) (M N : List Value → Type 0)
    → ((env : List Value) → M env → N env) → ((env : List Value) → N env → M env) → IsBoth c old a new b M
    → IsBoth c old a new b N
both-same c old new a b M N to from both = record {
  truth = both.truth;
  holds = λ env. (
    λ e. let h = (both.holds env).0 e in (h.0, to env h.1),
    λ h. (both.holds env).1 (h.0, from env h.1),
  );
}

pub both-none : (c : Claim) (table : Table) (a : TermId) (M : List Value → Type 0) → ((env : List Value) → M env)
    → IsBoth c table a table a M
both-none c table a M holds = record { truth = λ is. is; holds = λ env. (λ e. (e, holds env), λ h. h.0) }

-- ---- a condition for each element of a list

-- one for each of the first n elements
abbrev pub Below : {A : Type 0} → (ℕ → A → List Value → Type 0) → List A → ℕ → List Value → Type 0
Below P xs n env = (k : ℕ) (x : _) → k < n → slice_get xs k ≡ Some x → P k x env

pub below-none : {A : Type 0} (c : Claim) (table : Table) (a : TermId) (P : ℕ → A → List Value → Type 0) (xs : List A)
    → IsBoth c table a table a (Below P xs 0)
below-none c table a P xs = both-none c table a (Below P xs 0) (λ env k x l e. absurd (omega (arith, l)))

split-below : (k n : ℕ) → k < n + 1 → (k < n) ⊎ (n ≡ k)
split-below k n l = elim (cases_lt k n) [ inl less ↦ inl less | inr more ↦ inr (omega (arith, l, more)) ]

pub below-more : {A : Type 0} (c : Claim) (old mid new : Table) (a b d : TermId) (P : ℕ → A → List Value → Type 0)
    (xs : List A) (n : ℕ) (x : A) → slice_get xs n ≡ Some x → IsBoth c old a mid b (Below P xs n)
    → IsBoth c mid b new d (P n x) → IsBoth c old a new d (Below P xs (n + 1))
below-more {A = A} c old mid new a b d P xs n x at first second =
    both-same c old new a d (λ env. Below P xs n env × P n x env) (Below P xs (n + 1))
    (λ env h k y l e. ⊎_elim (λ less. h.0 k y less e)
    (λ same.
    let there : x ≡ y = same_Some x y (sym at ∙ ap (slice_get xs) same ∙ e) in
    subst (λ m. P m y env) same (subst (λ z. P n z env) there h.1)) (split-below k n l))
    (λ env h. (λ k y l e. h k y (omega (arith, l)) e, h n x (omega arith) at))
    (both-then c old mid new a b d (Below P xs n) (P n x) first second)

-- all of them
pub below-all : {A : Type 0} (P : ℕ → A → List Value → Type 0) (xs : List A) (n : ℕ) (env : List Value) → length xs ≤ n
    → Below P xs n env → Below P xs (length xs) env
below-all P xs n env l h k x less e = h k x (omega (arith, less, l)) e

pub below-whole : {A : Type 0} (c : Claim) (old new : Table) (a b : TermId) (P : ℕ → A → List Value → Type 0)
    (xs : List A)
    (n : ℕ) → length xs ≤ n → IsBoth c old a new b (Below P xs n) → IsBoth c old a new b (Below P xs (length xs))
below-whole c old new a b P xs n l both =
    both-same c old new a b (Below P xs n) (Below P xs (length xs))
    (λ env h k x less e. h k x (omega (arith, less, l)) e)
    (λ env h k x less e. h k x (slice_get_within xs k x e) e) both

-- ---- the first and the last term

pub truth-first : (c : Claim) (old new : Table) (at : TermId) → IsMade old (op.Bool true) [] new at → IsTruth c new at
truth-first c old new at made = record {
  over = record {
    there = made.there;
    truth = made-sort old (op.Bool true) [] new at sort.Bool (λ ss. refl) made;
    over = subst (IsOver c) (sym made.term) (over-none c (op.Bool true) (λ l t e. cc));
  };
  always = λ env. (true, ap (value env) made.term ∙ truth-value env true);
}

pub true-first : (old new : Table) (at : TermId) → IsMade old (op.Bool true) [] new at → (env : List Value)
    → IsTrueAt new at env
true-first old new at made env = ap (value env) made.term ∙ truth-value env true

-- the opposite of a truth value
pub over-not : (c : Claim) (mid new : Table) (a b : TermId) → IsMade mid op.Not (a ∷ []) new b → IsTruth c mid a
    → IsTruthOver c new b
over-not c mid new a b made is = record {
  there = made.there;
  truth = made-sort mid op.Not (a ∷ []) new b sort.Bool (λ ss. refl) made;
  over = subst (IsOver c) (sym made.term) (over-one c op.Not (term_at mid a) is.over.over);
}

not-bool : (b : Bool) → val.Bool (not b) ≡ val.Bool true → val.Bool b ≡ val.Bool true → ⊥
not-bool true e h = absurd (cc)
not-bool false e h = absurd (cc)

not-other : (b : Bool) → (val.Bool b ≡ val.Bool true → ⊥) → val.Bool (not b) ≡ val.Bool true
not-other true h = absurd (h refl)
not-other false h = refl

pub not-true : (c : Claim) (mid new : Table) (a b : TermId) → IsMade mid op.Not (a ∷ []) new b → IsTruth c mid a
    → (env : List Value) → IsTrueAt new b env ↔ (IsTrueAt mid a env → ⊥)
not-true c mid new a b made is env =
    let v = is.always env in
    let term : value env (term_at new b) ≡ val.Bool (not v.0) =
    ap (value env) made.term ∙ not-value env (term_at mid a) v.0 v.1 in (
      λ e h. not-bool v.0 (sym term ∙ e) (sym v.1 ∙ h),
      λ h. term ∙ not-other v.0 (λ t. h (v.1 ∙ t)),
    )

-- the number that stands in a place
pub number-at : (c : Claim) (old new : Table) (a b : TermId) (x : Slot) (w n : ℕ) (numbers : List ℕ) (k : ℕ)
    → slice_get numbers k ≡ Some n → IsBoth c old a new b (IsNumber x w n)
    → IsBoth c old a new b (λ env. (m : ℕ) → slice_get numbers k ≡ Some m → IsNumber x w m env)
number-at c old new a b x w n numbers k at both =
    both-same c old new a b (IsNumber x w n) (λ env. (m : ℕ) → slice_get numbers k ≡ Some m → IsNumber x w m env)
    (λ env h m e. subst (λ i. IsNumber x w i env) (same_Some n m (sym at ∙ e)) h) (λ env h. h n at) both
