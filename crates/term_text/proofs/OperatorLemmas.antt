-- Each operation over arguments over which it may stand is written by an operator, which may stand over them too.
use Rattle.std.proofs.Common.{◌≡◌, ℕ, ◌+◌, ◌≤◌, Bool, true, cond, not, eqb, List, [], ◌∷◌}
use Rattle.std.proofs.Common.{length, None, Some, Ok, Err, refl, sym, ap, ◌∙◌, subst, arith}
use Rattle.std.specs.Prelude.{zip}
use Rattle.std.specs.List.{position_from, sum_by}
use Rattle.std.proofs.lemmas.Bool.Decides.{Decides-eqb}
use Rattle.std.proofs.lemmas.Iterator.Adapters.{position_from-zero}
use Rattle.std.proofs.lemmas.List.Sums.{sum_by-cons}
use Rattle.list_lemmas.proofs.Bools.{le_true}
use Rattle.bv_terms.specs.declared.op.Op.{Op}
use Rattle.bv_terms.specs.declared.op.Op.TheVariants as op
use Rattle.bv_terms.specs.declared.signature.Slot.{Slot}
use Rattle.bv_terms.specs.declared.signature.Slot.TheVariants.{Vector}
use Rattle.bv_terms.specs.declared.signature.IndexRule.{IndexRule}
use Rattle.bv_terms.specs.declared.value.Sort.{Sort}
use Rattle.bv_terms.specs.Sorts.{width_of}
use Rattle.bv_terms.specs.Signature.{signature, arity, fits, misfit}
use Rattle.bv_terms.specs.Term.{Term}
use Rattle.bv_terms.proofs.SignatureLemmas.{AllFit, IsFitting}
use Rattle.term_text.specs.declared.operator.Operator.{Operator}
use Rattle.term_text.specs.declared.operator.Operator.TheVariants.{Operation, Left, Equal, Implies}
use Rattle.term_text.specs.declared.operator.Operator.TheVariants.{Extract, ZeroExtend, SignExtend}
use Rattle.term_text.specs.declared.operator.LeftAssociative.{LeftAssociative}
use Rattle.term_text.specs.declared.operator.LeftAssociative.TheVariants as left
use Rattle.term_text.specs.declared.judge.OperatorFault.TheVariants as fault
use Rattle.term_text.specs.Operator.{left_operation, takes, slots_over, index, has_index, result_sort, judge_width}
use Rattle.term_text.specs.Operator.{judge_sorts, judge}
use Rattle.term_text.specs.Written.{applied, written}
use Rattle.term_text.proofs.WrittenLemmas.{EachFits}

-- an operator may stand over arguments of these sorts, and over these terms it is the operation
pub record IsWrittenBy (p : ℕ) (o : Op) (by : Operator) (ss : List Sort) (ts : List Term) : Type 0 where
  pub sort : Sort
  pub judged : judge p by ss ≡ Ok sort
  pub term : written by ss ts ≡ applied o ts

none_misfits : (p : ℕ) (r : IndexRule) (all : List Sort) (slots : List Slot) (ss : List Sort) (i : ℕ)
    → EachFits p r all slots ss
    → position_from (λ (e : Slot × Sort). not (fits p r all e.0 e.1)) i (zip slots ss) ≡ None
none_misfits p r all [] ss i h = refl
none_misfits p r all (slot ∷ slots) [] i h = refl
none_misfits p r all (slot ∷ slots) (s ∷ ss) i h =
    ap (λ b. cond (not b) (Some i)
    (position_from (λ (e : Slot × Sort). not (fits p r all e.0 e.1)) (i + 1) (zip slots ss))) h.0
    ∙ none_misfits p r all slots ss (i + 1) h.1

judge-fitting : (p : ℕ) (o : Operator) (ss : List Sort) → takes o (length ss) ≡ true
    → EachFits p (index o) ss (slots_over o (length ss)) ss → has_index p o ss ≡ true
    → width_of (result_sort o ss) ≤ 64 → judge p o ss ≡ Ok (result_sort o ss)
judge-fitting p o ss taken fit indexed narrow =
    let all = slots_over o (length ss) in
    let test : Slot × Sort → Bool = λ e. not (fits p (index o) ss e.0 e.1) in
    ap (λ b. cond b (judge_sorts p o ss (misfit p (index o) all ss)) (Err fault.Arity)) taken
    ∙ ap (judge_sorts p o ss) (position_from-zero test (zip all ss) ∙ none_misfits p (index o) ss all ss 0 fit)
    ∙ ap (λ b. cond b (judge_width (result_sort o ss)) (Err fault.Index)) indexed
    ∙ ap (λ b. cond b (Ok (result_sort o ss)) (Err fault.Width)) (le_true (width_of (result_sort o ss)) 64 narrow)

each_fits : (p : ℕ) (r : IndexRule) (all : List Sort) (slots : List Slot) (ss : List Sort)
    → AllFit p r all slots ss → EachFits p r all slots ss
each_fits p r all [] ss h = tt
each_fits p r all (slot ∷ slots) [] h = tt
each_fits p r all (slot ∷ slots) (s ∷ ss) h = (h.0, each_fits p r all slots ss h.1)

-- ---- an operation as an operator

pub by-operation : (p : ℕ) (o : Op) (ss : List Sort) (ts : List Term) → IsFitting p o ss
    → IsWrittenBy p o (Operation o) ss ts
by-operation p o ss ts f = record {
  sort = result_sort (Operation o) ss;
  judged = judge-fitting p (Operation o) ss ((Decides-eqb (arity o) (length ss)).1 (sym f.arity))
      (each_fits p (signature o).index ss (signature o).slots ss f.fit) f.indexed f.narrow;
  term = refl;
}

-- ---- operators that take two arguments or more

left-judged : (p : ℕ) (o : LeftAssociative) (s r : Sort) → IsFitting p (left_operation o) (s ∷ r ∷ [])
    → judge p (Left o) (s ∷ r ∷ []) ≡ Ok (result_sort (Left o) (s ∷ r ∷ []))
left-judged p left.And s r f =
    judge-fitting p (Left left.And) (s ∷ r ∷ []) refl (f.fit.0, (f.fit.1.0, tt)) refl f.narrow
left-judged p left.Or s r f =
    judge-fitting p (Left left.Or) (s ∷ r ∷ []) refl (f.fit.0, (f.fit.1.0, tt)) refl f.narrow
left-judged p left.Xor s r f =
    judge-fitting p (Left left.Xor) (s ∷ r ∷ []) refl (f.fit.0, (f.fit.1.0, tt)) refl f.narrow
left-judged p left.BvAnd s r f =
    judge-fitting p (Left left.BvAnd) (s ∷ r ∷ []) refl (f.fit.0, (f.fit.1.0, tt)) refl f.narrow
left-judged p left.BvOr s r f =
    judge-fitting p (Left left.BvOr) (s ∷ r ∷ []) refl (f.fit.0, (f.fit.1.0, tt)) refl f.narrow
left-judged p left.BvXor s r f =
    judge-fitting p (Left left.BvXor) (s ∷ r ∷ []) refl (f.fit.0, (f.fit.1.0, tt)) refl f.narrow
left-judged p left.BvAdd s r f =
    judge-fitting p (Left left.BvAdd) (s ∷ r ∷ []) refl (f.fit.0, (f.fit.1.0, tt)) refl f.narrow
left-judged p left.BvMul s r f =
    judge-fitting p (Left left.BvMul) (s ∷ r ∷ []) refl (f.fit.0, (f.fit.1.0, tt)) refl f.narrow
left-judged p left.Concat s r f =
    let narrow : sum_by width_of (s ∷ r ∷ []) ≤ 64 =
    omega (arith, f.narrow, sum_by-cons width_of s (r ∷ []), sum_by-cons width_of r []) in
    judge-fitting p (Left left.Concat) (s ∷ r ∷ []) refl (f.fit.0, (f.fit.1.0, tt)) refl narrow

left-two : (o : LeftAssociative) → arity (left_operation o) ≡ 2
left-two left.And = refl
left-two left.Or = refl
left-two left.Xor = refl
left-two left.BvAnd = refl
left-two left.BvOr = refl
left-two left.BvXor = refl
left-two left.BvAdd = refl
left-two left.BvMul = refl
left-two left.Concat = refl

two-elements : {A : Type 0} (xs : List A) → length xs ≡ 2 → (x y : A) × (xs ≡ x ∷ y ∷ [])
two-elements [] h = absurd (omega arith)
two-elements (x ∷ []) h = absurd (omega arith)
two-elements (x ∷ y ∷ []) h = (x, y, refl)
two-elements (x ∷ y ∷ z ∷ xs) h = absurd (omega arith)

-- what holds of two sorts and two terms
on-two : (P : List Sort → List Term → Type 0) → (ss : List Sort) (ts : List Term) → length ss ≡ 2
    → length ts ≡ length ss
    → ((s r : Sort) (t u : Term) → ss ≡ s ∷ r ∷ [] → P (s ∷ r ∷ []) (t ∷ u ∷ [])) → P ss ts
on-two P ss ts two same all =
    let sorts = two-elements ss two in
    let terms = two-elements ts (same ∙ two) in
    subst (λ ss. P ss ts) (sym sorts.2)
    (subst (P (sorts.0 ∷ sorts.1 ∷ [])) (sym terms.2) (all sorts.0 sorts.1 terms.0 terms.1 sorts.2))

pub by-left : (p : ℕ) (o : LeftAssociative) (ss : List Sort) (ts : List Term) → IsFitting p (left_operation o) ss
    → length ts ≡ length ss → IsWrittenBy p (left_operation o) (Left o) ss ts
by-left p o ss ts f same =
    on-two (IsWrittenBy p (left_operation o) (Left o)) ss ts (f.arity ∙ left-two o) same
    (λ s r t u e. record {
      sort = result_sort (Left o) (s ∷ r ∷ []);
      judged = left-judged p o s r (subst (IsFitting p (left_operation o)) e f);
      term = refl;
    })

equal-judged : (p : ℕ) (s r : Sort) → IsFitting p op.Eq (s ∷ r ∷ [])
    → judge p Equal (s ∷ r ∷ []) ≡ Ok (result_sort Equal (s ∷ r ∷ []))
equal-judged p s r f = judge-fitting p Equal (s ∷ r ∷ []) refl (f.fit.0, (f.fit.1.0, tt)) refl f.narrow

pub by-equal : (p : ℕ) (ss : List Sort) (ts : List Term) → IsFitting p op.Eq ss → length ts ≡ length ss
    → IsWrittenBy p op.Eq Equal ss ts
by-equal p ss ts f same =
    on-two (IsWrittenBy p op.Eq Equal) ss ts f.arity same
    (λ s r t u e. record {
      sort = result_sort Equal (s ∷ r ∷ []);
      judged = equal-judged p s r (subst (IsFitting p op.Eq) e f);
      term = refl;
    })

implies-judged : (p : ℕ) (s r : Sort) → IsFitting p op.Implies (s ∷ r ∷ [])
    → judge p Implies (s ∷ r ∷ []) ≡ Ok (result_sort Implies (s ∷ r ∷ []))
implies-judged p s r f = judge-fitting p Implies (s ∷ r ∷ []) refl (f.fit.0, (f.fit.1.0, tt)) refl f.narrow

pub by-implies : (p : ℕ) (ss : List Sort) (ts : List Term) → IsFitting p op.Implies ss → length ts ≡ length ss
    → IsWrittenBy p op.Implies Implies ss ts
by-implies p ss ts f same =
    on-two (IsWrittenBy p op.Implies Implies) ss ts f.arity same
    (λ s r t u e. record {
      sort = result_sort Implies (s ∷ r ∷ []);
      judged = implies-judged p s r (subst (IsFitting p op.Implies) e f);
      term = refl;
    })

-- ---- operators with numbers

one-taken : (ss : List Sort) → length ss ≡ 1 → eqb 1 (length ss) ≡ true
one-taken ss h = (Decides-eqb 1 (length ss)).1 (sym h)

one-fits : (p : ℕ) (r q : IndexRule) (slot : Slot) (ss : List Sort)
    → ((s : Sort) → fits p r ss slot s ≡ fits p q ss slot s) → AllFit p r ss (slot ∷ []) ss
    → EachFits p q ss (slot ∷ []) ss
one-fits p r q slot ss same h = by ss h
  where
    by : (us : List Sort) → AllFit p r ss (slot ∷ []) us → EachFits p q ss (slot ∷ []) us
    by [] h = tt
    by (s ∷ us) h = (sym (same s) ∙ h.0, tt)

pub by-extract : (p high low : ℕ) (ss : List Sort) (ts : List Term) → IsFitting p (op.Extract high low) ss
    → IsWrittenBy p (op.Extract high low) (Extract high low) ss ts
by-extract p high low ss ts f = record {
  sort = result_sort (Extract high low) ss;
  judged = judge-fitting p (Extract high low) ss (one-taken ss f.arity)
      (one-fits p (signature (op.Extract high low)).index (index (Extract high low)) Vector ss (λ s. refl) f.fit)
      f.indexed f.narrow;
  term = refl;
}

pub by-zero_extend : (p k : ℕ) (ss : List Sort) (ts : List Term) → IsFitting p (op.ZeroExtend k) ss
    → IsWrittenBy p (op.ZeroExtend k) (ZeroExtend k) ss ts
by-zero_extend p k ss ts f = record {
  sort = result_sort (ZeroExtend k) ss;
  judged = judge-fitting p (ZeroExtend k) ss (one-taken ss f.arity)
      (each_fits p (index (ZeroExtend k)) ss (Vector ∷ []) ss f.fit) refl f.narrow;
  term = refl;
}

pub by-sign_extend : (p k : ℕ) (ss : List Sort) (ts : List Term) → IsFitting p (op.SignExtend k) ss
    → IsWrittenBy p (op.SignExtend k) (SignExtend k) ss ts
by-sign_extend p k ss ts f = record {
  sort = result_sort (SignExtend k) ss;
  judged = judge-fitting p (SignExtend k) ss (one-taken ss f.arity)
      (each_fits p (index (SignExtend k)) ss (Vector ∷ []) ss f.fit) refl f.narrow;
  term = refl;
}
