-- Values, sorts and inputs of the terms that are made here.
use Rattle.std.proofs.Common.{◌≡◌, ◌∙◌, ◌⊎◌, ◌↔◌, ℕ, suc, List, [], ◌∷◌, Option, Some, None, Bool, true, false, refl}
use Rattle.std.proofs.Common.{sym, ap}
use Rattle.std.proofs.Common.{slice_get, length, arith, inl, inr, ⊎_elim}
use Rattle.std.specs.Prelude.{◌&&◌, not, unwrap_or, option_and_then, IsSome}
use Rattle.std.specs.Prelude.{◌==◌}
use Rattle.std.proofs.lemmas.Bool.{eqb-true, eq-eqb}
use Rattle.std.proofs.lemmas.Option.{none-some}
use Rattle.bv_terms.specs.declared.op.Op.{Op}
use Rattle.bv_terms.specs.declared.op.Op.TheVariants as op
use Rattle.bv_terms.specs.declared.op.MakeFault.{MakeFault}
use Rattle.bv_terms.specs.declared.value.Sort.{Sort}
use Rattle.bv_terms.specs.declared.value.Sort.TheVariants as sort
use Rattle.bv_terms.specs.declared.value.Value.{Value}
use Rattle.bv_terms.specs.declared.value.Value.TheVariants as val
use Rattle.bv_terms.specs.Signature.{signature, arity, refusal, result_sort}
use Rattle.bv_terms.specs.Sorts.{HasSort}
use Rattle.bv_terms.specs.Subterm.{IsSubterm, IsSubtermAmong}
use Rattle.bv_terms.specs.Term.{Term, Operands, Apply, End, Then, op_value, value, same_value}
use Rattle.bv_terms.specs.WellSorted.{sort_of, sorts_of, sort_unless, op_sort, InputsFit, AllInputsFit, InputFits}
use Rattle.bv_terms.proofs.SignatureLemmas.{IsFitting-of}
use Rattle.bv_terms.proofs.SubtermLemmas.{InputsFit-subterm}
use Rattle.bv_terms.proofs.TermLemmas.{IsSorted-of, sorts_of-some}
use Rattle.list_lemmas.proofs.Bools.{and_parts, and-both}
use Rattle.list_lemmas.proofs.Options.{the_some}

-- ---- values

abbrev pub IsTrue : List Value → Term → Type 0
IsTrue env t = value env t ≡ val.Bool true

and-values : (env : List Value) (u v : Value) → op_value env op.And (u ∷ v ∷ []) ≡ val.Bool true
    → (u ≡ val.Bool true) × (v ≡ val.Bool true)
and-values env (val.Bool p) (val.Bool q) e =
    let both = and_parts p q (cc) in (ap val.Bool both.0, ap val.Bool both.1)
and-values env (val.Bool p) (val.Bits w n) e = absurd (cc)
and-values env (val.Bits w n) v e = absurd (cc)

pub and-parts : (env : List Value) (t u : Term) → IsTrue env (Apply op.And (Then t (Then u End)))
    → IsTrue env t × IsTrue env u
unfolding value
and-parts env t u e = and-values env (value env t) (value env u) e

pub and-true : (env : List Value) (t u : Term) → IsTrue env t → IsTrue env u
    → IsTrue env (Apply op.And (Then t (Then u End)))
unfolding value
and-true env t u a b =
    ap (λ v. op_value env op.And (v ∷ value env u ∷ [])) a ∙ ap (λ v. op_value env op.And (val.Bool true ∷ v ∷ [])) b

and-always : (env : List Value) (u v : Value) → (b : Bool) × (op_value env op.And (u ∷ v ∷ []) ≡ val.Bool b)
and-always env (val.Bool p) (val.Bool q) = (p && q, refl)
and-always env (val.Bool p) (val.Bits w n) = (false, refl)
and-always env (val.Bits w n) v = (false, refl)

pub and-is_truth : (env : List Value) (t u : Term)
    → (b : Bool) × (value env (Apply op.And (Then t (Then u End))) ≡ val.Bool b)
unfolding value
and-is_truth env t u = and-always env (value env t) (value env u)

pub not-value : (env : List Value) (t : Term) (b : Bool) → value env t ≡ val.Bool b
    → value env (Apply op.Not (Then t End)) ≡ val.Bool (not b)
unfolding value
not-value env t b e = ap (λ v. op_value env op.Not (v ∷ [])) e

pub truth-value : (env : List Value) (b : Bool) → value env (Apply (op.Bool b) End) ≡ val.Bool b
unfolding value
truth-value env b = refl

pub input-value : (env : List Value) (k : ℕ) (s : Sort)
    → value env (Apply (op.Input k s) End) ≡ unwrap_or (slice_get env k) (val.Bool false)
unfolding value
input-value env k s = refl

choice-set : (o : Option Value) → unwrap_or o (val.Bool false) ≡ val.Bool true → o ≡ Some (val.Bool true)
choice-set None e = absurd (cc)
choice-set (Some v) e = ap (λ (u : Value). Some u) e

-- a choice is true where it is set
pub input-true : (env : List Value) (k : ℕ)
    → IsTrue env (Apply (op.Input k sort.Bool) End) ↔ (slice_get env k ≡ Some (val.Bool true))
input-true env k = (
  λ e. choice-set (slice_get env k) (sym (input-value env k sort.Bool) ∙ e),
  λ e. input-value env k sort.Bool ∙ ap (λ o. unwrap_or o (val.Bool false)) e,
)

number-set : (o : Option Value) (w a : ℕ)
    → val.Bool (same_value (unwrap_or o (val.Bool false)) (val.Bits w a)) ≡ val.Bool true → o ≡ Some (val.Bits w a)
number-set None w a e = absurd (cc)
number-set (Some (val.Bool b)) w a e = absurd (cc)
number-set (Some (val.Bits v n)) w a e =
    let same = and_parts (v == w) (n == a) (cc) in
    let width : v ≡ w = eqb-true v w same.0 in
    let number : n ≡ a = eqb-true n a same.1 in
    ap (λ x. Some (val.Bits x n)) width ∙ ap (λ x. Some (val.Bits w x)) number

number-same : (w a : ℕ) → same_value (val.Bits w a) (val.Bits w a) ≡ true
number-same w a = and-both (w == w) (a == a) (eq-eqb w w refl) (eq-eqb a a refl)

-- an input is equal to a constant where it is that bit-vector
pub equal-true : (env : List Value) (k v w a : ℕ)
    → IsTrue env (Apply op.Eq (Then (Apply (op.Input k (sort.Bits v)) End) (Then (Apply (op.Bits w a) End) End)))
    ↔ (slice_get env k ≡ Some (val.Bits w a))
unfolding value
equal-true env k v w a = (
  λ e. number-set (slice_get env k) w a e,
  λ e. ap (λ o. val.Bool (same_value (unwrap_or o (val.Bool false)) (val.Bits w a))) e ∙ ap val.Bool (number-same w a),
)

-- ---- sorts

no-sort : IsSome {T = Sort} None → ⊥
no-sort h = let found = the_some {A = Sort} None h in absurd (none-some found.0 found.1)

of_rule : (p : ℕ) (f : Option MakeFault) (s : Sort) → IsSome (sort_unless f s) → sort_unless f s ≡ Some s
of_rule p None s h = refl
of_rule p (Some f) s h = absurd (no-sort h)

of_sorts : (p : ℕ) (o : Op) (s : Sort) → ((ss : List Sort) → result_sort (signature o).result ss ≡ s)
    → (found : Option (List Sort)) → IsSome (option_and_then (op_sort p o) found)
    → option_and_then (op_sort p o) found ≡ Some s
of_sorts p o s rule None h = absurd (no-sort h)
of_sorts p o s rule (Some ss) h =
    of_rule p (refusal p o ss) (result_sort (signature o).result ss) h ∙ ap (λ (t : Sort). Some t) (rule ss)

-- a well-sorted term of an operation that gives one sort is of that sort
pub sort-of_rule : (p : ℕ) (o : Op) (ts : Operands) (s : Sort)
    → ((ss : List Sort) → result_sort (signature o).result ss ≡ s)
    → IsSome (sort_of p (Apply o ts)) → sort_of p (Apply o ts) ≡ Some s
unfolding sort_of
sort-of_rule p o ts s rule h = of_sorts p o s rule (sorts_of p ts) h

-- ---- inputs

pub input-only : (k l : ℕ) (s t : Sort) → IsSubterm (Apply (op.Input k s) End) (Apply (op.Input l t) End)
    → (k ≡ l) × (s ≡ t)
unfolding IsSubterm
input-only k l s t below = ⊎_elim (λ same. (cc, cc)) (λ none. absurd none) below

pub input-none : (k : ℕ) (s : Sort) (o : Op) → ((l : ℕ) (t : Sort) → o ≡ op.Input l t → ⊥)
    → IsSubterm (Apply (op.Input k s) End) (Apply o End) → ⊥
unfolding IsSubterm
input-none k s o other below = ⊎_elim (λ same. other k s (cc)) (λ none. none) below

pub input-of_one : (k : ℕ) (s : Sort) (o : Op) (t : Term) → IsSubterm (Apply (op.Input k s) End) (Apply o (Then t End))
    → IsSubterm (Apply (op.Input k s) End) t
unfolding IsSubterm
input-of_one k s o t below =
    ⊎_elim (λ same. absurd (cc)) (λ among. ⊎_elim (λ here. here) (λ none. absurd none) among) below

pub input-of_two : (k : ℕ) (s : Sort) (o : Op) (t u : Term)
    → IsSubterm (Apply (op.Input k s) End) (Apply o (Then t (Then u End)))
    → IsSubterm (Apply (op.Input k s) End) t ⊎ IsSubterm (Apply (op.Input k s) End) u
unfolding IsSubterm
input-of_two k s o t u below =
    ⊎_elim (λ same. absurd (cc))
    (λ among. ⊎_elim (λ here. inl here) (λ later. ⊎_elim (λ there. inr there) (λ none. absurd none) later) among)
    below

pub first-below : (o : Op) (t : Term) (ts : Operands) (s : Term) → IsSubterm s t → IsSubterm s (Apply o (Then t ts))
unfolding IsSubterm
first-below o t ts s h = inr (inl h)

-- an input that stands in the term has a value of its sort
pub input-fits : (env : List Value) (k : ℕ) (s : Sort) (t : Term) → InputsFit env t
    → IsSubterm (Apply (op.Input k s) End) t → (v : Value) × (slice_get env k ≡ Some v) × HasSort s v
unfolding InputsFit
input-fits env k s t fit below = (InputsFit-subterm env t fit (Apply (op.Input k s) End) below).0

own-fits : (env : List Value) (o : Op)
    → ((k : ℕ) (s : Sort) → o ≡ op.Input k s → (v : Value) × (slice_get env k ≡ Some v) × HasSort s v)
    → InputFits env o
own-fits env (op.Input k s) each = each k s refl
own-fits env _ each = tt

operator-fits : (env : List Value) (o : Op) (n : ℕ) → suc n ≡ arity o → InputFits env o
operator-fits env (op.Input k s) n e = absurd (omega arith)
operator-fits env _ n e = tt

-- where an input has a value of its sort
abbrev pub HasFitting : List Value → ℕ → Sort → Type 0
HasFitting env k s = (v : Value) × (slice_get env k ≡ Some v) × HasSort s v

-- the inputs of a well-sorted term fit where each that stands in it has a value of its sort
mutual
  unfolding IsSubterm InputsFit

  pub inputs-fit : (env : List Value) (p : ℕ) (t : Term) (s : Sort) → sort_of p t ≡ Some s
      → ((k : ℕ) (r : Sort) → IsSubterm (Apply (op.Input k r) End) t → HasFitting env k r) → InputsFit env t
  inputs-fit env p (Apply o End) s sorted each =
      (own-fits env o (λ k r e. each k r (inl (ap (λ (x : Op). Apply x End) (sym e)))), tt)
  inputs-fit env p (Apply o (Then t ts)) s sorted each =
      let is = IsSorted-of p o (Then t ts) s sorted in
      let parts = sorts_of-some p t ts is.sorts is.of_args in
      let count : suc (length parts.1) ≡ arity o =
      sym (ap length parts.2) ∙ (IsFitting-of p o is.sorts is.fits).arity in (
        operator-fits env o (length parts.1) count,
        (
          inputs-fit env p t parts.0 parts.3 (λ k r h. each k r (inr (inl h))),
          all-inputs-fit env p ts parts.1 parts.4 (λ k r h. each k r (inr (inr h))),
        ),
      )

  all-inputs-fit : (env : List Value) (p : ℕ) (ts : Operands) (ss : List Sort) → sorts_of p ts ≡ Some ss
      → ((k : ℕ) (r : Sort) → IsSubtermAmong (Apply (op.Input k r) End) ts → HasFitting env k r) → AllInputsFit env ts
  all-inputs-fit env p End ss sorted each = tt
  all-inputs-fit env p (Then t ts) ss sorted each =
      let parts = sorts_of-some p t ts ss sorted in (
        inputs-fit env p t parts.0 parts.3 (λ k r h. each k r (inl h)),
        all-inputs-fit env p ts parts.1 parts.4 (λ k r h. each k r (inr h)),
      )
