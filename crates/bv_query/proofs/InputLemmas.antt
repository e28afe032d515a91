-- The inputs in terms, and environments that fit them.
use Rattle.std.proofs.Common.{◌≡◌, ◌∙◌, ℕ, suc, ◌<◌, ◌≤◌, ◌==◌, ◌&&◌, ◌||◌, ◌↔◌, ◌⊎◌, Bool, true, false, not}
use Rattle.std.proofs.Common.{List, [], ◌∷◌, map, Option, Some, None, IsSome, Contains, length, slice_get, refl, sym}
use Rattle.std.proofs.Common.{ap, subst, inl, inr, arith, unwrap_or}
use Rattle.std.specs.Prelude.{IsTrue}
use Rattle.std.specs.List.{filter_map, list_all, cons_option}
use Rattle.std.proofs.lemmas.Bool.{eq-eqb}
use Rattle.std.proofs.lemmas.Bool.Decides.{nat_tests}
use Rattle.std.proofs.lemmas.Option.{same_Some}
use Rattle.bv_terms.specs.declared.op.Op.{Op}
use Rattle.bv_terms.specs.declared.op.Op.TheVariants as op
use Rattle.bv_terms.specs.declared.op.TermId.{TermId}
use Rattle.bv_terms.specs.declared.value.Sort.{Sort}
use Rattle.bv_terms.specs.declared.value.Sort.TheVariants as sort
use Rattle.bv_terms.specs.declared.value.Value.{Value}
use Rattle.bv_terms.specs.declared.signature.IndexRule.TheVariants.{Sized}
use Rattle.bv_terms.specs.Sorts.{same_sort, width_of, IsSized}
use Rattle.bv_terms.specs.Term.{Term, Operands, Apply, End, Then}
use Rattle.bv_terms.specs.WellSorted.{sort_of, sorts_of, InputFits, InputsFit, AllInputsFit}
use Rattle.bv_terms.specs.Subterm.{IsSubterm, IsSubtermAmong, AreSubterms}
use Rattle.bv_terms.specs.Table.{Entry, Table, term_at, terms_of, operands, IsTable}
use Rattle.bv_terms.proofs.SignatureLemmas.{IsFitting-of, sorts_none, same_sort-true}
use Rattle.bv_terms.proofs.TermLemmas.{IsSorted-of, sorts_of-some, sort_of-sized}
use Rattle.bv_terms.proofs.TableLemmas.{term_at-node, length-terms_of}
use Rattle.bit_blast.proofs.FormulaLemmas.{subterm-node}
use Rattle.bv_query.specs.Inputs.{read_input, input_of, IsInputOf, HaveOneSort, AreInputsOf, are_alike, have_one_sort}
use Rattle.list_lemmas.proofs.Bools.{same_test, or-cases, or-left, or-right, true-or-false}
use Rattle.list_lemmas.proofs.Lookups.{map-contains, some_at}
use Rattle.list_lemmas.proofs.Members.{In, In-from_Contains, Contains-from_In, In_of_map, list_all_in, list_all_from_in}
use Rattle.list_lemmas.proofs.Options.{the_some}

abbrev pub Numbered : Type 0
Numbered = ℕ × Sort

-- ---- the term of an input

read-is : (o : Op) (number : ℕ) (s : Sort) → read_input o ≡ Some (number, s) → o ≡ op.Input number s
read-is (op.Input k r) number s h =
    ap (λ (i : Numbered). op.Input i.0 i.1) (same_Some (k, r) (number, s) h)
read-is o number s h = absurd (cc)

input-is : (t : Term) (number : ℕ) (s : Sort) → input_of t ≡ Some (number, s) → t ≡ Apply (op.Input number s) End
input-is (Apply o End) number s h = ap (λ o. Apply o End) (read-is o number s h)
input-is (Apply o (Then t ts)) number s h = absurd (cc)

-- what a node's operation reads, where it has no argument, is the input that its term is
pub input-none : (table : Table) → IsTable table → (at : TermId) (o : Op) (args : List TermId) (none : Bool)
    → slice_get table.nodes at.0 ≡ Some (record { op = o; args = args }) → none ≡ (length args == 0) → none ≡ false
    → None ≡ input_of (term_at table at)
input-none table is at o [] none e counted some = absurd (let bad : true ≡ false = sym counted ∙ some in cc)
input-none table is at o (a ∷ args) none e counted some =
    ap input_of (sym (term_at-node table is at (record { op = o; args = a ∷ args }) e))

pub input-read : (table : Table) → IsTable table → (at : TermId) (o : Op) (args : List TermId) (none : Bool)
    → slice_get table.nodes at.0 ≡ Some (record { op = o; args = args }) → none ≡ (length args == 0) → none ≡ true
    → read_input o ≡ input_of (term_at table at)
input-read table is at o [] none e counted empty =
    ap input_of (sym (term_at-node table is at (record { op = o; args = [] }) e))
input-read table is at o (a ∷ args) none e counted empty =
    absurd (let some : (suc (length args) == 0) ≡ false = grind (arith, nat_tests) in
    let bad : false ≡ true = sym some ∙ sym counted ∙ empty in cc)

-- ---- the inputs among nodes

In-filter_map : {A B : Type 0} (f : A → Option B) (xs : List A) (x : A) (y : B) → In xs x → f x ≡ Some y
    → In (filter_map f xs) y
In-filter_map f [] x y i e = absurd i
In-filter_map {A} {B} f (z ∷ xs) x y (inl same) e =
    subst (λ o. In (cons_option o (filter_map f xs)) y) (sym (ap f same ∙ e)) (inl refl)
In-filter_map {A} {B} f (z ∷ xs) x y (inr later) e = by (f z) (In-filter_map f xs x y later e)
  where
    by : (o : Option B) → In (filter_map f xs) y → In (cons_option o (filter_map f xs)) y
    by None rest = rest
    by (Some w) rest = inr rest

In_of_filter_map : {A B : Type 0} (f : A → Option B) (xs : List A) (y : B) → In (filter_map f xs) y
    → (x : A) × In xs x × (f x ≡ Some y)
In_of_filter_map f [] y i = absurd i
In_of_filter_map {A} {B} f (z ∷ xs) y i =
    by (λ rest. let found = In_of_filter_map f xs y rest in (found.0, inr found.1, found.2)) (f z) refl i
  where
    by : (In (filter_map f xs) y → (x : A) × In (z ∷ xs) x × (f x ≡ Some y)) → (o : Option B) → f z ≡ o
        → In (cons_option o (filter_map f xs)) y → (x : A) × In (z ∷ xs) x × (f x ≡ Some y)
    by later None e rest = later rest
    by later (Some w) e (inl same) = (z, inl refl, e ∙ ap Some same)
    by later (Some w) e (inr rest) = later rest

pub AreInputsOf-nodes : (table : Table) → IsTable table → (formulas nodes : List TermId)
    → ((r : TermId) → In formulas r → r.0 < length table.nodes) → AreSubterms table formulas nodes
    → AreInputsOf (map (term_at table) formulas) (filter_map (λ at. input_of (term_at table at)) nodes)
AreInputsOf-nodes table is formulas nodes within are = record { exact = λ number s. (to number s, from number s) }
  where
    ts : List Term
    ts = map (term_at table) formulas

    to : (number : ℕ) (s : Sort) → Contains (filter_map (λ at. input_of (term_at table at)) nodes) (number, s)
        → IsInputOf ts number s
    to number s h =
        let at = In_of_filter_map (λ (at : TermId). input_of (term_at table at)) nodes (number, s)
        (In-from_Contains _ _ h) in
        let below = (are.exact at.0).0 (Contains-from_In nodes at.0 at.1) in
        let r = below.1 in (
          term_at table r.0,
          map-contains (term_at table) formulas r.0 r.1,
          subst (λ t. IsSubterm t (term_at table r.0)) (input-is (term_at table at.0) number s at.2) r.2,
        )

    from : (number : ℕ) (s : Sort) → IsInputOf ts number s
        → Contains (filter_map (λ at. input_of (term_at table at)) nodes) (number, s)
    from number s h =
        let r = In_of_map (term_at table) formulas h.0 (In-from_Contains ts h.0 h.1) in
        let below : IsSubterm (Apply (op.Input number s) End) (term_at table r.0) =
        subst (IsSubterm (Apply (op.Input number s) End)) (sym r.2) h.2 in
        let x = subterm-node table is r.0 (Apply (op.Input number s) End) (within r.0 r.1) below in
        let among : Contains nodes x.0 = (are.exact x.0).1 (
          x.1,
          (
            r.0,
            Contains-from_In formulas r.0 r.1,
            subst (λ t. IsSubterm t (term_at table r.0)) (sym x.2) below,
          ),
        ) in
        Contains-from_In _ _ (In-filter_map (λ (at : TermId). input_of (term_at table at)) nodes x.0 (number, s)
        (In-from_Contains nodes x.0 among) (ap input_of x.2))

-- ---- one sort a number

alike-same : (i j : Numbered) → are_alike i j ≡ true → i.0 ≡ j.0 → i.1 ≡ j.1
alike-same i j h same = same_sort-true i.1 j.1
    (sym (ap (λ t. not t || same_sort i.1 j.1) (eq-eqb i.0 j.0 same)) ∙ h)

same-alike : (i j : Numbered) → (i.0 ≡ j.0 → i.1 ≡ j.1) → are_alike i j ≡ true
same-alike i j h = by (true-or-false (i.0 == j.0))
  where
    itself : (s : Sort) → same_sort s s ≡ true
    itself sort.Bool = refl
    itself (sort.Bits w) = eq-eqb w w refl
    itself sort.Mem = refl

    by : ((i.0 == j.0) ≡ true) ⊎ ((i.0 == j.0) ≡ false) → are_alike i j ≡ true
    by (inl same) = or-right (not (i.0 == j.0)) (same_sort i.1 j.1)
        (ap (same_sort i.1) (sym (h (grind (arith)))) ∙ itself i.1)
    by (inr differ) = or-left (not (i.0 == j.0)) (same_sort i.1 j.1) (ap not differ)

-- by the test of each pair
pub HaveOneSort-by : (ts : List Term) (inputs : List Numbered) (one : Bool) → AreInputsOf ts inputs
    → one ≡ have_one_sort inputs → IsTrue one ↔ HaveOneSort ts
HaveOneSort-by ts inputs one are e = (to, from)
  where
    at : (number : ℕ) (s : Sort) → IsInputOf ts number s → In inputs (number, s)
    at number s h = In-from_Contains inputs (number, s) ((are.exact number s).1 h)

    to : IsTrue one → HaveOneSort ts
    to alike number r s first second =
        let row = list_all_in (λ (i : Numbered). list_all (are_alike i) inputs) inputs (number, r) (sym e ∙ alike)
        (at number r first) in
        alike-same (number, r) (number, s) (list_all_in (are_alike (number, r)) inputs (number, s) row
        (at number s second)) refl

    from : HaveOneSort ts → IsTrue one
    from h = e ∙ list_all_from_in (λ (i : Numbered). list_all (are_alike i) inputs) inputs (λ i first.
        list_all_from_in (are_alike i) inputs (λ j second. same-alike i j (λ same. h i.0 i.1 j.1
        ((are.exact i.0 i.1).0 (Contains-from_In inputs i first))
        ((are.exact i.0 j.1).0 (Contains-from_In inputs (i.0, j.1)
        (subst (λ m. In inputs (m, j.1)) (sym same) second))))))

-- ---- environments that fit

own-input : (p : ℕ) (k : ℕ) (r : Sort) (ts : Operands) (s : Sort) → sort_of p (Apply (op.Input k r) ts) ≡ Some s
    → ts ≡ End
own-input p k r ts s h =
    let sorted = IsSorted-of p (op.Input k r) ts s h in
    let none : sorted.sorts ≡ [] =
    sorts_none p (Sized r) sorted.sorts sorted.sorts (IsFitting-of p (op.Input k r) sorted.sorts sorted.fits).fit in
    no_operands ts (sorted.of_args ∙ ap Some none)
  where
    no_operands : (ts : Operands) → sorts_of p ts ≡ Some [] → ts ≡ End
    no_operands End e = refl
    no_operands (Then t ts) e = let parts = sorts_of-some p t ts [] e in absurd (nothing parts.2)
      where
        nothing : {x : Sort} {xs : List Sort} → [] ≡ x ∷ xs → ⊥
        nothing same = cc

-- the environment fits each input that stands in the term
abbrev pub FitEach : List Value → (Term → Type 0) → Type 0
FitEach env Stands =
    (number : ℕ) (r : Sort) → Stands (Apply (op.Input number r) End) → InputFits env (op.Input number r)

own-fits : (p : ℕ) (env : List Value) (o : Op) (ts : Operands) (s : Sort) → sort_of p (Apply o ts) ≡ Some s
    → FitEach env (λ t. IsSubterm t (Apply o ts)) → InputFits env o
unfolding IsSubterm
own-fits p env (op.Input k r) ts s h each =
    each k r (inl (ap (λ (us : Operands). Apply (op.Input k r) us) (sym (own-input p k r ts s h))))
own-fits p env o ts s h each = tt

mutual
  unfolding IsSubterm InputsFit

  pub InputsFit-each : (p : ℕ) (env : List Value) (t : Term) (s : Sort) → sort_of p t ≡ Some s
      → FitEach env (λ u. IsSubterm u t) → InputsFit env t
  InputsFit-each p env (Apply o ts) s h each =
      let sorted = IsSorted-of p o ts s h in (
        own-fits p env o ts s h each,
        AllInputsFit-each p env ts sorted.sorts sorted.of_args (λ number r among. each number r (inr among)),
      )

  AllInputsFit-each : (p : ℕ) (env : List Value) (ts : Operands) (ss : List Sort) → sorts_of p ts ≡ Some ss
      → FitEach env (λ u. IsSubtermAmong u ts) → AllInputsFit env ts
  AllInputsFit-each p env End ss h each = tt
  AllInputsFit-each p env (Then t ts) ss h each =
      let parts = sorts_of-some p t ts ss h in (
        InputsFit-each p env t parts.0 parts.3 (λ number r here. each number r (inl here)),
        AllInputsFit-each p env ts parts.1 parts.4 (λ number r later. each number r (inr later)),
      )

-- ---- the sort of an input

alone-sort : (p k : ℕ) (r s : Sort) → sort_of p (Apply (op.Input k r) End) ≡ Some s → r ≡ s
alone-sort p k r s h = (IsSorted-of p (op.Input k r) End s h).result

pub input-sized : (table : Table) → IsTable table → (at : TermId) (number : ℕ) (r : Sort) → at.0 < length table.nodes
    → IsSubterm (Apply (op.Input number r) End) (term_at table at) → IsSized r
input-sized table is at number r there below =
    let x = subterm-node table is at (Apply (op.Input number r) End) there below in
    let entry = entry-term x.0 x.1 in
    let some = the_some (sort_of table.pointer (term_at table x.0)) (is.well_sorted x.0.0 (term_at table x.0) entry) in
    let sorted = ap (sort_of table.pointer) (sym x.2) ∙ some.1 in
    subst IsSized (sym (alone-sort table.pointer number r some.0 sorted))
    (sort_of-sized table.pointer (Apply (op.Input number r) End) some.0 sorted)
  where
    entry-term : (x : TermId) → x.0 < length table.nodes → slice_get (terms_of table) x.0 ≡ Some (term_at table x)
    entry-term x less =
        let at = some_at (terms_of table) x.0 (omega (arith, less, length-terms_of table)) in
        at.1 ∙ ap Some (sym (ap (λ o. unwrap_or o (Apply (op.Bits 0 0) End)) at.1))

pub small-width : (s : Sort) → IsSized s → width_of s ≤ 64
small-width sort.Bool h = omega arith
small-width (sort.Bits w) h = h.1
small-width sort.Mem h = omega arith
