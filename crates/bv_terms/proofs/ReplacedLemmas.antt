-- A term with other terms in place of its inputs: its sort is the same, and its value is the term's at their values.
use Rattle.std.proofs.Common.{◌≡◌, ℕ, ◌<◌, List, [], ◌∷◌, map, length, option_map, slice_get, unwrap_or, None, Some}
use Rattle.std.proofs.Common.{All, ⊎_elim, false, refl, sym, ap, ◌∙◌, subst, arith}
use Rattle.std.specs.List.{AllByRecursion}
use Rattle.std.proofs.lemmas.List.Elements.{recursion_from_All}
use Rattle.std.proofs.lemmas.Option.{slice_get-map, slice_get_within, get_or_from_slice_get}
use Rattle.bv_terms.specs.declared.op.Op.{Op}
use Rattle.bv_terms.specs.declared.op.Op.TheVariants as op
use Rattle.bv_terms.specs.declared.op.TermId.{TermId}
use Rattle.bv_terms.specs.declared.value.Sort.{Sort}
use Rattle.bv_terms.specs.declared.value.Value.{Value}
use Rattle.bv_terms.specs.declared.value.Value.TheVariants as val
use Rattle.bv_terms.specs.Term.{Term, Operands, Apply, End, Then, op_value, value, values}
use Rattle.bv_terms.specs.Signature.{signature, refusal, result_sort}
use Rattle.bv_terms.specs.WellSorted.{sort_unless, sort_of, sorts_of, InputsFit, AllInputsFit}
use Rattle.bv_terms.specs.Table.{Entry, Table, term_in, operands, terms_of, IsTable}
use Rattle.bv_terms.specs.Subterm.{IsSubterm, IsSubtermAmong}
use Rattle.bv_terms.specs.Memory.{Thing, Plain, op_thing, thing, things}
use Rattle.bv_terms.specs.Replaced.{op_replaced, replaced, all_replaced, ReplacementFits, ReplacementsFit}
use Rattle.bv_terms.specs.Replaced.{AllReplacementsFit}
use Rattle.bv_terms.proofs.TableLemmas.{term_at-node}
use Rattle.bv_terms.proofs.SignatureLemmas.{IsFitting-of}
use Rattle.bv_terms.proofs.TermLemmas.{IsSorted, IsSorted-of, sorts_of-some}
use Rattle.bv_terms.proofs.MakeLemmas.{sort_of-apply, sorts_of-then}

-- ---- sorts

op_replaced-sorted : (p : ℕ) (ts : List Term) (o : Op) (us : Operands) (ss : List Sort) (s : Sort)
    → sorts_of p us ≡ Some ss → refusal p o ss ≡ None → result_sort (signature o).result ss ≡ s
    → ReplacementFits p ts o → sort_of p (op_replaced ts o us) ≡ Some s
op_replaced-sorted p ts (op.Input k r) us ss s e fits same fit =
    ap (λ o. sort_of p (unwrap_or o (Apply (op.Input k r) us))) fit.1 ∙ fit.2 ∙ ap Some same
op_replaced-sorted p ts o us ss s e fits same fit =
    sort_of-apply p o us ss e ∙ ap (λ q. sort_unless q (result_sort (signature o).result ss)) fits ∙ ap Some same

mutual
  unfolding replaced ReplacementsFit

  pub sort_of-replaced : (p : ℕ) (ts : List Term) (t : Term) (s : Sort) → sort_of p t ≡ Some s
      → ReplacementsFit p ts t → sort_of p (replaced ts t) ≡ Some s
  sort_of-replaced p ts (Apply o us) s h fit =
      let sorted = IsSorted-of p o us s h in
      op_replaced-sorted p ts o (all_replaced ts us) sorted.sorts s
      (sorts_of-replaced p ts us sorted.sorts sorted.of_args fit.1) sorted.fits sorted.result fit.0

  sorts_of-replaced : (p : ℕ) (ts : List Term) (us : Operands) (ss : List Sort) → sorts_of p us ≡ Some ss
      → AllReplacementsFit p ts us → sorts_of p (all_replaced ts us) ≡ Some ss
  sorts_of-replaced p ts End ss h fit = h
  sorts_of-replaced p ts (Then u us) ss h fit =
      let parts = sorts_of-some p u us ss h in
      sorts_of-then p (replaced ts u) (all_replaced ts us) parts.0 parts.1
      (sort_of-replaced p ts u parts.0 parts.3 fit.0) (sorts_of-replaced p ts us parts.1 parts.4 fit.1)
      ∙ ap Some (sym parts.2)

-- ---- values

-- a well-sorted input has no operands
no_operands : (p k : ℕ) (r : Sort) (us : Operands) (s : Sort) → IsSorted p (op.Input k r) us s → us ≡ End
no_operands p k r End s sorted = refl
no_operands p k r (Then u us) s sorted =
    let parts = sorts_of-some p u us sorted.sorts sorted.of_args in
    let none = (IsFitting-of p (op.Input k r) sorted.sorts sorted.fits).arity in
    absurd (omega (arith, none, ap length parts.2))

read_at : {A : Type 0} (f : Term → A) (ts : List Term) (k : ℕ) (t other : Term) (d : A) → slice_get ts k ≡ Some t
    → f (unwrap_or (slice_get ts k) other) ≡ unwrap_or (slice_get (map f ts) k) d
read_at f ts k t other d h =
    ap (λ o. f (unwrap_or o other)) h
    ∙ sym (ap (λ o. unwrap_or o d) (slice_get-map f ts k ∙ ap (option_map f) h))

op_replaced-value : (p : ℕ) (inputs : List Value) (ts : List Term) (o : Op) (us ws : Operands) (s : Sort)
    → IsSorted p o us s → ReplacementFits p ts o
    → values inputs ws ≡ values (map (value inputs) ts) us
    → value inputs (op_replaced ts o ws) ≡ op_value (map (value inputs) ts) o (values (map (value inputs) ts) us)
unfolding value
op_replaced-value p inputs ts (op.Input k r) us ws s sorted fit same =
    let none = no_operands p k r us s sorted in
    read_at (value inputs) ts k fit.0 (Apply (op.Input k r) ws) (val.Bool false) fit.1
    ∙ sym (ap (λ us. op_value (map (value inputs) ts) (op.Input k r) (values (map (value inputs) ts) us)) none)
op_replaced-value p inputs ts o us ws s sorted fit same = ap (op_value inputs o) same

mutual
  unfolding replaced ReplacementsFit value

  pub value-replaced : (p : ℕ) (inputs : List Value) (ts : List Term) (t : Term) (s : Sort) → sort_of p t ≡ Some s
      → ReplacementsFit p ts t → value inputs (replaced ts t) ≡ value (map (value inputs) ts) t
  value-replaced p inputs ts (Apply o us) s h fit =
      let sorted = IsSorted-of p o us s h in
      op_replaced-value p inputs ts o us (all_replaced ts us) s sorted fit.0
      (values-replaced p inputs ts us sorted.sorts sorted.of_args fit.1)

  values-replaced : (p : ℕ) (inputs : List Value) (ts : List Term) (us : Operands) (ss : List Sort)
      → sorts_of p us ≡ Some ss → AllReplacementsFit p ts us
      → values inputs (all_replaced ts us) ≡ values (map (value inputs) ts) us
  values-replaced p inputs ts End ss h fit = refl
  values-replaced p inputs ts (Then u us) ss h fit =
      let parts = sorts_of-some p u us ss h in
      ap (λ v. v ∷ values inputs (all_replaced ts us)) (value-replaced p inputs ts u parts.0 parts.3 fit.0)
      ∙ ap (λ vs. value (map (value inputs) ts) u ∷ vs) (values-replaced p inputs ts us parts.1 parts.4 fit.1)

-- ---- and where an input is a memory

op_replaced-thing : (p : ℕ) (inputs : List Thing) (ts : List Term) (o : Op) (us ws : Operands) (s : Sort)
    → IsSorted p o us s → ReplacementFits p ts o
    → things p inputs ws ≡ things p (map (thing p inputs) ts) us
    → thing p inputs (op_replaced ts o ws)
    ≡ op_thing p (map (thing p inputs) ts) o (things p (map (thing p inputs) ts) us)
unfolding thing
op_replaced-thing p inputs ts (op.Input k r) us ws s sorted fit same =
    let none = no_operands p k r us s sorted in
    read_at (thing p inputs) ts k fit.0 (Apply (op.Input k r) ws) (Plain (val.Bool false)) fit.1
    ∙ sym (ap (λ us. op_thing p (map (thing p inputs) ts) (op.Input k r) (things p (map (thing p inputs) ts) us)) none)
op_replaced-thing p inputs ts o us ws s sorted fit same = ap (op_thing p inputs o) same

mutual
  unfolding replaced ReplacementsFit thing

  pub thing-replaced : (p : ℕ) (inputs : List Thing) (ts : List Term) (t : Term) (s : Sort) → sort_of p t ≡ Some s
      → ReplacementsFit p ts t → thing p inputs (replaced ts t) ≡ thing p (map (thing p inputs) ts) t
  thing-replaced p inputs ts (Apply o us) s h fit =
      let sorted = IsSorted-of p o us s h in
      op_replaced-thing p inputs ts o us (all_replaced ts us) s sorted fit.0
      (things-replaced p inputs ts us sorted.sorts sorted.of_args fit.1)

  things-replaced : (p : ℕ) (inputs : List Thing) (ts : List Term) (us : Operands) (ss : List Sort)
      → sorts_of p us ≡ Some ss → AllReplacementsFit p ts us
      → things p inputs (all_replaced ts us) ≡ things p (map (thing p inputs) ts) us
  things-replaced p inputs ts End ss h fit = refl
  things-replaced p inputs ts (Then u us) ss h fit =
      let parts = sorts_of-some p u us ss h in
      ap (λ v. v ∷ things p inputs (all_replaced ts us)) (thing-replaced p inputs ts u parts.0 parts.3 fit.0)
      ∙ ap (λ vs. thing p (map (thing p inputs) ts) u ∷ vs) (things-replaced p inputs ts us parts.1 parts.4 fit.1)

-- ---- inputs that fit

op_replaced-fit : (p : ℕ) (inputs : List Value) (ts : List Term) (o : Op) (us : Operands) → ReplacementFits p ts o
    → All (InputsFit inputs) ts → AllInputsFit inputs us → InputsFit inputs (op_replaced ts o us)
unfolding InputsFit
op_replaced-fit p inputs ts (op.Input k r) us fit all among =
    subst (λ o. InputsFit inputs (unwrap_or o (Apply (op.Input k r) us))) (sym fit.1)
    (subst (InputsFit inputs) (get_or_from_slice_get ts k fit.0 fit.0 fit.1)
    (all k fit.0 (slice_get_within ts k fit.0 fit.1)))
op_replaced-fit p inputs ts o us fit all among = (tt, among)

mutual
  unfolding replaced ReplacementsFit InputsFit

  -- inputs that fit the terms in place of a term's inputs fit the whole
  pub InputsFit-replaced : (p : ℕ) (inputs : List Value) (ts : List Term) → All (InputsFit inputs) ts → (t : Term)
      → ReplacementsFit p ts t → InputsFit inputs (replaced ts t)
  InputsFit-replaced p inputs ts all (Apply o us) fit =
      op_replaced-fit p inputs ts o (all_replaced ts us) fit.0 all (AllInputsFit-replaced p inputs ts all us fit.1)

  AllInputsFit-replaced : (p : ℕ) (inputs : List Value) (ts : List Term) → All (InputsFit inputs) ts → (us : Operands)
      → AllReplacementsFit p ts us → AllInputsFit inputs (all_replaced ts us)
  AllInputsFit-replaced p inputs ts all End fit = tt
  AllInputsFit-replaced p inputs ts all (Then u us) fit =
      (InputsFit-replaced p inputs ts all u fit.0, AllInputsFit-replaced p inputs ts all us fit.1)

-- ---- terms in place of the inputs of subterms

mutual
  unfolding IsSubterm ReplacementsFit

  pub ReplacementsFit-subterm : (p : ℕ) (ts : List Term) (t : Term) → ReplacementsFit p ts t → (u : Term)
      → IsSubterm u t → ReplacementsFit p ts u
  ReplacementsFit-subterm p ts (Apply o us) fit u below =
      ⊎_elim (λ same. subst (ReplacementsFit p ts) (sym same) fit)
      (λ among. AllReplacementsFit-subterm p ts us fit.1 u among) below

  AllReplacementsFit-subterm : (p : ℕ) (ts : List Term) (us : Operands) → AllReplacementsFit p ts us → (u : Term)
      → IsSubtermAmong u us → ReplacementsFit p ts u
  AllReplacementsFit-subterm p ts End fit u among = absurd among
  AllReplacementsFit-subterm p ts (Then t us) fit u among =
      ⊎_elim (λ here. ReplacementsFit-subterm p ts t fit.0 u here)
      (λ later. AllReplacementsFit-subterm p ts us fit.1 u later) among

-- ---- which terms have terms in place of their inputs

pub ReplacementsFit-apply : (p : ℕ) (ts : List Term) (o : Op) (us : Operands) → ReplacementFits p ts o
    → AllReplacementsFit p ts us → ReplacementsFit p ts (Apply o us)
unfolding ReplacementsFit
ReplacementsFit-apply p ts o us h all = (h, all)

AllReplacementsFit-operands : (p : ℕ) (ts us : List Term) (n : ℕ)
    → ((k : ℕ) → k < n → ReplacementsFit p ts (term_in us k)) → (args : List TermId)
    → AllByRecursion (λ (a : TermId). a.0 < n) args → AllReplacementsFit p ts (operands us args)
unfolding ReplacementsFit
AllReplacementsFit-operands p ts us n fit [] below = tt
AllReplacementsFit-operands p ts us n fit (a ∷ args) below =
    (fit a.0 below.0, AllReplacementsFit-operands p ts us n fit args below.1)

-- a node's inputs have terms in their places where its own has and those of all earlier nodes have
pub ReplacementsFit-node : (p : ℕ) (ts : List Term) (table : Table) → IsTable table → (k : ℕ) (e : Entry)
    → slice_get table.nodes k ≡ Some e → ReplacementFits p ts e.op
    → ((j : ℕ) → j < k → ReplacementsFit p ts (term_in (terms_of table) j))
    → ReplacementsFit p ts (term_in (terms_of table) k)
ReplacementsFit-node p ts table is_table k e h own earlier =
    let below = recursion_from_All (λ (a : TermId). a.0 < k) e.args (is_table.earlier k e h) in
    subst (ReplacementsFit p ts) (sym (term_at-node table is_table (record { 0 = k }) e h))
    (ReplacementsFit-apply p ts e.op (operands (terms_of table) e.args) own
    (AllReplacementsFit-operands p ts (terms_of table) k earlier e.args below))
