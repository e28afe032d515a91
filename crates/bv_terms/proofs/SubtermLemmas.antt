-- The subterms of the terms of nodes, and the lists of nodes that they are.
use Rattle.std.proofs.Common.{◌≡◌, ℕ, zero, suc, ◌<◌, inl, inr, ⊎_elim, List, [], ◌∷◌, length, get_or, take}
use Rattle.std.proofs.Common.{slice_get}
use Rattle.std.proofs.Common.{Some, All, Contains, refl, sym, ap, ◌∙◌, subst, arith}
use Rattle.std.specs.Prelude.{AllPairs}
use Rattle.std.specs.List.{AllByRecursion}
use Rattle.std.proofs.lemmas.Bool.{cases_lt}
use Rattle.std.proofs.lemmas.List.{get_or-take, length-take-le}
use Rattle.std.proofs.lemmas.List.Elements.{All-contains}
use Rattle.std.proofs.lemmas.List.Elements.{recursion_from_All}
use Rattle.std.proofs.lemmas.Option.{same_Some, slice_get-get_or, slice_get_within, get_or_from_slice_get}
use Rattle.bv_terms.specs.declared.op.Op.{Op}
use Rattle.bv_terms.specs.declared.op.Op.TheVariants as op
use Rattle.bv_terms.specs.declared.op.TermId.{TermId}
use Rattle.bv_terms.specs.declared.value.Value.{Value}
use Rattle.bv_terms.specs.Term.{Term, Operands, Apply, End, Then}
use Rattle.bv_terms.specs.WellSorted.{InputsFit, AllInputsFit}
use Rattle.bv_terms.specs.Table.{Entry, Table, term_in, operands, terms_of, term_at, IsTable}
use Rattle.bv_terms.specs.Subterm.{IsSubterm, IsSubtermAmong, IsSubtermNode, AreSubterms, IsTopological}
use Rattle.bv_terms.proofs.TableLemmas.{term_at-node}
use Rattle.list_lemmas.proofs.Lookups.{Contains-cases, Contains-first, Contains-later}

-- ---- elements of a list

-- ---- subterms of a term

pub IsSubterm-itself : (t : Term) → IsSubterm t t
unfolding IsSubterm
IsSubterm-itself (Apply o ts) = inl refl

mutual
  unfolding IsSubterm

  pub IsSubterm-through : (r s t : Term) → IsSubterm r s → IsSubterm s t → IsSubterm r t
  IsSubterm-through r s (Apply o ts) a b =
      ⊎_elim (λ same. subst (IsSubterm r) same a) (λ among. inr (IsSubtermAmong-through r s ts a among)) b

  pub IsSubtermAmong-through : (r s : Term) (ts : Operands) → IsSubterm r s → IsSubtermAmong s ts → IsSubtermAmong r ts
  IsSubtermAmong-through r s End a b = absurd b
  IsSubtermAmong-through r s (Then t ts) a b =
      ⊎_elim (λ here. inl (IsSubterm-through r s t a here)) (λ later. inr (IsSubtermAmong-through r s ts a later)) b

-- the inputs of a subterm fit where those of the term do
mutual
  unfolding IsSubterm InputsFit

  pub InputsFit-subterm : (inputs : List Value) (t : Term) → InputsFit inputs t → (u : Term) → IsSubterm u t
      → InputsFit inputs u
  InputsFit-subterm inputs (Apply o ts) fit u below =
      ⊎_elim (λ same. subst (InputsFit inputs) (sym same) fit)
      (λ among. AllInputsFit-subterm inputs ts fit.1 u among) below

  pub AllInputsFit-subterm : (inputs : List Value) (ts : Operands) → AllInputsFit inputs ts
      → (u : Term) → IsSubtermAmong u ts → InputsFit inputs u
  AllInputsFit-subterm inputs End fit u among = absurd among
  AllInputsFit-subterm inputs (Then t ts) fit u among =
      ⊎_elim (λ here. InputsFit-subterm inputs t fit.0 u here)
      (λ later. AllInputsFit-subterm inputs ts fit.1 u later) among

-- ---- subterms of a node's term

-- an argument's term stands among the operands
argument-among : (ts : List Term) (args : List TermId) (a : TermId) → Contains args a
    → IsSubtermAmong (term_in ts a.0) (operands ts args)
unfolding IsSubterm
argument-among ts [] a h = absurd (omega (arith, h.1))
argument-among ts (b ∷ args) a h =
    ⊎_elim (λ first. inl (subst (λ (c : TermId). IsSubterm (term_in ts a.0) (term_in ts c.0)) (sym first)
    (IsSubterm-itself (term_in ts a.0))))
    (λ later. inr (argument-among ts args a later)) (Contains-cases b a args h)

-- what stands among the operands is a subterm of an argument's term
pub among-argument : (ts : List Term) (args : List TermId) (s : Term) → IsSubtermAmong s (operands ts args)
    → (a : TermId) × Contains args a × IsSubterm s (term_in ts a.0)
unfolding IsSubterm
among-argument ts [] s h = absurd h
among-argument ts (a ∷ args) s h =
    ⊎_elim (λ here. (a, Contains-first a args, here))
    (λ later. let found = among-argument ts args s later in (found.0, Contains-later a found.0 args found.1, found.2)) h

-- an argument of a node is smaller, and its term is a subterm of the node's
pub argument-subterm : (table : Table) → IsTable table → (at : TermId) (e : Entry) → slice_get table.nodes at.0 ≡ Some e
    → (a : TermId) → Contains e.args a
    → (a.0 < at.0) × IsSubterm (term_at table a) (term_at table at)
unfolding IsSubterm
argument-subterm table is at e h a c = (
  All-contains (λ (a : TermId). a.0 < at.0) e.args a (is.earlier at.0 e h) c,
  subst (IsSubterm (term_at table a)) (sym (term_at-node table is at e h))
      (inr (argument-among (terms_of table) e.args a c)),
)

-- the entry in a place of the table
pub entry-at : (table : Table) (k : ℕ) → k < length table.nodes → (e : Entry) × (slice_get table.nodes k ≡ Some e)
entry-at table k h =
    let none : Entry = record { op = op.Bits 0 0; args = [] } in
    (get_or table.nodes k none, slice_get-get_or table.nodes k none h)

-- ---- different nodes have different terms

same-args : (ts : List Term) (P Q : TermId → Type 0)
    → ((a b : TermId) → P a → Q b → term_in ts a.0 ≡ term_in ts b.0 → a ≡ b)
    → (xs ys : List TermId) → AllByRecursion P xs → AllByRecursion Q ys → operands ts xs ≡ operands ts ys → xs ≡ ys
same-args ts P Q one [] [] p q e = refl
same-args ts P Q one [] (b ∷ ys) p q e = cc
same-args ts P Q one (a ∷ xs) [] p q e = cc
same-args ts P Q one (a ∷ xs) (b ∷ ys) p q e =
    let first : term_in ts a.0 ≡ term_in ts b.0 = cc in
    let others : operands ts xs ≡ operands ts ys = cc in
    let head = one a b p.0 q.0 first in
    let rest = same-args ts P Q one xs ys p.1 q.1 others in
    rw (head, rest) refl

same-node : (table : Table) → IsTable table → (n : ℕ) (a b : TermId) → a.0 < n → a.0 < length table.nodes
    → b.0 < length table.nodes
    → term_at table a ≡ term_at table b → a ≡ b
same-node table is zero a b h l m e = absurd (omega (arith, h))
same-node table is (suc n) a b h l m e =
    let x = entry-at table a.0 l in
    let y = entry-at table b.0 m in
    let both : Apply x.0.op (operands (terms_of table) x.0.args) ≡ Apply y.0.op (operands (terms_of table) y.0.args) =
    sym (term_at-node table is a x.0 x.1) ∙ e ∙ term_at-node table is b y.0 y.1 in
    let ops : x.0.op ≡ y.0.op = cc in
    let inner : operands (terms_of table) x.0.args ≡ operands (terms_of table) y.0.args = cc in
    let args = same-args (terms_of table) (λ (t : TermId). t.0 < a.0) (λ (t : TermId). t.0 < b.0)
    (λ s t p q same. same-node table is n s t (omega (arith, p, h)) (omega (arith, p, l)) (omega (arith, q, m)) same)
    x.0.args y.0.args (recursion_from_All (λ (t : TermId). t.0 < a.0) x.0.args (is.earlier a.0 x.0 x.1))
    (recursion_from_All (λ (t : TermId). t.0 < b.0) y.0.args (is.earlier b.0 y.0 y.1)) inner in
    let made : Op → List TermId → Entry = λ o xs. record { op = o; args = xs } in
    let entry : y.0 ≡ x.0 = ap (λ o. made o y.0.args) (sym ops) ∙ ap (made x.0.op) (sym args) in
    ap (λ (m : ℕ). let id : TermId = record { 0 = m } in id) (is.distinct a.0 b.0 x.0 x.1 (y.1 ∙ ap Some entry))

-- nodes with equal terms are one
pub term_at-one : (table : Table) → IsTable table → (a b : TermId) → a.0 < length table.nodes → b.0 < length table.nodes
    → term_at table a ≡ term_at table b → a ≡ b
term_at-one table is a b l m e = same-node table is (suc a.0) a b (omega arith) l m e

-- ---- the nodes of subterms

-- nodes of the table that contain the arguments of each of them
pub record IsClosed (table : Table) (nodes : List TermId) : Type 0 where
  pub within : All (λ (at : TermId). at.0 < length table.nodes) nodes
  pub arguments : (at : TermId) (e : Entry) → Contains nodes at → slice_get table.nodes at.0 ≡ Some e
      → All (Contains nodes) e.args

closed-subterm : (table : Table) → IsTable table → (nodes : List TermId) → IsClosed table nodes
    → (n : ℕ) (at s : TermId) → at.0 < n → Contains nodes at
    → s.0 < length table.nodes → IsSubterm (term_at table s) (term_at table at) → Contains nodes s
unfolding IsSubterm
closed-subterm table is nodes closed zero at s h c l below = absurd (omega (arith, h))
closed-subterm table is nodes closed (suc n) at s h c l below =
    let within = All-contains (λ (at : TermId). at.0 < length table.nodes) nodes at closed.within c in
    let e = entry-at table at.0 within in
    let node = term_at-node table is at e.0 e.1 in
    let opened : IsSubterm (term_at table s) (Apply e.0.op (operands (terms_of table) e.0.args)) =
    subst (IsSubterm (term_at table s)) node below in
    ⊎_elim (λ same. subst (Contains nodes) (sym (term_at-one table is s at l within (same ∙ sym node))) c)
    (λ among.
    let arg = among-argument (terms_of table) e.0.args (term_at table s) among in
    let smaller = All-contains (λ (a : TermId). a.0 < at.0) e.0.args arg.0 (is.earlier at.0 e.0 e.1) arg.1 in
    closed-subterm table is nodes closed n arg.0 s (omega (arith, smaller, h))
    (All-contains (Contains nodes) e.0.args arg.0 (closed.arguments at e.0 c e.1) arg.1) l arg.2)
    opened

-- nodes of subterms are all of them where they rise, contain the results and are closed
pub AreSubterms-of : (table : Table) → IsTable table → (results nodes : List TermId)
    → AllPairs (λ (a b : TermId). a.0 < b.0) nodes
    → All (IsSubtermNode table results) nodes → All (Contains nodes) results → IsClosed table nodes
    → AreSubterms table results nodes
AreSubterms-of table is results nodes rising sound has closed = record {
  rising = rising;
  exact = λ at. (
    λ c. All-contains (IsSubtermNode table results) nodes at sound c,
    λ below. closed-subterm table is nodes closed (suc below.1.0.0) below.1.0 at (omega arith)
        (All-contains (Contains nodes) results below.1.0 has below.1.1) below.0 below.1.2,
  );
}

pub AreSubterms-within : (table : Table) (results nodes : List TermId) → AreSubterms table results nodes
    → All (λ (at : TermId). at.0 < length table.nodes) nodes
AreSubterms-within table results nodes are =
    λ k d h. ((are.exact (get_or nodes k d)).0 (k, h, same-element nodes k (get_or nodes k d) d h)).0
  where
    same-element : {A : Type 0} (xs : List A) (k : ℕ) (d e : A) → k < length xs → get_or xs k d ≡ get_or xs k e
    same-element xs k d e h =
        same_Some (get_or xs k d) (get_or xs k e) (sym (slice_get-get_or xs k d h) ∙ slice_get-get_or xs k e h)

-- the results are among the nodes
pub AreSubterms-results : (table : Table) (results nodes : List TermId) → AreSubterms table results nodes
    → All (λ (r : TermId). r.0 < length table.nodes) results → (r : TermId) → Contains results r → Contains nodes r
AreSubterms-results table results nodes are within r c =
    (are.exact r).1 (
      All-contains (λ (r : TermId). r.0 < length table.nodes) results r within c,
      (r, c, IsSubterm-itself (term_at table r)),
    )

-- and so are the arguments of each node
pub AreSubterms-closed : (table : Table) → IsTable table → (results nodes : List TermId)
    → AreSubterms table results nodes → IsClosed table nodes
AreSubterms-closed table is results nodes are = record {
  within = AreSubterms-within table results nodes are;
  arguments = λ at e c h. by at e h ((are.exact at).0 c);
}
  where
    by : (at : TermId) (e : Entry) → slice_get table.nodes at.0 ≡ Some e → IsSubtermNode table results at
        → All (Contains nodes) e.args
    by at e h below = λ k d l.
        let a = get_or e.args k d in
        let under = argument-subterm table is at e h a (
          k,
          l,
          same_Some (get_or e.args k a) (get_or e.args k d) (sym (slice_get-get_or e.args k a l)
              ∙ slice_get-get_or e.args k d l),
        ) in
        (are.exact a).1 (
          omega (arith, under.0, below.0),
          (
            below.1.0,
            below.1.1,
            IsSubterm-through (term_at table a) (term_at table at) (term_at table below.1.0) under.1 below.1.2,
          ),
        )

-- in a list that rises, a smaller node stands before a greater one
before-greater : (nodes : List TermId) → AllPairs (λ (a b : TermId). a.0 < b.0) nodes → (k : ℕ) (at a : TermId)
    → slice_get nodes k ≡ Some at
    → Contains nodes a → a.0 < at.0 → Contains (take k nodes) a
before-greater nodes rising k at a h c below =
    let within : k < length nodes = slice_get_within nodes k at h in
    let here : get_or nodes k a ≡ at = get_or_from_slice_get nodes k at a h in
    let rises = λ (greater : k < c.0). rising k c.0 a greater c.1 in
    let place : c.0 < k = ⊎_elim (λ less. less)
    (λ more. ⊎_elim (λ greater.
    absurd (omega (arith, below, ap (λ (t : TermId). t.0) here, ap (λ (t : TermId). t.0) c.2, rises greater)))
    (λ less. let same : k ≡ c.0 = omega (arith, more, less) in
    absurd (omega (arith, below, ap (λ (t : TermId). t.0) (sym here ∙ ap (λ i. get_or nodes i a) same ∙ c.2))))
    (cases_lt k c.0)) (cases_lt c.0 k) in
    (c.0, omega (arith, length-take-le k nodes (omega arith), place), get_or-take k nodes c.0 a place ∙ c.2)

pub IsTopological-of : (table : Table) → IsTable table → (nodes : List TermId)
    → AllPairs (λ (a b : TermId). a.0 < b.0) nodes → IsClosed table nodes → IsTopological table nodes
IsTopological-of table is nodes rising closed = record {
  within = closed.within;
  arguments = λ k at e h there. λ j d l.
      let a = get_or e.args j d in
      let c : Contains nodes at = (k, slice_get_within nodes k at h, get_or_from_slice_get nodes k at at h) in
      before-greater nodes rising k at a h (closed.arguments at e c there j d l) (is.earlier at.0 e there j d l);
}

-- the nodes of subterms stand after their arguments
pub AreSubterms-topological : (table : Table) → IsTable table → (results nodes : List TermId)
    → AreSubterms table results nodes → IsTopological table nodes
AreSubterms-topological table is results nodes are =
    IsTopological-of table is nodes are.rising (AreSubterms-closed table is results nodes are)

-- inputs that fit the results' terms fit those of all nodes of their subterms
pub AreSubterms-fit : (table : Table) (results nodes : List TermId) → AreSubterms table results nodes
    → (inputs : List Value)
    → All (λ (r : TermId). InputsFit inputs (term_at table r)) results
    → All (λ (at : TermId). InputsFit inputs (term_at table at)) nodes
AreSubterms-fit table results nodes are inputs fit = λ k d h.
    let at = get_or nodes k d in
    let same : get_or nodes k at ≡ at =
    same_Some (get_or nodes k at) at (sym (slice_get-get_or nodes k at h) ∙ slice_get-get_or nodes k d h) in
    let below = (are.exact at).0 (k, h, same) in
    let r = below.1.0 in
    InputsFit-subterm inputs (term_at table r)
    (All-contains (λ (r : TermId). InputsFit inputs (term_at table r)) results r fit below.1.1)
    (term_at table at) below.1.2
