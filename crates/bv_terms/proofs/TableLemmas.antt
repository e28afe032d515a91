-- The terms that a table denotes, node by node, and after a node is added.
use Rattle.std.proofs.Common.{subst, IsSome, ⊎_elim, Contains, ◌≡◌, ℕ, ◌+◌, ◌<◌, List}
use Rattle.std.proofs.Common.{[], ◌∷◌, ◌++◌, length, slice_get, unwrap_or, Some, All, refl, sym, ap, ◌∙◌, arith}
use Rattle.std.proofs.Common.{length-append}
use Rattle.std.specs.List.{AllByRecursion}
use Rattle.std.proofs.lemmas.List.Elements.{recursion_from_All}
use Rattle.bv_terms.specs.declared.op.TermId.{TermId}
use Rattle.bv_terms.specs.declared.value.Sort.{Sort}
use Rattle.bv_terms.specs.Term.{Term, Apply, Then}
use Rattle.bv_terms.specs.WellSorted.{sort_of}
use Rattle.bv_terms.specs.Table.{Entry, Table, term_in, operands, terms_from, terms_of, term_at, table_with, IsTable}
use Rattle.bv_terms.specs.Table.{most_nodes}
use Rattle.list_lemmas.proofs.Lookups.{Contains-from_slice_get as Contains-at, IsCut-at, push_cases}
use Rattle.list_lemmas.proofs.Lookups.{slice_get-append_left as slice_get-append, slice_get-at_end}
use Rattle.list_lemmas.proofs.Options.{some-is}

-- ---- places of a list

-- ---- the terms of nodes

pub terms_from-append : (ts : List Term) (es fs : List Entry)
    → terms_from ts (es ++ fs) ≡ terms_from (terms_from ts es) fs
terms_from-append ts [] fs = refl
terms_from-append ts (e ∷ es) fs = terms_from-append (ts ++ Apply e.op (operands ts e.args) ∷ []) es fs

pub length-terms_from : (ts : List Term) (es : List Entry) → length (terms_from ts es) ≡ length ts + length es
length-terms_from ts [] = omega arith
length-terms_from ts (e ∷ es) =
    omega (
      arith,
      length-terms_from (ts ++ Apply e.op (operands ts e.args) ∷ []) es,
      length-append ts (Apply e.op (operands ts e.args) ∷ []),
    )

pub slice_get-terms_from : (ts : List Term) (es : List Entry) (k : ℕ) → k < length ts
    → slice_get (terms_from ts es) k ≡ slice_get ts k
slice_get-terms_from ts [] k h = refl
slice_get-terms_from ts (e ∷ es) k h =
    slice_get-terms_from (ts ++ Apply e.op (operands ts e.args) ∷ []) es k
    (omega (arith, length-append ts (Apply e.op (operands ts e.args) ∷ [])))
    ∙ slice_get-append ts (Apply e.op (operands ts e.args) ∷ []) k h

-- operands are the same where their terms are
pub operands-same : (ts us : List Term) (n : ℕ) → ((k : ℕ) → k < n → term_in ts k ≡ term_in us k) → (args : List TermId)
    → AllByRecursion (λ a. a.0 < n) args → operands ts args ≡ operands us args
operands-same ts us n same [] h = refl
operands-same ts us n same (a ∷ args) h =
    ap (λ t. Then t (operands ts args)) (same a.0 h.0)
    ∙ ap (Then (term_in us a.0)) (operands-same ts us n same args h.1)

pub operands-below : (ts us : List Term) (n : ℕ) → ((k : ℕ) → k < n → term_in ts k ≡ term_in us k)
    → (args : List TermId) → All (λ (a : TermId). a.0 < n) args → operands ts args ≡ operands us args
operands-below ts us n same args h =
    operands-same ts us n same args (recursion_from_All (λ (a : TermId). a.0 < n) args h)

pub length-terms_of : (table : Table) → length (terms_of table) ≡ length table.nodes
length-terms_of table = omega (arith, length-terms_from [] table.nodes)

-- a node's term is its operation over the terms of its arguments
pub slice_get-terms_of : (table : Table) → IsTable table → (k : ℕ) (e : Entry) → slice_get table.nodes k ≡ Some e
    → slice_get (terms_of table) k ≡ Some (Apply e.op (operands (terms_of table) e.args))
slice_get-terms_of table is_table k e h =
    let cut = IsCut-at table.nodes k e h in
    let before = terms_from [] cut.front in
    let term = Apply e.op (operands before e.args) in
    let place : length before ≡ k = omega (arith, length-terms_from [] cut.front, cut.place) in
    let whole : terms_of table ≡ terms_from (before ++ term ∷ []) cut.back =
    ap (terms_from []) cut.whole ∙ terms_from-append [] cut.front (e ∷ cut.back) in
    let within = λ (j : ℕ) (lt : j < k). ap (λ (ts : List Term). term_in ts j) whole
    ∙ ap (λ o. unwrap_or o (term_in [] 0))
    (slice_get-terms_from (before ++ term ∷ []) cut.back j (omega (arith, length-append before (term ∷ [])))
    ∙ slice_get-append before (term ∷ []) j (omega arith)) in
    ap (λ (ts : List Term). slice_get ts k) whole
    ∙ slice_get-terms_from (before ++ term ∷ []) cut.back k (omega (arith, length-append before (term ∷ [])))
    ∙ slice_get-at_end before term [] k (sym place)
    ∙ ap (λ ts. Some (Apply e.op ts))
    (sym (operands-below (terms_of table) before k within e.args (is_table.earlier k e h)))

pub term_at-node : (table : Table) → IsTable table → (at : TermId) (e : Entry) → slice_get table.nodes at.0 ≡ Some e
    → term_at table at ≡ Apply e.op (operands (terms_of table) e.args)
term_at-node table is_table at e h = ap (λ o. unwrap_or o (term_in [] 0)) (slice_get-terms_of table is_table at.0 e h)

-- ---- a node added at the end

pub terms_of-push : (table : Table) (e : Entry)
    → terms_of (table_with table e) ≡ terms_of table ++ Apply e.op (operands (terms_of table) e.args) ∷ []
terms_of-push table e = terms_from-append [] table.nodes (e ∷ [])

-- earlier nodes keep their terms
pub term_at-push : (table : Table) (e : Entry) (at : TermId) → at.0 < length table.nodes
    → term_at (table_with table e) at ≡ term_at table at
term_at-push table e at h =
    ap (λ (ts : List Term). term_in ts at.0) (terms_of-push table e)
    ∙ ap (λ o. unwrap_or o (term_in [] 0))
    (slice_get-append (terms_of table) (Apply e.op (operands (terms_of table) e.args) ∷ []) at.0
    (omega (arith, length-terms_of table)))

-- and the new one is its operation over the terms that its arguments had
pub term_at-pushed : (table : Table) (e : Entry) (at : TermId) → at.0 ≡ length table.nodes
    → term_at (table_with table e) at ≡ Apply e.op (operands (terms_of table) e.args)
term_at-pushed table e at h =
    ap (λ (ts : List Term). term_in ts at.0) (terms_of-push table e)
    ∙ ap (λ o. unwrap_or o (term_in [] 0))
    (slice_get-at_end (terms_of table) (Apply e.op (operands (terms_of table) e.args)) [] at.0
    (omega (arith, length-terms_of table)))

-- a table with a new node over its nodes, well-sorted, is a table
pub IsTable-push : (table : Table) → IsTable table → (e : Entry) (s : Sort)
    → All (λ (a : TermId). a.0 < length table.nodes) e.args
    → sort_of table.pointer (Apply e.op (operands (terms_of table) e.args)) ≡ Some s → ¬ (Contains table.nodes e)
    → length table.nodes < most_nodes → IsTable (table_with table e)
IsTable-push table is e s below sorted new room = record {
  wide = is.wide;
  narrow = is.narrow;
  few = omega (arith, room, length-append table.nodes (e ∷ []));
  earlier = λ k f h. ⊎_elim (λ w. is.earlier k f w.1)
      (λ w. subst (λ (f : Entry). All (λ (a : TermId). a.0 < k) f.args) w.1
      (subst (λ n. All (λ (a : TermId). a.0 < n) e.args) (sym w.0) below)) (push_cases table.nodes e k f h);
  well_sorted = λ k t h. ⊎_elim (λ w. is.well_sorted k t w.1)
      (λ w. subst (λ t. IsSome (sort_of table.pointer t)) w.1
      (some-is (sort_of table.pointer (Apply e.op (operands (terms_of table) e.args))) s sorted))
      (push_cases (terms_of table) (Apply e.op (operands (terms_of table) e.args)) k t
      (ap (λ (ts : List Term). slice_get ts k) (sym (terms_of-push table e)) ∙ h));
  distinct = λ j k f g h. ⊎_elim
      (λ v. ⊎_elim (λ w. is.distinct j k f v.1 w.1)
      (λ w. absurd (new (Contains-at table.nodes j e (v.1 ∙ ap Some (sym w.1))))) (push_cases table.nodes e k f h))
      (λ v. ⊎_elim (λ w. absurd (new (Contains-at table.nodes k e (w.1 ∙ ap Some (sym v.1))))) (λ w. v.0 ∙ sym w.0)
      (push_cases table.nodes e k f h))
      (push_cases table.nodes e j f g);
}
