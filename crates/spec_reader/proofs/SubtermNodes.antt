-- The nodes of the subterms of results, as their terms: which terms they are, how many, and that each is one node.
use Rattle.std.proofs.Common.{◌≡◌, ℕ, ◌<◌, zero, suc, true, List, length, sym, ap}
use Rattle.std.proofs.Common.{◌∙◌, subst, arith, ⊎_elim, nat_eq}
use Rattle.std.proofs.lemmas.Bool.Decides.{Decides-eqb}
use Rattle.std.proofs.lemmas.List.{length-map}
use Rattle.std.proofs.lemmas.List.Elements.{All-contains}
use Rattle.bv_terms.specs.declared.op.TermId.{TermId}
use Rattle.bv_terms.specs.Term.{Term, Apply}
use Rattle.bv_terms.specs.Table.{Table, IsTable, term_at, term_in, terms_of, operands}
use Rattle.bv_terms.specs.Subterm.{IsSubterm, AreSubterms}
use Rattle.bv_terms.proofs.TableLemmas.{term_at-node}
use Rattle.bv_terms.proofs.SubtermLemmas.{entry-at, among-argument, term_at-one, AreSubterms-within}
use Rattle.isel_spec.specs.Memory.{same_term, subterms, subterms_of, subterm_count}
use Rattle.list_lemmas.proofs.Bools.{same_test}
use Rattle.list_lemmas.proofs.Members.{In, In-map, In_of_map, In-flat_map, In_of_flat_map, In-from_Contains}
use Rattle.list_lemmas.proofs.Members.{Contains-from_In}
use Rattle.list_lemmas.proofs.Orders.{IsOrdered-map, IsOrdered-within, ordered-from_AllPairs}
use Rattle.term_text.specs.Build.{AreNodes, terms_at}
use Rattle.spec_reader.proofs.OnceLemmas.{SameMembers, Apart, once-length}
use Rattle.spec_reader.proofs.TermTests.{same_term-tells, subterm-stands, stands-subterm}

-- two nodes are one where their terms are
pub same-nodes : (table : Table) → IsTable table → (a b : TermId) → a.0 < length table.nodes → b.0 < length table.nodes
    → nat_eq a.0 b.0 ≡ same_term (term_at table a) (term_at table b)
same-nodes table is a b l m =
    same_test (nat_eq a.0 b.0) (same_term (term_at table a) (term_at table b))
    (λ h. subst (λ n. same_term (term_at table a) (term_in (terms_of table) n) ≡ true) ((Decides-eqb a.0 b.0).0 h)
    (same_term-tells.itself (term_at table a)))
    (λ h. (Decides-eqb a.0 b.0).1
    (ap (λ (t : TermId). t.0) (term_at-one table is a b l m
    (same_term-tells.one (term_at table a) (term_at table b) h))))

-- what stands in a node's term is the term of a node
pub stands-node : (table : Table) → IsTable table → (n : ℕ) (a : TermId) → a.0 < n → a.0 < length table.nodes
    → (t : Term) → IsSubterm t (term_at table a) → (s : TermId) × (s.0 < length table.nodes) × (term_at table s ≡ t)
unfolding IsSubterm
stands-node table is zero a h l t stands = absurd (omega (arith, h))
stands-node table is (suc n) a h l t stands =
    let e = entry-at table a.0 l in
    let node = term_at-node table is a e.0 e.1 in
    let opened : IsSubterm t (Apply e.0.op (operands (terms_of table) e.0.args)) = subst (IsSubterm t) node stands in
    ⊎_elim (λ same. (a, l, node ∙ sym same))
    (λ among.
    let arg = among-argument (terms_of table) e.0.args t among in
    let below = All-contains (λ (b : TermId). b.0 < a.0) e.0.args arg.0 (is.earlier a.0 e.0 e.1) arg.1 in
    stands-node table is n arg.0 (omega (arith, below, h)) (omega (arith, below, l)) t arg.2) opened

-- the terms of the nodes are the results' subterms
pub subterm-members : (table : Table) → IsTable table → (results nodes : List TermId) → AreNodes table results
    → AreSubterms table results nodes → SameMembers (subterms_of (terms_at table results)) (terms_at table nodes)
subterm-members table is results nodes within are = record {
  there = λ t h.
      let r = In_of_flat_map subterms (terms_at table results) t h in
      let a = In_of_map (term_at table) results r.0 r.1 in
      let c = Contains-from_In results a.0 a.1 in
      let l = All-contains (λ (at : TermId). at.0 < length table.nodes) results a.0 within c in
      let stands : IsSubterm t (term_at table a.0) = subst (IsSubterm t) (sym a.2) (subterm-stands r.0 t r.2) in
      let s = stands-node table is (suc a.0.0) a.0 (omega arith) l t stands in
      let there = (are.exact s.0).1 (s.1, (a.0, c, subst (λ u. IsSubterm u (term_at table a.0)) (sym s.2) stands)) in
      subst (In (terms_at table nodes)) s.2 (In-map (term_at table) nodes s.0 (In-from_Contains nodes s.0 there));
  back = λ t h.
      let s = In_of_map (term_at table) nodes t h in
      let below = (are.exact s.0).0 (Contains-from_In nodes s.0 s.1) in
      let r = below.1.0 in
      In-flat_map subterms (terms_at table results) (term_at table r) t
      (In-map (term_at table) results r (In-from_Contains results r below.1.1))
      (stands-subterm (term_at table r) t (subst (λ u. IsSubterm u (term_at table r)) s.2 below.1.2));
}

-- and no term stands twice among them
pub terms-apart : (table : Table) → IsTable table → (results nodes : List TermId) → AreSubterms table results nodes
    → Apart (terms_at table nodes)
terms-apart table is results nodes are =
    let Differ : Term → Term → Type 0 = λ t u. t ≡ u → ⊥ in
    let Before : TermId → TermId → Type 0 = λ a b. a.0 < b.0 in
    let within = AreSubterms-within table results nodes are in
    let bound = λ (a : TermId) (i : In nodes a).
    All-contains (λ (at : TermId). at.0 < length table.nodes) nodes a within (Contains-from_In nodes a i) in
    IsOrdered-map (λ (a b : TermId). Differ (term_at table a) (term_at table b)) Differ (term_at table) (λ a b d. d)
    nodes (IsOrdered-within Before (λ (a b : TermId). Differ (term_at table a) (term_at table b)) nodes
    (λ a b i j less e.
    let one = ap (λ (t : TermId). t.0) (term_at-one table is a b (bound a i) (bound b j) e) in
    absurd (omega (arith, less, one)))
    (ordered-from_AllPairs Before nodes are.rising))

-- so they are as many as the different subterms
pub subterm_count-nodes : (table : Table) → IsTable table → (results nodes : List TermId) → AreNodes table results
    → AreSubterms table results nodes → subterm_count (terms_at table results) ≡ length nodes
subterm_count-nodes table is results nodes within are =
    once-length same_term same_term-tells (subterms_of (terms_at table results)) (terms_at table nodes)
    (subterm-members table is results nodes within are) (terms-apart table is results nodes are)
    ∙ length-map nodes (term_at table)
