-- The chain of memories, node by node, and what each of its tests says of an operation over nodes.
use Rattle.std.proofs.Common.{◌≡◌, ℕ, ◌<◌, ◌≤◌, Bool, true, false, cond, List, [], ◌∷◌, ◌++◌, length, get_or}
use Rattle.std.proofs.Common.{filter, drop, refl, sym, ap, ◌∙◌, ◌+◌, add-one, arith, append_assoc}
use Rattle.std.proofs.Math.Seq.{drop-cons}
use Rattle.bv_terms.specs.declared.value.Sort.{Sort}
use Rattle.std.specs.Prelude.{◌&&◌}
use Rattle.std.specs.List.{flat_map, list_all, list_any}
use Rattle.bv_terms.specs.declared.op.Op.TheVariants as op
use Rattle.bv_terms.specs.declared.op.Op.{Op}
use Rattle.bv_terms.specs.declared.op.TermId.{TermId}
use Rattle.bv_terms.specs.Term.{Term, Apply}
use Rattle.bv_terms.specs.Table.{Table, IsTable, term_at, term_in, operands}
use Rattle.bv_terms.specs.Subterm.{AreSubterms}
use Rattle.isel_spec.specs.Memory.{is_memory, chain, chains, marks, is_marked, is_on, subterms_of}
use Rattle.isel_spec.specs.Memory.{has_one_memory, has_memory_shape}
use Rattle.list_lemmas.proofs.Lists.{append-nothing}
use Rattle.term_text.specs.Build.{AreNodes, terms_at}
use Rattle.spec_reader.proofs.OnceLemmas.{all-same}
use Rattle.spec_reader.proofs.SubtermNodes.{subterm-members}

-- ---- the chain

pub chain-end : (t : Term) (o : Op) (ts : List Term) (args : List TermId) → t ≡ Apply o (operands ts args)
    → length args < 1 → chain t ≡ t ∷ []
unfolding chain
chain-end t o ts [] e h = ap chain e ∙ ap (λ u. u ∷ []) (sym e)
chain-end t o ts (a ∷ args) e h = absurd (omega arith)

pub chain-more : (t : Term) (o : Op) (ts : List Term) (args : List TermId) (d : TermId)
    → t ≡ Apply o (operands ts args) → 1 ≤ length args → chain t ≡ t ∷ chain (term_in ts (get_or args 0 d).0)
unfolding chain
chain-more t o ts [] d e h = absurd (omega arith)
chain-more t o ts (a ∷ args) d e h = ap chain e ∙ ap (λ u. u ∷ chain (term_in ts a.0)) (sym e)

-- the chains of more results, those of the first in front
pub chains-more : (t : Term) (ts : List Term) → chains (t ∷ ts) ≡ chains (t ∷ []) ++ chains ts
chains-more t ts = by_test (is_memory t)
  where
    by_test : (b : Bool) → flat_map chain (cond b (t ∷ filter is_memory ts) (filter is_memory ts))
        ≡ flat_map chain (cond b (t ∷ []) []) ++ flat_map chain (filter is_memory ts)
    by_test true = ap (λ us. us ++ flat_map chain (filter is_memory ts)) (sym (append-nothing (chain t)))
    by_test false = refl

pub chains-next : (table : Table) (old new results : List TermId) (i : ℕ) (d : TermId) (all : List Term)
    → i < length results
    → terms_at table new ≡ terms_at table old ++ chains (term_at table (get_or results i d) ∷ [])
    → terms_at table old ++ chains (terms_at table (drop i results)) ≡ all
    → terms_at table new ++ chains (terms_at table (drop (i + 1) results)) ≡ all
chains-next table old new results i d all h e so_far =
    let t = term_at table (get_or results i d) in
    let rest = terms_at table (drop (i + 1) results) in
    let dropped : drop i results ≡ get_or results i d ∷ drop (i + 1) results =
    rw (drop-cons results i d, ← add-one) refl in
    ap (λ us. us ++ chains rest) e ∙ append_assoc (terms_at table old) (chains (t ∷ [])) (chains rest)
    ∙ ap (λ us. terms_at table old ++ us) (sym (chains-more t rest))
    ∙ ap (λ xs. terms_at table old ++ chains (terms_at table xs)) (sym dropped) ∙ so_far

-- ---- marks

pub marks-others : (k : ℕ) (ts : List Term) (args : List TermId) (n : ℕ) (q : Term) → (length args ≡ 2 → ⊥)
    → false ≡ marks n q (Apply (op.MMark k) (operands ts args))
marks-others k ts [] n q l = refl
marks-others k ts (a ∷ []) n q l = refl
marks-others k ts (a ∷ b ∷ []) n q l = absurd (l (omega arith))
marks-others k ts (a ∷ b ∷ c ∷ args) n q l = refl

pub is_marked-others : (k : ℕ) (ts : List Term) (args : List TermId) (ms : List Term) → (length args ≡ 2 → ⊥)
    → true ≡ is_marked ms (Apply (op.MLoad k) (operands ts args))
is_marked-others k ts [] ms l = refl
is_marked-others k ts (a ∷ []) ms l = refl
is_marked-others k ts (a ∷ b ∷ []) ms l = absurd (l (omega arith))
is_marked-others k ts (a ∷ b ∷ c ∷ args) ms l = refl

pub is_marked-two : (k : ℕ) (ts : List Term) (args : List TermId) (ms : List Term) (d : TermId) → length args ≡ 2
    → is_marked ms (Apply (op.MLoad k) (operands ts args)) ≡ list_any (marks k (term_in ts (get_or args 1 d).0)) ms
is_marked-two k ts [] ms d l = absurd (omega arith)
is_marked-two k ts (a ∷ []) ms d l = absurd (omega arith)
is_marked-two k ts (a ∷ b ∷ []) ms d l = refl
is_marked-two k ts (a ∷ b ∷ c ∷ args) ms d l = absurd (omega arith)

-- ---- all nodes of the subterms

-- what holds of all nodes holds of all terms in the results
pub all-nodes : (table : Table) → IsTable table → (results nodes : List TermId) → AreNodes table results
    → AreSubterms table results nodes → (p : Term → Bool)
    → list_all p (subterms_of (terms_at table results)) ≡ list_all p (terms_at table nodes)
all-nodes table is results nodes within are p =
    all-same p (subterms_of (terms_at table results)) (terms_at table nodes)
    (subterm-members table is results nodes within are)

-- the rule on the chain is one on the nodes
pub shape-nodes : (table : Table) → IsTable table → (results nodes : List TermId) → AreNodes table results
    → AreSubterms table results nodes → (args : List Sort) (memories : List Term)
    → memories ≡ chains (terms_at table results)
    → has_memory_shape args (terms_at table results)
    ≡ (has_one_memory args (terms_at table results) && list_all (is_on memories) (terms_at table nodes)
    && list_all (is_marked memories) (terms_at table nodes))
shape-nodes table is results nodes within are args memories e =
    let terms = terms_at table results in
    let one = has_one_memory args terms in
    ap (λ b. one && b && list_all (is_marked (chains terms)) (subterms_of terms))
    (all-nodes table is results nodes within are (is_on (chains terms)))
    ∙ ap (λ b. one && list_all (is_on (chains terms)) (terms_at table nodes) && b)
    (all-nodes table is results nodes within are (is_marked (chains terms)))
    ∙ ap (λ ms. one && list_all (is_on ms) (terms_at table nodes) && list_all (is_marked ms) (terms_at table nodes))
    (sym e)
