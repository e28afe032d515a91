-- Which operations may stand over nodes, and what a table is once a node is made.
use Rattle.std.proofs.Common.{◌-◌, take, replicate, inr, OnOk, OnErr, ◌≡◌, ℕ, suc, ◌<◌, ◌≤◌, Bool, true, false, cond}
use Rattle.std.proofs.Common.{eqb, List, [], ◌∷◌, ◌++◌, length, slice_get, unwrap_or, option_and_then}
use Rattle.std.proofs.Common.{Option, None, Some, Result, Ok, Err, MatchOption, MatchResult, IfOk, All}
use Rattle.std.proofs.Common.{Contains, refl, sym, ap, ◌∙◌, subst, arith}
use Rattle.std.specs.List.{AllByRecursion}
use Rattle.std.proofs.lemmas.Bool.Decides.{nat_tests}
use Rattle.std.proofs.lemmas.List.Elements.{recursion_from_All}
use Rattle.std.proofs.Math.Seq.{take-append_seam}
use Rattle.std.proofs.lemmas.Option.{same_Some, slice_get-get_or}
use Rattle.bv_terms.specs.declared.op.Op.{Op}
use Rattle.bv_terms.specs.declared.op.MakeFault.{MakeFault}
use Rattle.bv_terms.specs.declared.op.MakeFault.TheVariants as fault
use Rattle.bv_terms.specs.declared.op.TermId.{TermId}
use Rattle.bv_terms.specs.declared.value.Sort.{Sort}
use Rattle.bv_terms.specs.Term.{Term, Operands, Apply, End, Then}
use Rattle.bv_terms.specs.Signature.{signature, arity, misfit, fault_of, refusal, result_sort}
use Rattle.bv_terms.specs.WellSorted.{op_sort, sort_unless, sort_of, sorts_of}
use Rattle.bv_terms.specs.Table.{Entry, Table, term_in, operands, terms_of, term_at, make_refusal, table_with, IsTable}
use Rattle.bv_terms.specs.Table.{Makes}
use Rattle.bv_terms.specs.declared.node.Node.{Node}
use Rattle.bv_terms.specs.declared.node.TheConstants.{MOST_ARGS}
use Rattle.bv_terms.specs.Node.{entry_of, node_of}
use Rattle.bv_terms.proofs.SignatureLemmas.{IsFitting-of, arity-at_most}
use Rattle.bv_terms.proofs.TermLemmas.{IsSorted-of, sorts_of-some}
use Rattle.bv_terms.proofs.TableLemmas.{length-terms_of, term_at-push, term_at-pushed}
use Rattle.list_lemmas.proofs.Lookups.{slice_get-at_end}
use Rattle.list_lemmas.proofs.Options.{the_some}

-- ---- short lists

-- ---- the sorts of operands

pub sorts_of-end : (p : ℕ) → sorts_of p End ≡ Some []
unfolding sort_of
sorts_of-end p = refl

pub sorts_of-then : (p : ℕ) (t : Term) (ts : Operands) (s : Sort) (ss : List Sort) → sort_of p t ≡ Some s
    → sorts_of p ts ≡ Some ss → sorts_of p (Then t ts) ≡ Some (s ∷ ss)
unfolding sort_of
sorts_of-then p t ts s ss e f =
    ap (option_and_then (λ s. option_and_then (λ ss. Some (s ∷ ss)) (sorts_of p ts))) e
    ∙ ap (option_and_then (λ ss. Some (s ∷ ss))) f

pub sort_of-apply : (p : ℕ) (o : Op) (ts : Operands) (ss : List Sort) → sorts_of p ts ≡ Some ss
    → sort_of p (Apply o ts) ≡ op_sort p o ss
unfolding sort_of
sort_of-apply p o ts ss e = ap (option_and_then (op_sort p o)) e

-- each node's term has a sort
pub node-sorted : (table : Table) → IsTable table → (k : ℕ) → k < length table.nodes
    → (s : Sort) × (sort_of table.pointer (term_in (terms_of table) k) ≡ Some s)
node-sorted table is_table k h =
    let within : k < length (terms_of table) = omega (arith, length-terms_of table) in
    let at = slice_get-get_or (terms_of table) k (term_in [] 0) within in
    let sorted = the_some _ (is_table.well_sorted k _ at) in
    (sorted.0, ap (λ o. sort_of table.pointer (unwrap_or o (term_in [] 0))) at ∙ sorted.1)

operands-sorted : (table : Table) → IsTable table → (args : List TermId)
    → AllByRecursion (λ (a : TermId). a.0 < length table.nodes) args
    → (ss : List Sort) × (sorts_of table.pointer (operands (terms_of table) args) ≡ Some ss) × (length ss ≡ length args)
operands-sorted table is_table [] h = ([], sorts_of-end table.pointer, refl)
operands-sorted table is_table (a ∷ args) h =
    let first = node-sorted table is_table a.0 h.0 in
    let rest = operands-sorted table is_table args h.1 in
    (first.0 ∷ rest.0, sorts_of-then table.pointer _ _ first.0 rest.0 first.1 rest.1, ap suc rest.2)

-- so nodes have sorts, one each
pub sorts_of-operands : (table : Table) → IsTable table → (args : List TermId)
    → All (λ (a : TermId). a.0 < length table.nodes) args
    → (ss : List Sort) × (sorts_of table.pointer (operands (terms_of table) args) ≡ Some ss) × (length ss ≡ length args)
sorts_of-operands table is_table args h =
    operands-sorted table is_table args (recursion_from_All (λ (a : TermId). a.0 < length table.nodes) args h)

-- ---- what is answered over sorts is answered over the nodes

fault_told : (q : Option MakeFault) (s : Sort) (r : Result Sort MakeFault) → MatchOption q (r ≡ Ok s) (λ f. r ≡ Err f)
    → MatchResult r (λ _. q ≡ None) (λ f. q ≡ Some f)
fault_told None s r h =
    subst (λ r. MatchResult r (λ _. ◌≡◌ {A = Option MakeFault} None None) (λ f. None ≡ Some f)) (sym h) refl
fault_told (Some g) s r h = subst (λ r. MatchResult r (λ _. Some g ≡ None) (λ f. Some g ≡ Some f)) (sym h) refl

sort_told : (q : Option MakeFault) (s : Sort) (r : Result Sort MakeFault) → MatchOption q (r ≡ Ok s) (λ f. r ≡ Err f)
    → IfOk r (λ t. sort_unless q s ≡ Some t)
sort_told None s r h = subst (λ r. IfOk r (λ t. Some s ≡ Some t)) (sym h) refl
sort_told (Some g) s r h = subst (λ r. IfOk r (λ t. None ≡ Some t)) (sym h) tt

pub fault-from_sorts : (table : Table) (p : ℕ) → p ≡ table.pointer → (o : Op) (args : List TermId) (ss : List Sort)
    (r : Result Sort MakeFault)
    → sorts_of table.pointer (operands (terms_of table) args) ≡ Some ss
    → MatchOption (refusal p o ss) (r ≡ Ok (result_sort (signature o).result ss)) (λ f. r ≡ Err f)
    → MatchResult r (λ _. make_refusal table o args ≡ None) (λ f. make_refusal table o args ≡ Some f)
fault-from_sorts table p same o args ss r e told =
    let h = subst (λ p. MatchOption (refusal p o ss) (r ≡ Ok (result_sort (signature o).result ss)) (λ f. r ≡ Err f))
    same told
    in
    subst (λ q. MatchResult r (λ _. q ≡ None) (λ f. q ≡ Some f))
    (sym (ap (option_and_then (refusal table.pointer o)) e))
    (fault_told (refusal table.pointer o ss) (result_sort (signature o).result ss) r h)

pub sort-from_sorts : (table : Table) (p : ℕ) → p ≡ table.pointer → (o : Op) (args : List TermId) (ss : List Sort)
    (r : Result Sort MakeFault)
    → sorts_of table.pointer (operands (terms_of table) args) ≡ Some ss
    → MatchOption (refusal p o ss) (r ≡ Ok (result_sort (signature o).result ss)) (λ f. r ≡ Err f)
    → IfOk r (λ s. sort_of table.pointer (Apply o (operands (terms_of table) args)) ≡ Some s)
sort-from_sorts table p same o args ss r e told =
    let h = subst (λ p. MatchOption (refusal p o ss) (r ≡ Ok (result_sort (signature o).result ss)) (λ f. r ≡ Err f))
    same told
    in
    subst (λ q. IfOk r (λ s. q ≡ Some s)) (sym (sort_of-apply table.pointer o (operands (terms_of table) args) ss e))
    (sort_told (refusal table.pointer o ss) (result_sort (signature o).result ss) r h)

arity_fault : (p : ℕ) (o : Op) (ss : List Sort) (b : Bool) → b ≡ false
    → cond b (fault_of p (signature o) ss (misfit p (signature o).index (signature o).slots ss)) (Some fault.Arity)
    ≡ Some fault.Arity
arity_fault p o ss true h = cc
arity_fault p o ss false h = refl

not_equal : (m n : ℕ) → n < m → eqb m n ≡ false
not_equal m n h = grind (arith, nat_tests)

-- no operation has more arguments
pub refused_past_arity : (table : Table) → IsTable table → (o : Op) (args : List TermId)
    → All (λ (a : TermId). a.0 < length table.nodes) args → 4 ≤ length args
    → make_refusal table o args ≡ Some fault.Arity
refused_past_arity table is_table o args h long =
    let sorts = sorts_of-operands table is_table args h in
    ap (option_and_then (refusal table.pointer o)) sorts.1
    ∙ arity_fault table.pointer o sorts.0 _
    (not_equal (length sorts.0) (arity o) (omega (arith, sorts.2, arity-at_most o)))

-- ---- the arguments of an operation that stands over nodes

sorts_of-length : (p : ℕ) (ts : List Term) (args : List TermId) (ss : List Sort)
    → sorts_of p (operands ts args) ≡ Some ss
    → length ss ≡ length args
sorts_of-length p ts [] ss h = ap length (sym (same_Some [] ss (sym (sorts_of-end p) ∙ h)))
sorts_of-length p ts (a ∷ args) ss h =
    let parts = sorts_of-some p (term_in ts a.0) (operands ts args) ss h in
    ap length parts.2 ∙ ap suc (sorts_of-length p ts args parts.1 parts.4)

-- there are as many as the operation has
pub arity-of_args : (table : Table) (o : Op) (args : List TermId) (s : Sort)
    → sort_of table.pointer (Apply o (operands (terms_of table) args)) ≡ Some s → length args ≡ arity o
arity-of_args table o args s h =
    let sorted = IsSorted-of table.pointer o (operands (terms_of table) args) s h in
    sym (sorts_of-length table.pointer (terms_of table) args sorted.sorts sorted.of_args)
    ∙ (IsFitting-of table.pointer o sorted.sorts sorted.fits).arity

-- so keeping a node loses nothing
pub entry_of-node_of : (e : Entry) → length e.args ≡ arity e.op → entry_of (node_of e) ≡ e
entry_of-node_of e h =
    let n = MOST_ARGS - length e.args in
    ap (λ args. record { op = e.op; args = args }) (ap (λ k. take k (e.args ++ replicate n (record { 0 = 0 }))) (sym h)
    ∙ take-append_seam e.args (replicate n (record { 0 = 0 })))

-- ---- what adding a node makes

abbrev Added : Table → Entry → Table → Result TermId MakeFault → Type 0
Added old e new r = IfOk r (λ id. id.0 ≡ length old.nodes) × OnOk r (new ≡ table_with old e) × OnErr r (new ≡ old)

pub made-added : (old : Table) (e : Entry) (new : Table) (r : Result TermId MakeFault) → Added old e new r
    → ¬ (Contains old.nodes e) → IfOk r (Makes old e new)
made-added old e new (Err f) h absent = tt
made-added old e new (Ok id) h absent = record {
  stands = ap (λ (table : Table). slice_get table.nodes id.0) h.1 ∙ slice_get-at_end old.nodes e [] id.0 h.0;
  nodes = inr (absent, h.1);
}

pub kept-added : (old : Table) (e : Entry) (new : Table) (r : Result TermId MakeFault) → Added old e new r
    → (at : TermId) → at.0 < length old.nodes → term_at new at ≡ term_at old at
kept-added old e new (Err f) h at within = ap (λ (table : Table). term_at table at) h.2
kept-added old e new (Ok id) h at within = ap (λ (table : Table). term_at table at) h.1 ∙ term_at-push old e at within

pub term-added : (old : Table) (e : Entry) (new : Table) (r : Result TermId MakeFault) → Added old e new r
    → IfOk r (λ id. term_at new id ≡ Apply e.op (operands (terms_of old) e.args))
term-added old e new (Err f) h = tt
term-added old e new (Ok id) h = ap (λ (table : Table). term_at table id) h.1 ∙ term_at-pushed old e id h.0

-- a node that was made of an entry over nodes is seen as that entry again, and is padded
pub seen-as : (table : Table) (e : Entry) (s : Sort) (n : Node)
    → sort_of table.pointer (Apply e.op (operands (terms_of table) e.args)) ≡ Some s → n ≡ node_of e → entry_of n ≡ e
seen-as table e s n sorted made = ap entry_of made ∙ entry_of-node_of e (arity-of_args table e.op e.args s sorted)

pub padded-as : (table : Table) (e : Entry) (s : Sort) (n : Node)
    → sort_of table.pointer (Apply e.op (operands (terms_of table) e.args)) ≡ Some s → n ≡ node_of e
    → n ≡ node_of (entry_of n)
padded-as table e s n sorted made = made ∙ ap node_of (sym (seen-as table e s n sorted made))

-- an operation over nodes is well-sorted exactly where it is not refused
pub sort_of-made : (table : Table) → IsTable table → (o : Op) (args : List TermId)
    → All (λ (a : TermId). a.0 < length table.nodes) args → make_refusal table o args ≡ None
    → (s : Sort) × (sort_of table.pointer (Apply o (operands (terms_of table) args)) ≡ Some s)
sort_of-made table is_table o args below h =
    let sorts = sorts_of-operands table is_table args below in
    let fits = sym (ap (option_and_then (refusal table.pointer o)) sorts.1) ∙ h in (
      result_sort (signature o).result sorts.0,
      sort_of-apply table.pointer o (operands (terms_of table) args) sorts.0 sorts.1
          ∙ ap (λ q. sort_unless q (result_sort (signature o).result sorts.0)) fits,
    )

pub sort_of-refused : (table : Table) → IsTable table → (o : Op) (args : List TermId)
    → All (λ (a : TermId). a.0 < length table.nodes) args → (f : MakeFault) → make_refusal table o args ≡ Some f
    → sort_of table.pointer (Apply o (operands (terms_of table) args)) ≡ None
sort_of-refused table is_table o args below f h =
    let sorts = sorts_of-operands table is_table args below in
    let fault = sym (ap (option_and_then (refusal table.pointer o)) sorts.1) ∙ h in
    sort_of-apply table.pointer o (operands (terms_of table) args) sorts.0 sorts.1
    ∙ ap (λ q. sort_unless q (result_sort (signature o).result sorts.0)) fault
