-- What the kept nodes say of the table: where a node stands, the sorts of its terms, and what adding one leaves.
use Rattle.std.proofs.Common.{take, ◌≡◌, ℕ, ◌<◌, ◌≤◌, Bool, true, false, cond, nat_lt, List, [], ◌∷◌, ◌++◌, length, map}
use Rattle.std.proofs.Common.{slice_get, get_or, unwrap_or, option_map, position, Option, None, Some, All, Contains}
use Rattle.std.proofs.Common.{refl, sym, ap, ◌∙◌, subst, arith}
use Rattle.std.specs.List.{position_or_len}
use Rattle.std.specs.Map.{lookup}
use Rattle.std.proofs.lemmas.Bool.{false≢true}
use Rattle.std.proofs.lemmas.List.{map-append}
use Rattle.std.proofs.lemmas.List.Quantifiers.{position-Some}
use Rattle.std.proofs.lemmas.List.Sums.{fails_before_first}
use Rattle.std.proofs.lemmas.Map.Entries.{place_from_lookup}
use Rattle.std.proofs.lemmas.Option.{same_Some, slice_get-map, slice_get-get_or, slice_get_within}
use Rattle.std.proofs.lemmas.Option.{get_or_from_slice_get}
use Rattle.indexmap.specs.IndexMap.{IndexMap, insert_entry}
use Rattle.indexmap.proofs.CallerLemmas.{insert_entry-new}
use Rattle.bv_terms.specs.declared.op.TermId.{TermId}
use Rattle.bv_terms.specs.declared.node.Node.{Node}
use Rattle.bv_terms.specs.declared.value.Sort.{Sort}
use Rattle.bv_terms.specs.Term.{Term, Apply}
use Rattle.bv_terms.specs.Signature.{arity}
use Rattle.bv_terms.specs.WellSorted.{sort_of}
use Rattle.bv_terms.specs.Table.{Entry, Table, term_in, operands, terms_of, table_with, IsTable, most_nodes}
use Rattle.bv_terms.specs.Node.{entry_of, node_of, table_of, IsTermTable}
use Rattle.bv_terms.proofs.NodeLemmas.{node_eq, node_eq-sound, node_eq-refl}
use Rattle.bv_terms.proofs.TableLemmas.{terms_of-push, IsTable-push}
use Rattle.list_lemmas.proofs.Lookups.{Contains-from_slice_get, Contains-slice_get}
use Rattle.list_lemmas.proofs.Numbers.{not_less}
use Rattle.list_lemmas.proofs.Options.{option_map-some}

-- ---- sorts

-- where the mapped element is known, the element is
sort_at : (p : ℕ) (o : Option Term) (s : Sort) → Some (Some s) ≡ option_map (sort_of p) o
    → sort_of p (unwrap_or o (term_in [] 0)) ≡ Some s
sort_at p None s h = cc
sort_at p (Some t) s h = sym (same_Some (Some s) (sort_of p t) h)

-- a kept sort is that of the node's term
pub kept-sort : (pointer : ℕ) (kept : List (Node × Sort)) → IsTermTable pointer kept → (k : ℕ) (e : Node × Sort)
    → slice_get kept k ≡ Some e
    → sort_of pointer (term_in (terms_of (table_of pointer kept)) k) ≡ Some e.1
kept-sort pointer kept is k e h =
    sort_at pointer (slice_get (terms_of (table_of pointer kept)) k) e.1
    (sym (ap (option_map (λ (e : Node × Sort). Some e.1)) h)
    ∙ sym (slice_get-map (λ (e : Node × Sort). Some e.1) kept k)
    ∙ ap (λ ss. slice_get ss k) is.sorts ∙ slice_get-map (sort_of pointer) (terms_of (table_of pointer kept)) k)

-- ---- where a node stands

pub kept-entry : (pointer : ℕ) (kept : List (Node × Sort)) (k : ℕ) (e : Node × Sort) → slice_get kept k ≡ Some e
    → slice_get (table_of pointer kept).nodes k ≡ Some (entry_of e.0)
kept-entry pointer kept k e h = slice_get-map (λ (e : Node × Sort). entry_of e.0) kept k
    ∙ ap (option_map (λ (e : Node × Sort). entry_of e.0)) h

abbrev keys : List (Node × Sort) → List Node
keys kept = map (λ e. e.0) kept

nodes-from_key : (pointer : ℕ) (kept : List (Node × Sort)) (k : ℕ) (n : Node) → slice_get (keys kept) k ≡ Some n
    → slice_get (table_of pointer kept).nodes k ≡ Some (entry_of n)
nodes-from_key pointer kept k n h =
    let at = option_map-some (λ (e : Node × Sort). e.0) (slice_get kept k) n
    (sym (slice_get-map (λ (e : Node × Sort). e.0) kept k) ∙ h) in
    slice_get-map (λ (e : Node × Sort). entry_of e.0) kept k ∙ ap (option_map (λ (e : Node × Sort). entry_of e.0)) at.1
    ∙ ap (λ n. Some (entry_of n)) at.2

key-from_node : (pointer : ℕ) (kept : List (Node × Sort)) → IsTermTable pointer kept → (k : ℕ) (e : Entry)
    → slice_get (table_of pointer kept).nodes k ≡ Some e → slice_get (keys kept) k ≡ Some (node_of e)
key-from_node pointer kept is k e h =
    ap (λ ns. slice_get ns k) is.padded ∙ slice_get-map node_of (table_of pointer kept).nodes k
    ∙ ap (option_map node_of) h

-- a node that is found stands there
pub found-node : (pointer : ℕ) (kept : List (Node × Sort)) (n : Node) (k : ℕ)
    → position (node_eq n) (keys kept) ≡ Some k → slice_get (table_of pointer kept).nodes k ≡ Some (entry_of n)
found-node pointer kept n k h =
    let found = position-Some (node_eq n) (keys kept) k n h in
    nodes-from_key pointer kept k n (slice_get-get_or (keys kept) k n found.0
    ∙ ap Some (sym (node_eq-sound n (get_or (keys kept) k n) found.1)))

past_end : (b : Bool) (k : ℕ) → cond b (Some k) None ≡ None → b ≡ false
past_end true k h = cc
past_end false k h = refl

-- and one that is not found stands nowhere
pub missing-node : (pointer : ℕ) (kept : List (Node × Sort)) → IsTermTable pointer kept → (n : Node)
    → n ≡ node_of (entry_of n) → position (node_eq n) (keys kept) ≡ None
    → ¬ (Contains (table_of pointer kept).nodes (entry_of n))
missing-node pointer kept is n padded h = λ w.
    let at = Contains-slice_get (table_of pointer kept).nodes (entry_of n) w in
    let key = key-from_node pointer kept is at.0 (entry_of n) at.1 ∙ ap Some (sym padded) in
    let first = position_or_len (node_eq n) (keys kept) in
    let none : length (keys kept) ≤ first =
    not_less first (length (keys kept)) (past_end (nat_lt first (length (keys kept))) first h) in
    let within : at.0 < length (keys kept) = slice_get_within (keys kept) at.0 n key in
    let fails = fails_before_first (node_eq n) (keys kept) at.0 n (omega arith) in
    absurd (false≢true (sym fails ∙ ap (node_eq n) (get_or_from_slice_get (keys kept) at.0 n n key) ∙ node_eq-refl n))

-- a look-up of a node that stands nowhere finds nothing
pub lookup-none : (pointer : ℕ) (kept : List (Node × Sort)) (n : Node)
    → ¬ (Contains (table_of pointer kept).nodes (entry_of n)) → lookup (node_eq n) kept ≡ None
lookup-none pointer kept n new = by (lookup (node_eq n) kept) refl
  where
    by : (o : Option Sort) → lookup (node_eq n) kept ≡ o → o ≡ None
    by None e = refl
    by (Some s) e =
        let place = place_from_lookup (node_eq n) kept s e in
        let same = sym (node_eq-sound n place.1 place.3) in
        absurd (new (Contains-from_slice_get (table_of pointer kept).nodes place.0 (entry_of n)
        (slice_get-map (λ (e : Node × Sort). entry_of e.0) kept place.0
        ∙ ap (option_map (λ (e : Node × Sort). entry_of e.0)) place.2 ∙ ap (λ n. Some (entry_of n)) same)))

-- ---- a node added at the end

table_of-push : (pointer : ℕ) (kept : List (Node × Sort)) (n : Node) (s : Sort)
    → table_of pointer (kept ++ (n, s) ∷ []) ≡ table_with (table_of pointer kept) (entry_of n)
table_of-push pointer kept n s =
    ap (λ nodes. record { pointer = pointer; nodes = nodes })
    (map-append (λ (e : Node × Sort). entry_of e.0) kept ((n, s) ∷ []))

-- a kept node with its sort may be added to a table
pub record IsAddable (n : Node) (s : Sort) (table : Table) : Type 0 where
  pub padded : n ≡ node_of (entry_of n)
  pub earlier : All (λ (a : TermId). a.0 < length table.nodes) (entry_of n).args
  pub sorted : sort_of table.pointer (Apply n.op (operands (terms_of table) (entry_of n).args)) ≡ Some s
  pub new : ¬ (Contains table.nodes (entry_of n))
  pub room : length table.nodes < most_nodes

IsTermTable-push : (pointer : ℕ) (kept : List (Node × Sort)) → IsTermTable pointer kept → (n : Node) (s : Sort)
    → IsAddable n s (table_of pointer kept) → IsTermTable pointer (kept ++ (n, s) ∷ [])
IsTermTable-push pointer kept is n s may =
    let table = table_of pointer kept in
    let e = entry_of n in
    let pushed = table_of-push pointer kept n s in
    record {
      table = subst IsTable (sym pushed) (IsTable-push table is.table e s may.earlier may.sorted may.new may.room);
      padded = map-append (λ (e : Node × Sort). e.0) kept ((n, s) ∷ []) ∙ ap (λ ns. ns ++ n ∷ []) is.padded
          ∙ ap (λ m. map node_of table.nodes ++ m ∷ []) may.padded
          ∙ sym (map-append node_of table.nodes (e ∷ []))
          ∙ ap (λ (table : Table). map node_of table.nodes) (sym pushed);
      sorts = map-append (λ (e : Node × Sort). Some e.1) kept ((n, s) ∷ []) ∙ ap (λ ss. ss ++ Some s ∷ []) is.sorts
          ∙ ap (λ o. map (sort_of pointer) (terms_of table) ++ o ∷ []) (sym may.sorted)
          ∙ sym (map-append (sort_of pointer) (terms_of table) (Apply e.op (operands (terms_of table) e.args) ∷ []))
          ∙ ap (map (sort_of pointer)) (sym (terms_of-push table e))
          ∙ ap (λ (table : Table). map (sort_of pointer) (terms_of table)) (sym pushed);
    }

-- once it is added, the table has it at its end, and is kept
pub kept-added : {S : Type 0} (pointer : ℕ) (m : IndexMap Node Sort S) → IsTermTable pointer m.entries
    → (n : Node) (s : Sort) (table : Table) → table_of pointer m.entries ≡ table → IsAddable n s table
    → (after : List (Node × Sort)) → after ≡ insert_entry node_eq m.entries n s
    → IsTermTable pointer after × (table_of pointer after ≡ table_with table (entry_of n))
kept-added pointer m is n s table same may after e =
    let may_here = subst (IsAddable n s) (sym same) may in
    let end = e ∙ insert_entry-new node_eq m n s (lookup-none pointer m.entries n may_here.new) in (
      subst (IsTermTable pointer) (sym end) (IsTermTable-push pointer m.entries is n s may_here),
      ap (table_of pointer) end ∙ table_of-push pointer m.entries n s
          ∙ ap (λ table. table_with table (entry_of n)) same,
    )

-- a kept node with these arguments stands in the table as an entry
pub kept-stands : (pointer : ℕ) (kept : List (Node × Sort)) (table : Table) → table_of pointer kept ≡ table
    → (k : ℕ) (n : Node) (s : Sort) (args : List TermId)
    → slice_get kept k ≡ Some (n, s) → args ≡ take (arity n.op) n.args
    → slice_get table.nodes k ≡ Some (record { op = n.op; args = args })
kept-stands pointer kept table same k n s args at are =
    ap (λ (table : Table). slice_get table.nodes k) (sym same) ∙ kept-entry pointer kept k (n, s) at
    ∙ ap (λ args. Some (record { op = n.op; args = args })) (sym are)
