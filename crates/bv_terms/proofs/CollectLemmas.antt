-- How the nodes of subterms are found: the greatest of those that are pending is taken, and its arguments are put in.
use Rattle.std.proofs.Common.{◌≡◌, ℕ, ◌<◌, ⊎_elim, List, [], ◌∷◌, ◌++◌, length, reverse, slice_get, false, true, Some}
use Rattle.std.proofs.Common.{All, Contains, refl, sym, ap, subst, arith}
use Rattle.std.specs.Prelude.{AllPairs}
use Rattle.std.specs.BTreeSet.{insert_key}
use Rattle.std.specs.Ordering.{nat_cmp, match_ordering}
use Rattle.std.specs.declared.cmp.Ordering.{Ordering}
use Rattle.std.specs.declared.cmp.Ordering.TheVariants.{Less, Equal, Greater}
use Rattle.std.proofs.lemmas.Bool.{false≢true}
use Rattle.std.proofs.lemmas.Cmp.{ranked}
use Rattle.std.proofs.lemmas.List.{reverse-append}
use Rattle.std.proofs.lemmas.List.Kept.{AllPairs-cons}
use Rattle.std.proofs.lemmas.List.Elements.{All-nil, All-cons, All-head, All-tail, All-weaker, All-contains}
use Rattle.std.proofs.lemmas.List.Elements.{All-contains_itself, Contains-append_left, Contains-append_right}
use Rattle.std.proofs.lemmas.List.Elements.{Contains-append_cases, Contains-push_cases, Contains-push}
use Rattle.bv_terms.specs.declared.op.TermId.{TermId}
use Rattle.bv_terms.specs.Table.{Entry, Table, term_at, IsTable}
use Rattle.bv_terms.specs.Subterm.{IsSubtermNode, AreSubterms, IsTopological, keys_with}
use Rattle.bv_terms.proofs.SubtermLemmas.{IsSubterm-itself}
use Rattle.bv_terms.proofs.SubtermLemmas.{IsSubterm-through, argument-subterm, IsClosed, AreSubterms-of}
use Rattle.bv_terms.proofs.SubtermLemmas.{IsTopological-of}
use Rattle.list_lemmas.proofs.Lookups.{Contains-cases, Contains-first, Contains-later}

abbrev id_cmp : TermId → TermId → Ordering
id_cmp a b = nat_cmp a.0 b.0

id_cmp-exact : (a b : TermId) → id_cmp a b ≡ Equal → a ≡ b
id_cmp-exact a b e = ap (λ (m : ℕ). let id : TermId = record { 0 = m } in id) (by (id_cmp a b) refl e)
  where
    by : (o : Ordering) → o ≡ id_cmp a b → o ≡ Equal → a.0 ≡ b.0
    by Less h e = cc
    by Equal h e = ranked a.0 b.0 Equal h
    by Greater h e = cc

-- ---- a key put into a set

Contains-insert_key : (ks : List TermId) (k q : TermId) → Contains ks q → Contains (insert_key id_cmp ks k) q
Contains-insert_key [] k q h = absurd (omega (arith, h.1))
Contains-insert_key (x ∷ xs) k q h = by (id_cmp k x) (⊎_elim
    (λ same. subst (Contains (x ∷ insert_key id_cmp xs k)) same (Contains-first x (insert_key id_cmp xs k)))
    (λ later. Contains-later x q (insert_key id_cmp xs k) (Contains-insert_key xs k q later)) (Contains-cases x q xs h))
  where
    by : (o : Ordering) → Contains (x ∷ insert_key id_cmp xs k) q
        → Contains (match_ordering o (k ∷ x ∷ xs) (x ∷ xs) (x ∷ insert_key id_cmp xs k)) q
    by Less rest = Contains-later k q (x ∷ xs) h
    by Equal rest = h
    by Greater rest = rest

Contains-inserted : (ks : List TermId) (k : TermId) → Contains (insert_key id_cmp ks k) k
Contains-inserted [] k = Contains-first k []
Contains-inserted (x ∷ xs) k = by (Contains-inserted xs k) (id_cmp k x) refl
  where
    by : Contains (insert_key id_cmp xs k) k → (o : Ordering) → id_cmp k x ≡ o
        → Contains (match_ordering o (k ∷ x ∷ xs) (x ∷ xs) (x ∷ insert_key id_cmp xs k)) k
    by rest Less e = Contains-first k (x ∷ xs)
    by rest Equal e = subst (Contains (x ∷ xs)) (sym (id_cmp-exact k x e)) (Contains-first x xs)
    by rest Greater e = Contains-later x k (insert_key id_cmp xs k) rest

All-insert_key : (P : TermId → Type 0) (ks : List TermId) (k : TermId) → All P ks → P k → All P (insert_key id_cmp ks k)
All-insert_key P [] k h p = All-cons P k [] p (All-nil P)
All-insert_key P (x ∷ xs) k h p = by (All-insert_key P xs k (All-tail P x xs h) p) (id_cmp k x)
  where
    by : All P (insert_key id_cmp xs k) → (o : Ordering)
        → All P (match_ordering o (k ∷ x ∷ xs) (x ∷ xs) (x ∷ insert_key id_cmp xs k))
    by rest Less = All-cons P k (x ∷ xs) p h
    by rest Equal = h
    by rest Greater = All-cons P x (insert_key id_cmp xs k) (All-head P x xs h) rest

-- ---- keys put in one by one

Contains-keys_with : (ks ns : List TermId) (q : TermId) → Contains ks q → Contains (keys_with ks ns) q
Contains-keys_with ks [] q h = h
Contains-keys_with ks (n ∷ ns) q h = Contains-keys_with (insert_key id_cmp ks n) ns q (Contains-insert_key ks n q h)

keys_with-has : (ks ns : List TermId) → All (Contains (keys_with ks ns)) ns
keys_with-has ks [] = All-nil (Contains ks)
keys_with-has ks (n ∷ ns) = All-cons (Contains (keys_with ks (n ∷ ns))) n ns
    (Contains-keys_with (insert_key id_cmp ks n) ns n (Contains-inserted ks n))
    (keys_with-has (insert_key id_cmp ks n) ns)

All-keys_with : (P : TermId → Type 0) (ks ns : List TermId) → All P ks → All P ns → All P (keys_with ks ns)
All-keys_with P ks [] h all = h
All-keys_with P ks (n ∷ ns) h all =
    All-keys_with P (insert_key id_cmp ks n) ns (All-insert_key P ks n h (All-head P n ns all)) (All-tail P n ns all)

-- ---- the search

-- nodes that are pending, and those above them that were taken, rising
pub record IsCollecting (table : Table) (results pending taken : List TermId) : Type 0 where
  pub rising : AllPairs (λ (a b : TermId). a.0 < b.0) taken
  pub above : All (λ (p : TermId). All (λ (t : TermId). p.0 < t.0) taken) pending
  pub pending_sound : All (IsSubtermNode table results) pending
  pub taken_sound : All (IsSubtermNode table results) taken
  pub has : All (Contains (pending ++ taken)) results
  pub closed : (at : TermId) (e : Entry) → Contains taken at → slice_get table.nodes at.0 ≡ Some e
      → All (Contains (pending ++ taken)) e.args

pub IsCollecting-first : (table : Table) (results : List TermId)
    → All (λ (r : TermId). r.0 < length table.nodes) results
    → IsCollecting table results (keys_with [] results) []
IsCollecting-first table results within = record {
  rising = λ i j d less h. absurd (omega (arith, h));
  above = All-keys_with (λ (p : TermId). All (λ (t : TermId). p.0 < t.0) []) [] results
      (All-nil (λ (p : TermId). All (λ (t : TermId). p.0 < t.0) []))
      (λ k d h. λ i t l. absurd (omega (arith, l)));
  pending_sound = All-keys_with (IsSubtermNode table results) [] results (All-nil (IsSubtermNode table results))
      (All-weaker (Contains results) (IsSubtermNode table results)
      (λ r c. (
        All-contains (λ (r : TermId). r.0 < length table.nodes) results r within c,
        (r, c, IsSubterm-itself (term_at table r)),
      ))
      results (All-contains_itself results));
  taken_sound = All-nil (IsSubtermNode table results);
  has = All-weaker (Contains (keys_with [] results)) (Contains (keys_with [] results ++ []))
      (λ r c. Contains-append_left (keys_with [] results) [] r c) results (keys_with-has [] results);
  closed = λ at e c h. absurd (omega (arith, c.1));
}

-- the greatest is taken, and its arguments are pending
pub IsCollecting-step : (table : Table) → IsTable table
    → (results pending ks taken : List TermId) (at : TermId) (e : Entry)
    → IsCollecting table results pending taken → pending ≡ ks ++ at ∷ [] → All (λ (q : TermId). id_cmp q at ≡ Less) ks
    → slice_get table.nodes at.0 ≡ Some e → IsCollecting table results (keys_with ks e.args) (at ∷ taken)
IsCollecting-step table is results pending ks taken at e has split below node =
    let there : Contains pending at = subst (λ ps. Contains ps at) (sym split) (Contains-push ks at) in
    let before : All (λ (t : TermId). at.0 < t.0) taken =
    All-contains (λ (p : TermId). All (λ (t : TermId). p.0 < t.0) taken) pending at has.above there in
    let sound = All-contains (IsSubtermNode table results) pending at has.pending_sound there in
    let Above : TermId → Type 0 = λ p. All (λ (t : TermId). p.0 < t.0) (at ∷ taken) in
    let smaller : (p : TermId) → p.0 < at.0 → Above p = λ p less. All-cons (λ (t : TermId). p.0 < t.0) at taken less
    (All-weaker (λ (t : TermId). at.0 < t.0) (λ (t : TermId). p.0 < t.0)
    (λ t more. omega (arith, less, more)) taken before) in
    let new = keys_with ks e.args in
    let kept : (x : TermId) → Contains (pending ++ taken) x → Contains (new ++ at ∷ taken) x = λ x c. ⊎_elim
    (λ first. ⊎_elim (λ early. Contains-append_left new (at ∷ taken) x (Contains-keys_with ks e.args x early))
    (λ same. Contains-append_right new (at ∷ taken) x (subst (Contains (at ∷ taken)) same (Contains-first at taken)))
    (Contains-push_cases ks at x (subst (λ ps. Contains ps x) split first)))
    (λ later. Contains-append_right new (at ∷ taken) x (Contains-later at x taken later))
    (Contains-append_cases pending taken x c) in
    let put : All (Contains (new ++ at ∷ taken)) e.args = All-weaker (Contains new) (Contains (new ++ at ∷ taken))
    (λ x c. Contains-append_left new (at ∷ taken) x c) e.args (keys_with-has ks e.args) in
    record {
      rising = AllPairs-cons (λ (a b : TermId). a.0 < b.0) at taken before has.rising;
      above = All-keys_with Above ks e.args
          (All-weaker (λ (q : TermId). id_cmp q at ≡ Less) Above
          (λ q less. smaller q (ranked q.0 at.0 Less (sym less))) ks below)
          (All-weaker (λ (a : TermId). a.0 < at.0) Above smaller e.args (is.earlier at.0 e node));
      pending_sound = All-keys_with (IsSubtermNode table results) ks e.args
          (All-weaker (Contains ks) (IsSubtermNode table results)
          (λ q c. All-contains (IsSubtermNode table results) pending q has.pending_sound
          (subst (λ ps. Contains ps q) (sym split) (Contains-append_left ks (at ∷ []) q c)))
          ks (All-contains_itself ks))
          (All-weaker (Contains e.args) (IsSubtermNode table results)
          (λ a c. let under = argument-subterm table is at e node a c in (
            omega (arith, under.0, sound.0),
            (
              sound.1.0,
              sound.1.1,
              IsSubterm-through (term_at table a) (term_at table at) (term_at table sound.1.0) under.1 sound.1.2,
            ),
          ))
          e.args (All-contains_itself e.args));
      taken_sound = All-cons (IsSubtermNode table results) at taken sound has.taken_sound;
      has = All-weaker (Contains (pending ++ taken)) (Contains (new ++ at ∷ taken)) kept results has.has;
      closed = λ b f c h. ⊎_elim
          (λ same. let one : e ≡ f = cc (ap (λ (t : TermId). slice_get table.nodes t.0) same, node, h) in
          subst (λ (g : Entry). All (Contains (new ++ at ∷ taken)) g.args) one put)
          (λ later. All-weaker (Contains (pending ++ taken)) (Contains (new ++ at ∷ taken)) kept f.args
          (has.closed b f later h))
          (Contains-cases at b taken c);
    }

IsCollecting-closed : (table : Table) (results taken : List TermId) → IsCollecting table results [] taken
    → IsClosed table taken
IsCollecting-closed table results taken has = record {
  within = All-weaker (IsSubtermNode table results) (λ (at : TermId). at.0 < length table.nodes)
      (λ at sound. sound.0) taken has.taken_sound;
  arguments = has.closed;
}

-- where none is pending, those that were taken are all
pub IsCollecting-exact : (table : Table) → IsTable table → (results taken : List TermId)
    → IsCollecting table results [] taken → AreSubterms table results taken
IsCollecting-exact table is results taken has =
    AreSubterms-of table is results taken has.rising has.taken_sound has.has
    (IsCollecting-closed table results taken has)

pub IsCollecting-order : (table : Table) → IsTable table → (results taken : List TermId)
    → IsCollecting table results [] taken → IsTopological table taken
IsCollecting-order table is results taken has =
    IsTopological-of table is taken has.rising (IsCollecting-closed table results taken has)

-- ---- the measure

-- the node that was taken last, or the number of nodes
abbrev pub last_taken : ℕ → List TermId → ℕ
last_taken nodes [] = nodes
last_taken nodes (at ∷ taken) = at.0

pub last_taken-less : (table : Table) (results pending taken : List TermId) (at : TermId)
    → IsCollecting table results pending taken → Contains pending at
    → at.0 < last_taken (length table.nodes) taken
last_taken-less table results pending [] at has c =
    (All-contains (IsSubtermNode table results) pending at has.pending_sound c).0
last_taken-less table results pending (t ∷ taken) at has c =
    All-head (λ (t : TermId). at.0 < t.0) t taken
    (All-contains (λ (p : TermId). All (λ (t : TermId). p.0 < t.0) (t ∷ taken)) pending at has.above c)

pub pending-there : (pending ks : List TermId) (at : TermId) → pending ≡ ks ++ at ∷ [] → Contains pending at
pending-there pending ks at split = subst (λ ps. Contains ps at) (sym split) (Contains-push ks at)

pub pending-within : (table : Table) (results pending ks taken : List TermId) (at : TermId)
    → IsCollecting table results pending taken
    → pending ≡ ks ++ at ∷ [] → at.0 < length table.nodes
pending-within table results pending ks taken at has split =
    (All-contains (IsSubtermNode table results) pending at has.pending_sound (pending-there pending ks at split)).0

pub reverse-push : (taken : List TermId) (at : TermId) → reverse (taken ++ at ∷ []) ≡ at ∷ reverse taken
reverse-push taken at = reverse-append taken (at ∷ [])

-- where none can be taken, none is pending
none-pending : (pending : List TermId) → (0 < length pending → false ≡ true) → [] ≡ pending
none-pending [] none = refl
none-pending (at ∷ pending) none = absurd (false≢true (none (omega arith)))

pub IsCollecting-end : (table : Table) (results pending taken nodes : List TermId)
    → IsCollecting table results pending taken
    → (0 < length pending → false ≡ true) → nodes ≡ taken → IsCollecting table results [] nodes
IsCollecting-end table results pending taken nodes has none same =
    subst (IsCollecting table results []) (sym same)
    (subst (λ ps. IsCollecting table results ps taken) (sym (none-pending pending none)) has)
