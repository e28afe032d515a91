-- How the nodes without words are found: the greatest of those that are pending is taken, and its arguments are put in.
use Rattle.std.proofs.Common.{◌≡◌, ◌∙◌, ℕ, ◌<◌, ⊎_elim, inl, inr, List, [], ◌∷◌, ◌++◌, length, get_or, take}
use Rattle.std.proofs.Common.{slice_get, Some}
use Rattle.std.proofs.Common.{All, Contains, refl, sym, ap, subst, arith}
use Rattle.std.specs.Prelude.{AllPairs}
use Rattle.std.specs.BTreeSet.{insert_key}
use Rattle.std.specs.Ordering.{nat_cmp}
use Rattle.std.specs.declared.cmp.Ordering.{Ordering}
use Rattle.std.specs.declared.cmp.Ordering.TheVariants.{Less, Equal, Greater}
use Rattle.std.proofs.lemmas.Bool.{cases_lt}
use Rattle.std.proofs.lemmas.Cmp.{ranked}
use Rattle.std.proofs.lemmas.List.{get_or-take, length-take-le}
use Rattle.std.proofs.lemmas.List.Kept.{AllPairs-cons}
use Rattle.std.proofs.lemmas.List.Elements.{All-nil, All-cons, All-head, All-tail, All-weaker, All-contains}
use Rattle.std.proofs.lemmas.List.Elements.{All-contains_itself, Contains-append_left, Contains-append_right}
use Rattle.std.proofs.lemmas.List.Elements.{Contains-append_cases, Contains-push_cases, Contains-push}
use Rattle.std.proofs.lemmas.Map.Views.{All-insert_key}
use Rattle.std.proofs.lemmas.Option.{slice_get_within, get_or_from_slice_get}
use Rattle.bv_terms.specs.declared.op.TermId.{TermId}
use Rattle.bv_terms.specs.Table.{Entry, Table, term_at, IsTable}
use Rattle.bv_terms.specs.Subterm.{keys_with}
use Rattle.bv_terms.proofs.SubtermLemmas.{IsSubterm-itself, IsSubterm-through, argument-subterm}
use Rattle.circuit.specs.declared.signal.Signal.{Signal}
use Rattle.bit_blast.specs.Words.{HasWord, IsBelow, IsKnown, AreUnvisited}
use Rattle.bit_blast.proofs.SetLemmas.{Contains-insert_key, Contains-inserted}
use Rattle.list_lemmas.proofs.Lookups.{Contains-cases, Contains-first, Contains-later}

abbrev pub id_cmp : TermId → TermId → Ordering
id_cmp a b = nat_cmp a.0 b.0

id_cmp-exact : (a b : TermId) → id_cmp a b ≡ Equal → a ≡ b
id_cmp-exact a b e = ap (λ (m : ℕ). let id : TermId = record { 0 = m } in id) (by (id_cmp a b) refl e)
  where
    by : (o : Ordering) → o ≡ id_cmp a b → o ≡ Equal → a.0 ≡ b.0
    by Less h e = cc
    by Equal h e = ranked a.0 b.0 Equal h
    by Greater h e = cc

pub id_cmp-less : (a b : TermId) → id_cmp a b ≡ Less → a.0 < b.0
id_cmp-less a b less = ranked a.0 b.0 Less (sym less)

-- ---- keys put in one by one

Contains-keys_with : (ks ns : List TermId) (q : TermId) → Contains ks q → Contains (keys_with ks ns) q
Contains-keys_with ks [] q h = h
Contains-keys_with ks (n ∷ ns) q h =
    Contains-keys_with (insert_key id_cmp ks n) ns q (Contains-insert_key id_cmp id_cmp-exact ks n q h)

keys_with-has : (ks ns : List TermId) → All (Contains (keys_with ks ns)) ns
keys_with-has ks [] = All-nil (Contains ks)
keys_with-has ks (n ∷ ns) = All-cons (Contains (keys_with ks (n ∷ ns))) n ns
    (Contains-keys_with (insert_key id_cmp ks n) ns n (Contains-inserted id_cmp id_cmp-exact ks n))
    (keys_with-has (insert_key id_cmp ks n) ns)

All-keys_with : (P : TermId → Type 0) (ks ns : List TermId) → All P ks → All P ns → All P (keys_with ks ns)
All-keys_with P ks [] h all = h
All-keys_with P ks (n ∷ ns) h all =
    All-keys_with P (insert_key id_cmp ks n) ns (All-insert_key id_cmp n P ks h (All-head P n ns all))
    (All-tail P n ns all)

-- ---- the search

abbrev pub Words : Type 0
Words = List (TermId × List Signal)

-- nodes that are pending, and those above them that were taken, rising
pub record IsVisiting (table : Table) (words : Words) (root : TermId) (pending taken : List TermId) : Type 0 where
  pub rising : AllPairs (λ (a b : TermId). a.0 < b.0) taken
  pub above : All (λ (p : TermId). All (λ (t : TermId). p.0 < t.0) taken) pending
  pub pending_below : All (IsBelow table root) pending
  pub taken_below : All (IsBelow table root) taken
  pub has : IsKnown words (pending ++ taken) root
  pub closed : (at : TermId) (e : Entry) → Contains taken at → slice_get table.nodes at.0 ≡ Some e
      → All (IsKnown words (pending ++ taken)) e.args

pub IsVisiting-first : (table : Table) (words : Words) (root : TermId) → root.0 < length table.nodes
    → IsVisiting table words root (root ∷ []) []
IsVisiting-first table words root within = record {
  rising = λ i j d less h. absurd (omega (arith, h));
  above = All-cons (λ (p : TermId). All (λ (t : TermId). p.0 < t.0) []) root []
      (All-nil (λ (t : TermId). root.0 < t.0)) (All-nil (λ (p : TermId). All (λ (t : TermId). p.0 < t.0) []));
  pending_below = All-cons (IsBelow table root) root [] (within, IsSubterm-itself (term_at table root))
      (All-nil (IsBelow table root));
  taken_below = All-nil (IsBelow table root);
  has = inr (Contains-append_left (root ∷ []) [] root (Contains-first root []));
  closed = λ at e c h. absurd (omega (arith, c.1));
}

known-weaker : (words : Words) (xs ys : List TermId) → ((x : TermId) → Contains xs x → IsKnown words ys x)
    → (x : TermId) → IsKnown words xs x → IsKnown words ys x
known-weaker words xs ys move x known = ⊎_elim (λ has. inl has) (λ c. move x c) known

pub pending-there : (pending ks : List TermId) (at : TermId) → pending ≡ ks ++ at ∷ [] → Contains pending at
pending-there pending ks at split = subst (λ ps. Contains ps at) (sym split) (Contains-push ks at)

front-all : (P : TermId → Type 0) (pending ks : List TermId) (at : TermId) → pending ≡ ks ++ at ∷ [] → All P pending
    → All P ks
front-all P pending ks at split all =
    All-weaker (Contains ks) P
    (λ q c. All-contains P pending q all (subst (λ ps. Contains ps q) (sym split) (Contains-append_left ks
    (at ∷ []) q c)))
    ks (All-contains_itself ks)

pub pending-within : (table : Table) (words : Words) (root : TermId) (pending ks taken : List TermId) (at : TermId)
    → IsVisiting table words root pending taken → pending ≡ ks ++ at ∷ [] → at.0 < length table.nodes
pending-within table words root pending ks taken at has split =
    (All-contains (IsBelow table root) pending at has.pending_below (pending-there pending ks at split)).0

-- the greatest has a word already
pub IsVisiting-skip : (table : Table) (words : Words) (root : TermId) (pending ks taken : List TermId) (at : TermId)
    → IsVisiting table words root pending taken → pending ≡ ks ++ at ∷ [] → HasWord words at
    → IsVisiting table words root ks taken
IsVisiting-skip table words root pending ks taken at has split word =
    let move : (x : TermId) → Contains (pending ++ taken) x → IsKnown words (ks ++ taken) x = λ x c. ⊎_elim
    (λ first. ⊎_elim (λ early. inr (Contains-append_left ks taken x early))
    (λ same. inl (subst (HasWord words) same word))
    (Contains-push_cases ks at x (subst (λ ps. Contains ps x) split first)))
    (λ later. inr (Contains-append_right ks taken x later))
    (Contains-append_cases pending taken x c) in
    record {
      rising = has.rising;
      above = front-all (λ (p : TermId). All (λ (t : TermId). p.0 < t.0) taken) pending ks at split has.above;
      pending_below = front-all (IsBelow table root) pending ks at split has.pending_below;
      taken_below = has.taken_below;
      has = known-weaker words (pending ++ taken) (ks ++ taken) move root has.has;
      closed = λ b f c h. All-weaker (IsKnown words (pending ++ taken)) (IsKnown words (ks ++ taken))
          (known-weaker words (pending ++ taken) (ks ++ taken) move) f.args (has.closed b f c h);
    }

-- the greatest is taken, and its arguments are pending
pub IsVisiting-step : (table : Table) → IsTable table → (words : Words) (root : TermId)
    → (pending ks taken : List TermId) (at : TermId) (e : Entry)
    → IsVisiting table words root pending taken → pending ≡ ks ++ at ∷ [] → All (λ (q : TermId). id_cmp q at ≡ Less) ks
    → slice_get table.nodes at.0 ≡ Some e → IsVisiting table words root (keys_with ks e.args) (at ∷ taken)
IsVisiting-step table is words root pending ks taken at e has split below node =
    let there : Contains pending at = pending-there pending ks at split in
    let before : All (λ (t : TermId). at.0 < t.0) taken =
    All-contains (λ (p : TermId). All (λ (t : TermId). p.0 < t.0) taken) pending at has.above there in
    let sound = All-contains (IsBelow table root) pending at has.pending_below there in
    let Above : TermId → Type 0 = λ p. All (λ (t : TermId). p.0 < t.0) (at ∷ taken) in
    let smaller : (p : TermId) → p.0 < at.0 → Above p = λ p less. All-cons (λ (t : TermId). p.0 < t.0) at taken less
    (All-weaker (λ (t : TermId). at.0 < t.0) (λ (t : TermId). p.0 < t.0)
    (λ t more. omega (arith, less, more)) taken before) in
    let new = keys_with ks e.args in
    let move : (x : TermId) → Contains (pending ++ taken) x → IsKnown words (new ++ at ∷ taken) x = λ x c. inr (⊎_elim
    (λ first. ⊎_elim (λ early. Contains-append_left new (at ∷ taken) x (Contains-keys_with ks e.args x early))
    (λ same. Contains-append_right new (at ∷ taken) x (subst (Contains (at ∷ taken)) same (Contains-first at taken)))
    (Contains-push_cases ks at x (subst (λ ps. Contains ps x) split first)))
    (λ later. Contains-append_right new (at ∷ taken) x (Contains-later at x taken later))
    (Contains-append_cases pending taken x c)) in
    let put : All (IsKnown words (new ++ at ∷ taken)) e.args =
    All-weaker (Contains new) (IsKnown words (new ++ at ∷ taken))
    (λ x c. inr (Contains-append_left new (at ∷ taken) x c)) e.args (keys_with-has ks e.args) in
    record {
      rising = AllPairs-cons (λ (a b : TermId). a.0 < b.0) at taken before has.rising;
      above = All-keys_with Above ks e.args
          (All-weaker (λ (q : TermId). id_cmp q at ≡ Less) Above (λ q less. smaller q (id_cmp-less q at less)) ks below)
          (All-weaker (λ (a : TermId). a.0 < at.0) Above smaller e.args (is.earlier at.0 e node));
      pending_below = All-keys_with (IsBelow table root) ks e.args
          (front-all (IsBelow table root) pending ks at split has.pending_below)
          (All-weaker (Contains e.args) (IsBelow table root)
          (λ a c. let under = argument-subterm table is at e node a c in (
            omega (arith, under.0, sound.0),
            IsSubterm-through (term_at table a) (term_at table at) (term_at table root) under.1 sound.1,
          ))
          e.args (All-contains_itself e.args));
      taken_below = All-cons (IsBelow table root) at taken sound has.taken_below;
      has = known-weaker words (pending ++ taken) (new ++ at ∷ taken) move root has.has;
      closed = λ b f c h. ⊎_elim
          (λ same. let one : e ≡ f = cc (ap (λ (t : TermId). slice_get table.nodes t.0) same, node, h) in
          subst (λ (g : Entry). All (IsKnown words (new ++ at ∷ taken)) g.args) one put)
          (λ later. All-weaker (IsKnown words (pending ++ taken)) (IsKnown words (new ++ at ∷ taken))
          (known-weaker words (pending ++ taken) (new ++ at ∷ taken) move) f.args (has.closed b f later h))
          (Contains-cases at b taken c);
    }

-- all that is pending after a step is below the node that was taken
pub step-below : (table : Table) → IsTable table → (ks : List TermId) (at : TermId) (e : Entry)
    → All (λ (q : TermId). id_cmp q at ≡ Less) ks → slice_get table.nodes at.0 ≡ Some e
    → All (λ (q : TermId). q.0 < at.0) (keys_with ks e.args)
step-below table is ks at e below node =
    All-keys_with (λ (q : TermId). q.0 < at.0) ks e.args
    (All-weaker (λ (q : TermId). id_cmp q at ≡ Less) (λ (q : TermId). q.0 < at.0)
    (λ q less. id_cmp-less q at less) ks below)
    (is.earlier at.0 e node)

pub skip-below : (ks : List TermId) (at : TermId) → All (λ (q : TermId). id_cmp q at ≡ Less) ks
    → All (λ (q : TermId). q.0 < at.0) ks
skip-below ks at below =
    All-weaker (λ (q : TermId). id_cmp q at ≡ Less) (λ (q : TermId). q.0 < at.0)
    (λ q less. id_cmp-less q at less) ks below

-- in a list that rises, a smaller node stands before a greater one
before-greater : (nodes : List TermId) → AllPairs (λ (a b : TermId). a.0 < b.0) nodes → (k : ℕ) (at a : TermId)
    → slice_get nodes k ≡ Some at
    → Contains nodes a → a.0 < at.0 → Contains (take k nodes) a
before-greater nodes rising k at a h c below =
    let within : k < length nodes = slice_get_within nodes k at h in
    let here : get_or nodes k a ≡ at = get_or_from_slice_get nodes k at a h in
    let rises = λ (greater : k < c.0). rising k c.0 a greater c.1 in
    let place : c.0 < k = ⊎_elim (λ less. less)
    (λ more. ⊎_elim (λ greater.
    absurd (omega (arith, below, ap (λ (t : TermId). t.0) here, ap (λ (t : TermId). t.0) c.2, rises greater)))
    (λ less. let same : k ≡ c.0 = omega (arith, more, less) in
    absurd (omega (arith, below, ap (λ (t : TermId). t.0) (sym here ∙ ap (λ i. get_or nodes i a) same ∙ c.2))))
    (cases_lt k c.0)) (cases_lt c.0 k) in
    (c.0, omega (arith, length-take-le k nodes (omega arith), place), get_or-take k nodes c.0 a place ∙ c.2)

-- where none is pending, those that were taken are all
pub IsVisiting-end : (table : Table) → IsTable table
    → (words : Words) (root : TermId) (pending taken nodes : List TermId)
    → IsVisiting table words root pending taken → pending ≡ [] → nodes ≡ taken → AreUnvisited table words root nodes
IsVisiting-end table is words root pending taken nodes visiting none same =
    subst (AreUnvisited table words root) (sym same) (record {
      below = has.taken_below;
      arguments = λ i at e h node. All-weaker (Contains e.args) (IsKnown words (take i taken))
          (λ a c. ⊎_elim (λ word. inl word)
          (λ among. inr (before-greater taken has.rising i at a h among
          (All-contains (λ (a : TermId). a.0 < at.0) e.args a (is.earlier at.0 e node) c)))
          (All-contains (IsKnown words taken) e.args a (has.closed at e (taken-at i at h) node) c))
          e.args (All-contains_itself e.args);
      visits = has.has;
    })
  where
    has : IsVisiting table words root [] taken
    has = subst (λ ps. IsVisiting table words root ps taken) none visiting

    taken-at : (i : ℕ) (at : TermId) → slice_get taken i ≡ Some at → Contains taken at
    taken-at i at h = (i, slice_get_within taken i at h, get_or_from_slice_get taken i at at h)
