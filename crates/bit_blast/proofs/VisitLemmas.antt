-- The word of one more node is put in.
use Rattle.std.proofs.Common.{◌≡◌, ◌∙◌, ℕ, ◌<◌, ◌==◌, ◌⊎◌, inl, inr, ⊎_elim, Bool, true, false, List, [], ◌∷◌}
use Rattle.std.proofs.Common.{◌++◌, length, take, slice_get, Some, All, Contains, refl, sym, ap, subst, arith}
use Rattle.std.proofs.Common.{if◌then◌else◌}
use Rattle.std.proofs.lemmas.List.Elements.{All-weaker, Contains-push_cases}
use Rattle.std.proofs.Math.Bool.{and-true}
use Rattle.indexmap.specs.IndexMap.{insert_entry}
use Rattle.bv_terms.specs.declared.op.TermId.{TermId}
use Rattle.bv_terms.specs.Subterm.{IsSubterm}
use Rattle.bv_terms.specs.Table.{Entry, Table, term_at}
use Rattle.bv_terms.proofs.SubtermLemmas.{IsSubterm-itself}
use Rattle.cnf_core.specs.Clause.{is_model}
use Rattle.circuit.specs.declared.signal.Signal.{Signal}
use Rattle.circuit.specs.Gate.{Netlist}
use Rattle.bit_blast.specs.Bits.{IsBitOf}
use Rattle.bit_blast.specs.Words.{IsTermWord, Wiring, wiring, HasWord, AreWords, Widens, Moves, IsKnown, AreUnvisited}
use Rattle.bit_blast.proofs.EntryLemmas.{same-id}
use Rattle.bit_blast.proofs.MoveLemmas.{AreWords-widens, moves-none, moves-then}
use Rattle.list_lemmas.proofs.Lookups.{Contains-cases, Contains-first, Contains-later}

abbrev Words : Type 0
Words = List (TermId × List Signal)

-- ---- an entry put in

module _ (eq : TermId → TermId → Bool) (is : (a b : TermId) → eq a b ≡ (a.0 == b.0)) where
  inserted-entry : (es : Words) (k : TermId) (word : List Signal) → Contains (insert_entry eq es k word) (k, word)
  inserted-entry [] k word = Contains-first (k, word) []
  inserted-entry (e ∷ es) k word = by (inserted-entry es k word) (eq k e.0) refl
    where
      by : Contains (insert_entry eq es k word) (k, word) → (b : Bool) → eq k e.0 ≡ b
          → Contains (if b then (e.0, word) ∷ es else e ∷ insert_entry eq es k word) (k, word)
      by rest true t =
          subst (λ a. Contains ((e.0, word) ∷ es) (a, word)) (sym (same-id k e.0 (sym (is k e.0) ∙ t)))
          (Contains-first (e.0, word) es)
      by rest false t = Contains-later e (k, word) (insert_entry eq es k word) rest

  inserted-kept : (es : Words) (k : TermId) (word : List Signal) (a : TermId) → HasWord es a
      → HasWord (insert_entry eq es k word) a
  inserted-kept [] k word a has = absurd (omega (arith, has.1.1))
  inserted-kept (e ∷ es) k word a has =
      ⊎_elim (λ here. by (λ h. inserted-kept es k word a h) (eq k e.0) (inl here))
      (λ later. by (λ h. inserted-kept es k word a h) (eq k e.0) (inr (has.0, later)))
      (Contains-cases e (a, has.0) es has.1)
    where
      by : (HasWord es a → HasWord (insert_entry eq es k word) a) → (b : Bool)
          → (e ≡ (a, has.0)) ⊎ HasWord es a
          → HasWord (if b then (e.0, word) ∷ es else e ∷ insert_entry eq es k word) a
      by rest true (inl here) = (
        word,
        subst (λ x. Contains ((e.0, word) ∷ es) (x, word)) (ap (λ (p : TermId × List Signal). p.0) here)
            (Contains-first (e.0, word) es),
      )
      by rest true (inr later) = (later.0, Contains-later (e.0, word) (a, later.0) es later.1)
      by rest false (inl here) = (
        has.0,
        subst (Contains (e ∷ insert_entry eq es k word)) here (Contains-first e (insert_entry eq es k word)),
      )
      by rest false (inr later) =
          let more = rest later in (more.0, Contains-later e (a, more.0) (insert_entry eq es k word) more.1)

  inserted-cases : (es : Words) (k : TermId) (word : List Signal) (a : TermId) (w : List Signal)
      → Contains (insert_entry eq es k word) (a, w) → Contains es (a, w) ⊎ ((k ≡ a) × (word ≡ w))
  inserted-cases [] k word a w h =
      ⊎_elim (λ here. inr (
        ap (λ (p : TermId × List Signal). p.0) here,
        ap (λ (p : TermId × List Signal). p.1) here,
      ))
      (λ later. absurd (omega (arith, later.1))) (Contains-cases (k, word) (a, w) [] h)
  inserted-cases (e ∷ es) k word a w h =
      by (λ rest. inserted-cases es k word a w rest) (eq k e.0) refl h
    where
      by : (Contains (insert_entry eq es k word) (a, w) → Contains es (a, w) ⊎ ((k ≡ a) × (word ≡ w)))
          → (b : Bool) → eq k e.0 ≡ b
          → Contains (if b then (e.0, word) ∷ es else e ∷ insert_entry eq es k word) (a, w)
          → Contains (e ∷ es) (a, w) ⊎ ((k ≡ a) × (word ≡ w))
      by rest true t c = ⊎_elim
          (λ here. inr (
            same-id k e.0 (sym (is k e.0) ∙ t) ∙ ap (λ (p : TermId × List Signal). p.0) here,
            ap (λ (p : TermId × List Signal). p.1) here,
          ))
          (λ later. inl (Contains-later e (a, w) es later)) (Contains-cases (e.0, word) (a, w) es c)
      by rest false t c = ⊎_elim
          (λ here. inl (subst (Contains (e ∷ es)) here (Contains-first e es)))
          (λ later. ⊎_elim (λ old. inl (Contains-later e (a, w) es old)) (λ new. inr new) (rest later))
          (Contains-cases e (a, w) (insert_entry eq es k word) c)

  -- a node over nodes with words gets its own
  AreWords-insert : (table : Table) (n : Netlist) (words : Words) (at : TermId) (word : List Signal)
      → AreWords table (wiring n words) → at.0 < length table.nodes
      → ((e : Entry) → slice_get table.nodes at.0 ≡ Some e → All (HasWord words) e.args)
      → IsTermWord table.pointer n (term_at table at) word
      → AreWords table (wiring n (insert_entry eq words at word))
  AreWords-insert table n words at word are there arguments here =
      let new = insert_entry eq words at word in
      record {
        netlist = are.netlist;
        within = λ a has. ⊎_elim (λ old. are.within a (has.0, old))
            (λ same. subst (λ (a : TermId). a.0 < length table.nodes) same.0 there)
            (inserted-cases words at word a has.0 has.1);
        arguments = λ a e has entry. All-weaker (HasWord words) (HasWord new)
            (λ x old. inserted-kept words at word x old) e.args
            (⊎_elim (λ old. are.arguments a e (has.0, old) entry)
            (λ same. arguments e (ap (λ (a : TermId). slice_get table.nodes a.0) same.0 ∙ entry))
            (inserted-cases words at word a has.0 has.1));
        words = λ a w c. ⊎_elim (λ old. are.words a w old)
            (λ same. subst (λ a. IsTermWord table.pointer n (term_at table a) w) same.0
            (subst (IsTermWord table.pointer n (term_at table at)) same.1 here))
            (inserted-cases words at word a w c);
      }

-- ---- a node visited

-- the words so far, after some nodes of a list
pub record IsVisited (table : Table) (root : TermId) (old new : Wiring) (nodes : List TermId) : Type 0 where
  pub moves : Moves table (term_at table root) (λ env. true) old new
  pub done : (at : TermId) → Contains nodes at → HasWord new.words at

-- the arguments of the next node have words
pub next-arguments : (table : Table) (root : TermId) (old new : Wiring) (nodes : List TermId) (i : ℕ) (at : TermId)
    → AreUnvisited table old.words root nodes → IsVisited table root old new (take i nodes)
    → slice_get nodes i ≡ Some at → (e : Entry) → slice_get table.nodes at.0 ≡ Some e → All (HasWord new.words) e.args
next-arguments table root old new nodes i at unvisited visited here e entry =
    All-weaker (IsKnown old.words (take i nodes)) (HasWord new.words)
    (λ a known. ⊎_elim (λ has. visited.moves.kept a has) (λ c. visited.done a c) known) e.args
    (unvisited.arguments i at e here entry)

pub visit-more : (eq : TermId → TermId → Bool) → ((a b : TermId) → eq a b ≡ (a.0 == b.0))
    → (table : Table) (root : TermId) (old : Wiring) (n m : Netlist) (words more : Words) (nodes done : List TermId)
    (at : TermId) (word : List Signal)
    → IsVisited table root old (wiring n words) nodes → at.0 < length table.nodes
    → IsSubterm (term_at table at) (term_at table root)
    → ((e : Entry) → slice_get table.nodes at.0 ≡ Some e → All (HasWord words) e.args)
    → Widens (IsBitOf (term_at table at)) n m → IsTermWord table.pointer m (term_at table at) word
    → more ≡ insert_entry eq words at word → done ≡ nodes ++ at ∷ []
    → IsVisited table root old (wiring m more) done
visit-more eq is table root old n m words more nodes done at word visited there below arguments widens here e d =
    let t = term_at table at in
    let put = insert_entry eq words at word in
    let are = AreWords-widens (IsBitOf t) table n m words widens visited.moves.words in
    let step : Moves table t (λ env. true) (wiring n words) (wiring m put) = record {
      words = AreWords-insert eq is table m words at word are there arguments here;
      kept = λ a has. inserted-kept eq is words at word a has;
      longer = widens.longer;
      holds = widens.holds;
      more_clauses = widens.more_clauses;
      clauses = widens.clauses;
      models = λ v env h agrees fit. widens.models v h ∙ sym (and-true (is_model v n.formula.clauses));
      more_bits = widens.more_bits;
      bits = widens.bits;
      from = widens.from;
    } in
    let all = moves-then table (term_at table root) t (term_at table root) (λ env. true) (λ env. true) old
    (wiring n words)
    (wiring m put) (IsSubterm-itself (term_at table root)) below visited.moves step in
    subst (λ ws. IsVisited table root old (wiring m ws) done) (sym e)
    (subst (IsVisited table root old (wiring m put)) (sym d) (record {
      moves = all;
      done = λ a c. ⊎_elim (λ old. step.kept a (visited.done a old))
          (λ same. subst (HasWord put) same (word, inserted-entry eq is words at word))
          (Contains-push_cases nodes at a c);
    }))

pub visited-none : (table : Table) (root : TermId) (w : Wiring) → AreWords table w → IsVisited table root w w []
visited-none table root w are = record {
  moves = moves-none table (term_at table root) w are;
  done = λ at c. absurd (omega (arith, c.1));
}

-- after all nodes the root has its word
pub visited-root : (table : Table) (root : TermId) (old new : Wiring) (nodes done : List TermId) → done ≡ nodes
    → AreUnvisited table old.words root nodes → IsVisited table root old new done → HasWord new.words root
visited-root table root old new nodes done e unvisited visited =
    ⊎_elim (λ has. visited.moves.kept root has) (λ c. visited.done root (subst (λ ns. Contains ns root) (sym e) c))
    unvisited.visits
