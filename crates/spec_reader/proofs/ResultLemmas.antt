-- The terms of results, one by one.
use Rattle.std.proofs.Common.{◌≡◌, ◌∙◌, ℕ, ◌+◌, ◌<◌, ◌≤◌, List, [], ◌∷◌, ◌++◌, length, map, get_or, drop, refl, sym, ap}
use Rattle.std.proofs.Common.{Result, Ok, Err, append_assoc, ◌⊎◌, inl, inr, add-one}
use Rattle.std.proofs.lemmas.List.{drop_all}
use Rattle.std.proofs.Math.Seq.{drop-cons}
use Rattle.std.proofs.lemmas.List.Elements.{All-nil, All-push}
use Rattle.list_lemmas.proofs.Lists.{map-push, append-nothing}
use Rattle.bv_terms.specs.declared.op.TermId.{TermId}
use Rattle.bv_terms.specs.Term.{Term}
use Rattle.bv_terms.specs.Table.{Table, term_at, Extends}
use Rattle.sexp_read.specs.Tree.{Tree}
use Rattle.term_text.specs.declared.fault.TermFault.{TermFault}
use Rattle.term_text.specs.Build.{AreNodes, terms_at}
use Rattle.term_text.specs.Reading.{Scope}
use Rattle.term_text.specs.Scope.{Names, terms_under, AreNamesIn, IsRead}
use Rattle.term_text.proofs.BuildLemmas.{terms_at-kept, AreNodes-kept}
use Rattle.term_text.proofs.TermSteps.{under-kept}
use Rattle.spec_reader.specs.declared.fault.SpecFault.{SpecFault}
use Rattle.spec_reader.specs.declared.fault.SpecKind.TheVariants as fault
use Rattle.spec_reader.specs.Walk.{and_then, of_term, term_fault, kind_of, result_read, results_read}
use Rattle.spec_reader.specs.Results.{IsResult}

-- ---- a fault of a term

pub fault-read : (table : Table) (read : Result Term TermFault) (f : TermFault) → IsRead table read (Err f)
    → IsResult table (of_term read) (Err (term_fault f))
fault-read table read f (inl e) = inl (ap kind_of e)
fault-read table read f (inr e) = inr (ap of_term e)

-- ---- terms so far

-- the nodes of the first results, and how the terms of those that are left complete their terms
pub record HasResults (p : ℕ) (scope : Scope) (all left : List Tree) (table : Table)
    (nodes : List TermId) : Type 0 where
  pub within : AreNodes table nodes
  pub whole : results_read p scope all
      ≡ and_then (results_read p scope left) (λ ts. Ok (terms_at table nodes ++ ts))

and-then-ok : {A : Type 0} (r : Result A SpecFault) → r ≡ and_then r (λ a. Ok a)
and-then-ok (Ok a) = refl
and-then-ok (Err e) = refl

pub results_none : (p : ℕ) (scope : Scope) (all : List Tree) (table : Table) → HasResults p scope all all table []
results_none p scope all table = record {
  within = All-nil (λ (at : TermId). at.0 < length table.nodes);
  whole = and-then-ok (results_read p scope all);
}

cons-after : (before : List Term) (t : Term) (r : Result (List Term) SpecFault)
    → and_then (and_then r (λ ts. Ok (t ∷ ts))) (λ ts. Ok (before ++ ts))
    ≡ and_then r (λ ts. Ok ((before ++ t ∷ []) ++ ts))
cons-after before t (Ok ts) = ap Ok (sym (append_assoc before (t ∷ []) ts))
cons-after before t (Err e) = refl

results-more : (p : ℕ) (scope : Scope) (all left later : List Tree) (tree : Tree) (old new : Table)
    (nodes : List TermId) (at : TermId) → HasResults p scope all left old nodes → left ≡ tree ∷ later
    → Extends old new → at.0 < length new.nodes → result_read p scope tree ≡ Ok (term_at new at)
    → HasResults p scope all later new (nodes ++ at ∷ [])
results-more p scope all left later tree old new nodes at has next grown within read = record {
  within = All-push (λ (at : TermId). at.0 < length new.nodes) nodes at (AreNodes-kept old new grown nodes has.within)
      within;
  whole =
      has.whole
      ∙ ap (λ ts. and_then ts (λ ts. Ok (terms_at old nodes ++ ts)))
      (ap (results_read p scope) next
      ∙ ap (λ r. and_then r (λ t. and_then (results_read p scope later) (λ ts. Ok (t ∷ ts)))) read)
      ∙ cons-after (terms_at old nodes) (term_at new at) (results_read p scope later)
      ∙ ap (λ before. and_then (results_read p scope later) (λ ts. Ok (before ++ ts)))
      (ap (λ ts. ts ++ term_at new at ∷ []) (sym (terms_at-kept old new grown nodes has.within))
      ∙ sym (map-push (term_at new) nodes at));
}

pub next-item : (f : ℕ → Tree) (items : List ℕ) (i : ℕ) → i < length items
    → map f (drop i items) ≡ f (get_or items i 0) ∷ map f (drop (i + 1) items)
next-item f items i h =
    let e : drop i items ≡ get_or items i 0 ∷ drop (i + 1) items = rw (drop-cons items i 0, ← add-one) refl in
    ap (map f) e

-- what is read of a tree stays, where the table grows
read-same : (old mid : Table) (names : Names) (tree : Tree) → Extends old mid → AreNamesIn old names
    → result_read old.pointer (terms_under old names) tree ≡ result_read mid.pointer (terms_under mid names) tree
read-same old mid names tree h all =
    λ i. result_read (sym h.pointer i) (sym (under-kept old mid h names all) i) tree

pub results-next : (old mid new : Table) (names : Names) (f : ℕ → Tree) (items : List ℕ) (i : ℕ)
    (nodes : List TermId) (at : TermId) (all : List Tree) → i < length items → Extends old mid → AreNamesIn old names
    → HasResults old.pointer (terms_under old names) all (map f (drop i items)) mid nodes → Extends mid new
    → IsResult new (result_read mid.pointer (terms_under mid names) (f (get_or items i 0))) (Ok at)
    → HasResults old.pointer (terms_under old names) all (map f (drop (i + 1) items)) new (nodes ++ at ∷ [])
results-next old mid new names f items i nodes at all lt h within has g read =
    results-more old.pointer (terms_under old names) all (map f (drop i items)) (map f (drop (i + 1) items))
    (f (get_or items i 0)) mid new nodes at has (next-item f items i lt) g read.0
    (read-same old mid names (f (get_or items i 0)) h within ∙ read.1)

pub results-stop : (old mid new : Table) (names : Names) (f : ℕ → Tree) (items : List ℕ) (i : ℕ)
    (nodes : List TermId) (e : SpecFault) (all : List Tree) → i < length items → Extends old mid → AreNamesIn old names
    → HasResults old.pointer (terms_under old names) all (map f (drop i items)) mid nodes
    → IsResult new (result_read mid.pointer (terms_under mid names) (f (get_or items i 0))) (Err e)
    → (e.kind ≡ fault.NoMemory) ⊎ (results_read old.pointer (terms_under old names) all ≡ Err e)
results-stop old mid new names f items i nodes e all lt h within has (inl is) = inl is
results-stop old mid new names f items i nodes e all lt h within has (inr is) =
    let p = old.pointer in
    let scope = terms_under old names in
    let later = map f (drop (i + 1) items) in
    inr (has.whole
    ∙ ap (λ ts. and_then ts (λ ts. Ok (terms_at mid nodes ++ ts)))
    (ap (results_read p scope) (next-item f items i lt)
    ∙ ap (λ r. and_then r (λ t. and_then (results_read p scope later) (λ ts. Ok (t ∷ ts))))
    (read-same old mid names (f (get_or items i 0)) h within ∙ is)))

pub results-done : (p : ℕ) (scope : Scope) (f : ℕ → Tree) (items : List ℕ) (i : ℕ) (table : Table)
    (nodes : List TermId) (all : List Tree) → length items ≤ i
    → HasResults p scope all (map f (drop i items)) table nodes
    → results_read p scope all ≡ Ok (terms_at table nodes)
results-done p scope f items i table nodes all h has =
    has.whole
    ∙ ap (λ xs. and_then (results_read p scope (map f xs)) (λ ts. Ok (terms_at table nodes ++ ts))) (drop_all i items h)
    ∙ ap Ok (append-nothing (terms_at table nodes))
