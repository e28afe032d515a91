-- The steps of the walk over a term's trees.
use Rattle.std.proofs.Common.{◌≡◌, ℕ, ◌+◌, ◌<◌, List, [], ◌∷◌, ◌++◌, length, map, get_or, drop, refl, sym, ap, ◌∙◌}
use Rattle.std.proofs.Common.{Some, unwrap_or, Result}
use Rattle.std.proofs.Common.{Ok, Err, subst, arith}
use Rattle.std.proofs.Common.{append_assoc, ◌⊎◌, inl, inr, add-one}
use Rattle.std.proofs.Math.Seq.{drop-cons}
use Rattle.std.proofs.lemmas.List.Elements.{All-nil, All-push, All-weaker, recursion_from_All}
use Rattle.std.proofs.lemmas.Option.{none-some, same_Some}
use Rattle.std.specs.List.{AllByRecursion}
use Rattle.std.specs.declared.alloc.AllocError.{AllocError}
use Rattle.list_lemmas.proofs.Lists.{map-push, append-nothing}
use Rattle.bv_terms.specs.declared.op.TermId.{TermId}
use Rattle.bv_terms.specs.Term.{Term}
use Rattle.bv_terms.specs.Table.{Table, term_at, Extends}
use Rattle.sexp_read.specs.Tree.{Tree, Trees, Word, Branch, End, Then, word_of, members_of, list_of}
use Rattle.sexp_read.specs.Forest.{trees_by}
use Rattle.term_text.specs.declared.fault.TermFault.{TermFault}
use Rattle.term_text.specs.declared.fault.TermKind.TheVariants as kind
use Rattle.bv_terms.specs.declared.value.Sort.{Sort}
use Rattle.bv_terms.specs.declared.value.Sort.TheVariants as sort
use Rattle.bv_terms.specs.WellSorted.{sort_of}
use Rattle.std.specs.Prelude.{MatchResult}
use Rattle.term_text.specs.declared.judge.OperatorFault.{OperatorFault}
use Rattle.term_text.specs.declared.operator.Operator.{Operator}
use Rattle.term_text.specs.Operator.{judge}
use Rattle.term_text.specs.Written.{written}
use Rattle.term_text.specs.Build.{AreNodes, terms_at, sorts_at, Builds}
use Rattle.term_text.specs.Head.{Span, span_of, fault_at, head_of}
use Rattle.term_text.specs.Reading.{Scope, and_then, sorts_in, word_read, headed, term_read, terms_read, later_read}
use Rattle.term_text.specs.Reading.{let_read, over, judged, operator_fault}
use Rattle.term_text.specs.Scope.{Names, terms_under, AreNamesIn, IsRead}
use Rattle.term_text.proofs.BuildLemmas.{term_at-kept, terms_at-kept, AreNodes-kept, Extends-longer}

-- ---- names over a table that grows

pub under-kept : (old new : Table) → Extends old new → (names : Names) → AreNamesIn old names
    → terms_under new names ≡ terms_under old names
under-kept old new h names all =
    by names (recursion_from_All (λ (e : List ℕ × TermId). e.1.0 < length old.nodes) names all)
  where
    by : (names : Names) → AllByRecursion (λ (e : List ℕ × TermId). e.1.0 < length old.nodes) names
        → terms_under new names ≡ terms_under old names
    by [] all = refl
    by (e ∷ names) all = ap (λ t. (e.0, t) ∷ terms_under new names) (term_at-kept old new h e.1 all.0)
        ∙ ap (λ es. (e.0, term_at old e.1) ∷ es) (by names all.1)

pub names-kept : (old new : Table) → Extends old new → (names : Names) → AreNamesIn old names
    → AreNamesIn new names
names-kept old new h names all =
    let longer = Extends-longer old new h in
    All-weaker (λ (e : List ℕ × TermId). e.1.0 < length old.nodes) (λ (e : List ℕ × TermId). e.1.0 < length new.nodes)
    (λ e lt. omega (arith, longer, lt)) names all

-- ---- trees of items

pub list_of-by : (f : ℕ → Tree) (items : List ℕ) → list_of (trees_by f items) ≡ map f items
list_of-by f [] = refl
list_of-by f (k ∷ items) = ap (λ ts. f k ∷ ts) (list_of-by f items)

abbrev pub trees_of : List Tree → Trees
trees_of [] = End
trees_of (t ∷ ts) = Then t (trees_of ts)

trees_of-list : (ts : Trees) → trees_of (list_of ts) ≡ ts
trees_of-list End = refl
trees_of-list (Then t ts) = ap (Then t) (trees_of-list ts)

trees_of-map : (f : ℕ → Tree) (items : List ℕ) → trees_of (map f items) ≡ trees_by f items
trees_of-map f [] = refl
trees_of-map f (k ∷ items) = ap (Then (f k)) (trees_of-map f items)

-- the members of a list are the trees of its items
pub members-are : (f : ℕ → Tree) (items : List ℕ) (ts : Trees) → list_of ts ≡ map f items → ts ≡ trees_by f items
members-are f items ts e = sym (trees_of-list ts) ∙ ap trees_of e ∙ trees_of-map f items

pub trees-next : (f : ℕ → Tree) (items : List ℕ) (i : ℕ) → i < length items
    → trees_by f (drop i items) ≡ Then (f (get_or items i 0)) (trees_by f (drop (i + 1) items))
trees-next f items i h =
    let e : drop i items ≡ get_or items i 0 ∷ drop (i + 1) items = rw (drop-cons items i 0, ← add-one) refl in
    ap (trees_by f) e

-- ---- a tree by its members

pub read-word : (p : ℕ) (scope : Scope) (tree : Tree) (word : List ℕ) → word_of tree ≡ Some word
    → term_read p scope tree ≡ word_read scope (span_of tree) word
read-word p scope (Word first bytes) word h =
    ap (word_read scope (first, first + length bytes)) (same_Some bytes word h)
read-word p scope (Branch from to members) word h = absurd (none-some word h)

pub read-nothing : (p : ℕ) (scope : Scope) (tree : Tree) → members_of tree ≡ Some []
    → term_read p scope tree ≡ Err (fault_at kind.Unknown (span_of tree))
read-nothing p scope (Word first bytes) h = absurd (none-some [] h)
read-nothing p scope (Branch from to End) h = refl
read-nothing p scope (Branch from to (Then t ts)) h = absurd (no-cons t (list_of ts) (same_Some (t ∷ list_of ts) [] h))
  where
    no-cons : (t : Tree) (ts : List Tree) → t ∷ ts ≡ [] → ⊥
    no-cons t ts e = cc

-- the parts of a list that is headed by a tree
abbrev pub list_read : ℕ → Scope → Span → Tree → List Tree → Trees → Result Term TermFault
list_read p scope span head rest trees =
    headed p span rest (head_of span head rest) (terms_read p scope trees) (later_read p scope trees)
    (let_read p scope span trees)

pub read-list : (p : ℕ) (scope : Scope) (tree : Tree) (f : ℕ → Tree) (head : ℕ) (rest : List ℕ)
    → members_of tree ≡ Some (map f (head ∷ rest))
    → term_read p scope tree ≡ list_read p scope (span_of tree) (f head) (map f rest) (trees_by f rest)
read-list p scope (Word first bytes) f head rest h = absurd (none-some (map f (head ∷ rest)) h)
read-list p scope (Branch from to members) f head rest h =
    let is = members-are f (head ∷ rest) members (same_Some (list_of members) (map f (head ∷ rest)) h) in
    ap (λ ts. term_read p scope (Branch from to ts)) is
    ∙ ap (λ ts. list_read p scope (from, to) (f head) ts (trees_by f rest)) (list_of-by f rest)

-- ---- the terms of arguments, one by one

-- the nodes of the first arguments, and how the terms of those that are left complete their terms
pub record HasTerms (p : ℕ) (scope : Scope) (all rest : Trees) (table : Table) (nodes : List TermId) : Type 0 where
  pub within : AreNodes table nodes
  pub whole : terms_read p scope all
      ≡ and_then (terms_read p scope rest) (λ ts. Ok (terms_at table nodes ++ ts))

and-then-ok : {A : Type 0} (r : Result A TermFault) → r ≡ and_then r (λ a. Ok a)
and-then-ok (Ok a) = refl
and-then-ok (Err e) = refl

pub terms_none : (p : ℕ) (scope : Scope) (all : Trees) (table : Table) → HasTerms p scope all all table []
terms_none p scope all table = record {
  within = All-nil (λ (at : TermId). at.0 < length table.nodes);
  whole = and-then-ok (terms_read p scope all);
}

cons-after : (before : List Term) (t : Term) (r : Result (List Term) TermFault)
    → and_then (and_then r (λ ts. Ok (t ∷ ts))) (λ ts. Ok (before ++ ts))
    ≡ and_then r (λ ts. Ok ((before ++ t ∷ []) ++ ts))
cons-after before t (Ok ts) = ap Ok (sym (append_assoc before (t ∷ []) ts))
cons-after before t (Err e) = refl

pub terms_more : (p : ℕ) (scope : Scope) (all rest later : Trees) (tree : Tree) (old new : Table)
    (nodes : List TermId) (at : TermId) → HasTerms p scope all rest old nodes → rest ≡ Then tree later
    → Extends old new → at.0 < length new.nodes → term_read p scope tree ≡ Ok (term_at new at)
    → HasTerms p scope all later new (nodes ++ at ∷ [])
terms_more p scope all rest later tree old new nodes at has next grown within read = record {
  within = All-push (λ (at : TermId). at.0 < length new.nodes) nodes at (AreNodes-kept old new grown nodes has.within)
      within;
  whole =
      has.whole
      ∙ ap (λ ts. and_then ts (λ ts. Ok (terms_at old nodes ++ ts)))
      (ap (terms_read p scope) next
      ∙ ap (λ r. and_then r (λ t. and_then (terms_read p scope later) (λ ts. Ok (t ∷ ts)))) read)
      ∙ cons-after (terms_at old nodes) (term_at new at) (terms_read p scope later)
      ∙ ap (λ before. and_then (terms_read p scope later) (λ ts. Ok (before ++ ts)))
      (ap (λ ts. ts ++ term_at new at ∷ []) (sym (terms_at-kept old new grown nodes has.within))
      ∙ sym (map-push (term_at new) nodes at));
}

pub terms_stop : (p : ℕ) (scope : Scope) (all rest later : Trees) (tree : Tree) (table : Table)
    (nodes : List TermId) (f : TermFault) → HasTerms p scope all rest table nodes → rest ≡ Then tree later
    → term_read p scope tree ≡ Err f → terms_read p scope all ≡ Err f
terms_stop p scope all rest later tree table nodes f has next read =
    has.whole
    ∙ ap (λ ts. and_then ts (λ ts. Ok (terms_at table nodes ++ ts)))
    (ap (terms_read p scope) next
    ∙ ap (λ r. and_then r (λ t. and_then (terms_read p scope later) (λ ts. Ok (t ∷ ts)))) read)

pub terms_all : (p : ℕ) (scope : Scope) (all rest : Trees) (table : Table) (nodes : List TermId)
    → HasTerms p scope all rest table nodes → rest ≡ End → terms_read p scope all ≡ Ok (terms_at table nodes)
terms_all p scope all rest table nodes has none =
    has.whole ∙ ap (λ ts. and_then (terms_read p scope ts) (λ ts. Ok (terms_at table nodes ++ ts))) none
    ∙ ap Ok (append-nothing (terms_at table nodes))

-- ---- an operator over the terms of arguments

sorts-are : (table : Table) (nodes : List TermId)
    → sorts_in table.pointer (terms_at table nodes) ≡ sorts_at table nodes
sorts-are table [] = refl
sorts-are table (at ∷ nodes) =
    ap (λ ss. unwrap_or (sort_of table.pointer (term_at table at)) sort.Bool ∷ ss) (sorts-are table nodes)

over-judged : (table : Table) (span : Span) (args : List Tree) (o : Operator) (nodes : List TermId)
    (judgement : Result Sort OperatorFault) → judge table.pointer o (sorts_at table nodes) ≡ judgement
    → over table.pointer span args o (terms_at table nodes)
    ≡ judged span args judgement (written o (sorts_at table nodes) (terms_at table nodes))
over-judged table span args o nodes judgement h =
    ap (λ ss. judged span args (judge table.pointer o ss) (written o ss (terms_at table nodes)))
    (sorts-are table nodes)
    ∙ ap (λ j. judged span args j (written o (sorts_at table nodes) (terms_at table nodes))) h

made-read : (old new : Table) (made : Result TermId AllocError) (result : Result TermId TermFault) (t : Term)
    (read : Result Term TermFault) → Builds old new made t
    → MatchResult made (λ at. ◌≡◌ {A = Result TermId TermFault} result (Ok at))
    (λ e. ◌≡◌ {A = Result TermId TermFault} result (Err (fault_at kind.NoMemory (0, 0))))
    → read ≡ Ok t → IsRead new read result
made-read old new (Ok at) result t read builds h e =
    subst (IsRead new read) (sym h) (builds.stands.within, e ∙ ap Ok (sym builds.stands.term))
made-read old new (Err f) result t read builds h e = subst (IsRead new read) (sym h) (inl refl)

pub over-made : (old new : Table) (span : Span) (args : List Tree) (o : Operator) (nodes : List TermId) (s : Sort)
    (made : Result TermId AllocError) (result : Result TermId TermFault)
    → Ok s ≡ judge old.pointer o (sorts_at old nodes)
    → Builds old new made (written o (sorts_at old nodes) (terms_at old nodes))
    → MatchResult made (λ at. ◌≡◌ {A = Result TermId TermFault} result (Ok at))
    (λ e. ◌≡◌ {A = Result TermId TermFault} result (Err (fault_at kind.NoMemory (0, 0))))
    → IsRead new (over old.pointer span args o (terms_at old nodes)) result
over-made old new span args o nodes s made result h builds m =
    made-read old new made result (written o (sorts_at old nodes) (terms_at old nodes))
    (over old.pointer span args o (terms_at old nodes)) builds m (over-judged old span args o nodes (Ok s) (sym h))

pub over-refused : (table : Table) (span : Span) (args : List Tree) (o : Operator) (nodes : List TermId)
    (f : OperatorFault) → Err f ≡ judge table.pointer o (sorts_at table nodes)
    → over table.pointer span args o (terms_at table nodes) ≡ Err (operator_fault span args f)
over-refused table span args o nodes f h = over-judged table span args o nodes (Err f) (sym h)

-- ---- what follows what was read

-- what fails where what comes first failed
pub failed-after : {A : Type 0} (read : Result Term TermFault) (before : Result A TermFault)
    (next : A → Result Term TermFault) (f : TermFault) → read ≡ and_then before next
    → (f.kind ≡ kind.NoMemory) ⊎ (before ≡ Err f) → (f.kind ≡ kind.NoMemory) ⊎ (read ≡ Err f)
failed-after read before next f whole (inl h) = inl h
failed-after read before next f whole (inr h) = inr (whole ∙ ap (λ r. and_then r next) h)
