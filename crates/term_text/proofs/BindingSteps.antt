-- The bindings of a `let`, one by one.
use Rattle.std.proofs.Common.{◌≡◌, ℕ, zero, suc, ◌<◌, List, []}
use Rattle.std.proofs.Common.{◌∷◌, ◌++◌, length, map, get_or, take, refl, sym, ap}
use Rattle.std.proofs.Common.{◌∙◌, Option, Some, None, unwrap_or, option_map, option_and_then, is_some, Result, Ok, Err}
use Rattle.std.proofs.Common.{Bool, true, false, ◌&&◌, if◌then◌else◌, Contains, subst, arith, append_assoc}
use Rattle.std.proofs.Common.{nat_lt, not, ◌⊎◌, inl, inr}
use Rattle.std.proofs.Math.ListN.{get_or-map}
use Rattle.std.proofs.lemmas.List.{take-map}
use Rattle.std.specs.Option.{option_or}
use Rattle.std.specs.List.{list_all, list_any}
use Rattle.std.specs.Str.{bytes_eq}
use Rattle.std.proofs.lemmas.Bool.{false≢true, and_parts}
use Rattle.std.proofs.lemmas.List.{length-map}
use Rattle.std.proofs.lemmas.List.Elements.{All-nil, All-push}
use Rattle.std.proofs.lemmas.Option.{none-some}
use Rattle.list_lemmas.proofs.Lists.{map-push, append-nothing}
use Rattle.list_lemmas.proofs.Lookups.{not-any, Contains-cases}
use Rattle.bv_terms.specs.declared.op.TermId.{TermId}
use Rattle.bv_terms.specs.Term.{Term}
use Rattle.bv_terms.specs.Table.{Table, term_at, Extends}
use Rattle.sexp_read.specs.Words.{is_name}
use Rattle.sexp_read.specs.Tree.{Tree, Trees, Word, Branch, End, Then, word_of}
use Rattle.term_text.specs.declared.fault.TermFault.{TermFault}
use Rattle.term_text.specs.declared.fault.TermKind.TheVariants as kind
use Rattle.term_text.specs.Head.{Span, fault_at, span_of}
use Rattle.term_text.specs.Reading.{Scope, and_then, pair_of, bound_word, word_fault, names_fault, differ, let_fault}
use Rattle.term_text.specs.Reading.{term_read, bindings_read}
use Rattle.term_text.specs.Scope.{Names, terms_under, AreNamesIn}
use Rattle.term_text.proofs.TermSteps.{under-kept, names-kept}

-- ---- bindings of the form, of which no two bind the same name

abbrev pub bound_pair : Tree → Option (List ℕ × Tree)
bound_pair binding =
    option_and_then (λ (pair : Tree × Tree). option_map (λ word. (word, pair.1)) (word_of pair.0)) (pair_of binding)

abbrev pub bound_name : Tree → List ℕ
bound_name binding = unwrap_or (bound_word binding) []

-- a binding, by its name and its tree
pub record IsFit (binding : Tree) : Type 0 where
  pub word : List ℕ
  pub tree : Tree
  pub pair : bound_pair binding ≡ Some (word, tree)
  pub name : is_name word ≡ true
  pub bound : bound_name binding ≡ word
  pub step : (p : ℕ) (scope : Scope) (later : Trees)
      → bindings_read p scope (Then binding later)
      ≡ and_then (term_read p scope tree)
      (λ t. and_then (bindings_read p scope later) (λ bound. Ok ((word, t) ∷ bound)))

name-where : (b : Bool) (f : TermFault) → ◌≡◌ {A = Option TermFault} (if b then None else Some f) None → b ≡ true
name-where true f h = refl
name-where false f h = absurd (none-some f (sym h))

first-fit : (binding : Tree) → is_some (bound_word binding) ≡ true → word_fault (pair_of binding) ≡ None
    → IsFit binding
first-fit (Word first bytes) h k = absurd (false≢true h)
first-fit (Branch from to End) h k = absurd (false≢true h)
first-fit (Branch from to (Then a End)) h k = absurd (false≢true h)
first-fit (Branch from to (Then (Word first word) (Then tree End))) h k = record {
  word = word;
  tree = tree;
  pair = refl;
  name = name-where (is_name word) (fault_at kind.Unknown (span_of (Word first word))) k;
  bound = refl;
  step = λ p scope later. refl;
}
first-fit (Branch from to (Then (Branch a b c) (Then tree End))) h k = absurd (false≢true h)
first-fit (Branch from to (Then a (Then b (Then c trees)))) h k = absurd (false≢true h)

let-parts : (span : Span) (bindings : List Tree) → let_fault span bindings ≡ None
    → (list_all (λ b. is_some (bound_word b)) bindings ≡ true) × (names_fault bindings ≡ None)
    × (differ (map bound_name bindings) ≡ true)
let-parts span bindings h =
    by (nat_lt 0 (length bindings)) (list_all (λ b. is_some (bound_word b)) bindings)
    (names_fault bindings) (differ (map bound_name bindings)) h
  where
    by : (a b : Bool) (n : Option TermFault) (d : Bool)
        → (if a && b then option_or n (if d then None else Some (fault_at kind.Arity span))
        else Some (fault_at kind.Arity span)) ≡ None
        → (b ≡ true) × (n ≡ None) × (d ≡ true)
    by true true None true h = (refl, refl, refl)
    by true true None false h = absurd (none-some (fault_at kind.Arity span) (sym h))
    by true true (Some f) d h = absurd (none-some f (sym h))
    by true false n d h = absurd (none-some (fault_at kind.Arity span) (sym h))
    by false b n d h = absurd (none-some (fault_at kind.Arity span) (sym h))

or-none : (a b : Option TermFault) → option_or a b ≡ None → (a ≡ None) × (b ≡ None)
or-none None b h = (refl, h)
or-none (Some f) b h = absurd (none-some f (sym h))

fit-by : (bindings : List Tree) → list_all (λ b. is_some (bound_word b)) bindings ≡ true
    → names_fault bindings ≡ None → (i : ℕ) (d : Tree) → i < length bindings → IsFit (get_or bindings i d)
fit-by [] all none i d h = absurd (omega arith)
fit-by (b ∷ bindings) all none zero d h =
    first-fit b (and_parts (is_some (bound_word b)) (list_all (λ b. is_some (bound_word b)) bindings) all).0
    (or-none (word_fault (pair_of b)) (names_fault bindings) none).0
fit-by (b ∷ bindings) all none (suc i) d h =
    fit-by bindings (and_parts (is_some (bound_word b)) (list_all (λ b. is_some (bound_word b)) bindings) all).1
    (or-none (word_fault (pair_of b)) (names_fault bindings) none).1 i d (omega arith)

pub fit-at : (span : Span) (bindings : List Tree) → let_fault span bindings ≡ None → (i : ℕ) (d : Tree)
    → i < length bindings → IsFit (get_or bindings i d)
fit-at span bindings h i d lt =
    let parts = let-parts span bindings h in
    fit-by bindings parts.0 parts.1 i d lt

-- ---- names that differ

not-there : {A : Type 0} (x : A) → Contains [] x → ⊥
not-there x h = absurd (omega (arith, h.1))

not-two : (x y : List ℕ) (xs : List (List ℕ)) → not (list_any (bytes_eq x) xs) ≡ true → Contains xs y → x ≡ y → ⊥
not-two x y xs h has e = not-any x xs h (subst (Contains xs) (sym e) has)

at-contains : (xs : List (List ℕ)) (i : ℕ) (d : List ℕ) → i < length xs → Contains xs (get_or xs i d)
at-contains xs i d h = (i, h, get_or-any xs i d (get_or xs i d) h)
  where
    get_or-any : (xs : List (List ℕ)) (i : ℕ) (d e : List ℕ) → i < length xs → get_or xs i e ≡ get_or xs i d
    get_or-any [] i d e h = absurd (omega arith)
    get_or-any (x ∷ xs) zero d e h = refl
    get_or-any (x ∷ xs) (suc i) d e h = get_or-any xs i d e (omega arith)

differ-at : (xs : List (List ℕ)) (i : ℕ) (d : List ℕ) → i < length xs → differ xs ≡ true
    → Contains (take i xs) (get_or xs i d) → ⊥
differ-at [] i d lt h has = absurd (omega arith)
differ-at (x ∷ xs) zero d lt h has = not-there x has
differ-at (x ∷ xs) (suc i) d lt h has =
    let parts = and_parts (not (list_any (bytes_eq x) xs)) (differ xs) h in
    by (Contains-cases x (get_or xs i d) (take i xs) has)
    (not-two x (get_or xs i d) xs parts.0 (at-contains xs i d (omega arith)))
    (differ-at xs i d (omega arith) parts.1)
  where
    by : {A B : Type 0} → A ⊎ B → (A → ⊥) → (B → ⊥) → ⊥
    by (inl a) f g = f a
    by (inr b) f g = g b

-- ---- the terms of bindings, one by one

abbrev pub names_in : Names → List (List ℕ)
names_in names = map (λ e. e.0) names

-- the names of the first bindings with the nodes of their terms, and how those that are left complete them
pub record HasBound (p : ℕ) (scope : Scope) (all rest : Trees) (done : List Tree) (table : Table) (names : Names)
    : Type 0 where
  pub within : AreNamesIn table names
  pub words : names_in names ≡ map bound_name done
  pub whole : bindings_read p scope all
      ≡ and_then (bindings_read p scope rest) (λ bound. Ok (terms_under table names ++ bound))

and-then-ok : {A : Type 0} (r : Result A TermFault) → r ≡ and_then r (λ a. Ok a)
and-then-ok (Ok a) = refl
and-then-ok (Err e) = refl

pub bound_none : (p : ℕ) (scope : Scope) (all : Trees) (table : Table) → HasBound p scope all all [] table []
bound_none p scope all table = record {
  within = All-nil (λ (e : List ℕ × TermId). e.1.0 < length table.nodes);
  words = refl;
  whole = and-then-ok (bindings_read p scope all);
}

cons-after : (before : Scope) (e : List ℕ × Term) (r : Result Scope TermFault)
    → and_then (and_then r (λ bound. Ok (e ∷ bound))) (λ bound. Ok (before ++ bound))
    ≡ and_then r (λ bound. Ok ((before ++ e ∷ []) ++ bound))
cons-after before e (Ok bound) = ap Ok (sym (append_assoc before (e ∷ []) bound))
cons-after before e (Err f) = refl

pub bound_more : (p : ℕ) (scope : Scope) (all rest later : Trees) (done : List Tree) (binding : Tree)
    (old new : Table) (names : Names) (at : TermId) (fit : IsFit binding)
    → HasBound p scope all rest done old names → rest ≡ Then binding later
    → Extends old new → at.0 < length new.nodes → term_read p scope fit.tree ≡ Ok (term_at new at)
    → HasBound p scope all later (done ++ binding ∷ []) new (names ++ (fit.word, at) ∷ [])
bound_more p scope all rest later done binding old new names at fit has next grown within read = record {
  within = All-push (λ (e : List ℕ × TermId). e.1.0 < length new.nodes) names (fit.word, at)
      (names-kept old new grown names has.within) within;
  words =
      map-push (λ (e : List ℕ × TermId). e.0) names (fit.word, at)
      ∙ ap (λ ws. ws ++ fit.word ∷ []) has.words
      ∙ ap (λ w. map bound_name done ++ w ∷ []) (sym fit.bound)
      ∙ sym (map-push bound_name done binding);
  whole =
      has.whole
      ∙ ap (λ bound. and_then bound (λ bound. Ok (terms_under old names ++ bound)))
      (ap (bindings_read p scope) next ∙ fit.step p scope later
      ∙ ap (λ r. and_then r (λ t. and_then (bindings_read p scope later) (λ bound. Ok ((fit.word, t) ∷ bound)))) read)
      ∙ cons-after (terms_under old names) (fit.word, term_at new at) (bindings_read p scope later)
      ∙ ap (λ before. and_then (bindings_read p scope later) (λ bound. Ok (before ++ bound)))
      (ap (λ es. es ++ (fit.word, term_at new at) ∷ []) (sym (under-kept old new grown names has.within))
      ∙ sym (map-push (λ (e : List ℕ × TermId). (e.0, term_at new e.1)) names (fit.word, at)));
}

pub bound_stop : (p : ℕ) (scope : Scope) (all rest later : Trees) (done : List Tree) (binding : Tree)
    (table : Table) (names : Names) (f : TermFault) (fit : IsFit binding)
    → HasBound p scope all rest done table names → rest ≡ Then binding later
    → term_read p scope fit.tree ≡ Err f → bindings_read p scope all ≡ Err f
bound_stop p scope all rest later done binding table names f fit has next read =
    has.whole
    ∙ ap (λ bound. and_then bound (λ bound. Ok (terms_under table names ++ bound)))
    (ap (bindings_read p scope) next ∙ fit.step p scope later
    ∙ ap (λ r. and_then r (λ t. and_then (bindings_read p scope later) (λ bound. Ok ((fit.word, t) ∷ bound)))) read)

pub bound_all : (p : ℕ) (scope : Scope) (all rest : Trees) (done : List Tree) (table : Table) (names : Names)
    → HasBound p scope all rest done table names → rest ≡ End
    → bindings_read p scope all ≡ Ok (terms_under table names)
bound_all p scope all rest done table names has none =
    has.whole ∙ ap (λ bs. and_then (bindings_read p scope bs) (λ bound. Ok (terms_under table names ++ bound))) none
    ∙ ap Ok (append-nothing (terms_under table names))

-- the next name is not there
pub bound_new : (p : ℕ) (scope : Scope) (all rest : Trees) (span : Span) (bindings : List Tree) (i : ℕ) (d : Tree)
    (table : Table) (names : Names) (fit : IsFit (get_or bindings i d)) → let_fault span bindings ≡ None
    → i < length bindings → HasBound p scope all rest (take i bindings) table names
    → Contains (names_in names) fit.word → ⊥
bound_new p scope all rest span bindings i d table names fit h lt has there =
    let words = map bound_name bindings in
    let here : get_or words i (bound_name d) ≡ fit.word = get_or-map bound_name bindings i d ∙ fit.bound in
    let front : names_in names ≡ take i words = has.words ∙ sym (take-map bound_name i bindings) in
    differ-at words i (bound_name d) (subst (λ n. i < n) (sym (length-map bindings bound_name)) lt)
    (let-parts span bindings h).2
    (subst (Contains (take i words)) (sym here) (subst (λ ws. Contains ws fit.word) front there))
