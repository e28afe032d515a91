-- What the walk's loops keep.
use Rattle.std.proofs.Common.{◌≡◌, ℕ, ◌+◌, ◌<◌, ◌≤◌, List, [], ◌∷◌}
use Rattle.std.proofs.Common.{◌++◌, length, map, get_or, drop, take, refl, sym, ap}
use Rattle.std.proofs.Common.{IsSome, Bool, true, false, if◌then◌else◌, option_map}
use Rattle.std.proofs.lemmas.Bool.{false≢true}
use Rattle.list_lemmas.proofs.Options.{some-is}
use Rattle.sexp_read.specs.Words.{is_name}
use Rattle.std.proofs.Common.{◌∙◌, subst, Option, Some, Ok, Err, ◌⊎◌, inl, inr, None, Contains}
use Rattle.std.proofs.lemmas.List.{drop_all, take_more, length-map}
use Rattle.std.proofs.lemmas.Option.{same_Some}
use Rattle.std.proofs.Math.ListN.{get_or-map}
use Rattle.bv_terms.specs.declared.op.TermId.{TermId}
use Rattle.bv_terms.specs.Table.{Table, Extends}
use Rattle.sexp_read.specs.Tree.{Tree, Trees, End}
use Rattle.sexp_read.specs.Forest.{trees_by}
use Rattle.term_text.specs.declared.fault.TermFault.{TermFault}
use Rattle.term_text.specs.declared.fault.TermKind.TheVariants as kind
use Rattle.term_text.specs.declared.scope.Scope as declared
use Rattle.term_text.specs.Build.{terms_at}
use Rattle.term_text.specs.Head.{Span}
use Rattle.term_text.specs.Reading.{Scope, term_read, terms_read, bindings_read, let_fault}
use Rattle.term_text.specs.Scope.{Names, terms_under, AreNamesIn, AreIn, scope_of, names_of, KeepsNames, IsRead}
use Rattle.term_text.proofs.ScopeLemmas.{names_of-kept}
use Rattle.term_text.proofs.TermSteps.{HasTerms, terms_more, terms_stop, terms_all, trees-next, under-kept, names-kept}
use Rattle.term_text.proofs.BindingSteps.{HasBound, bound_more, bound_stop, bound_all, bound_new, IsFit, fit-at}
use Rattle.term_text.proofs.BindingSteps.{bound_pair, names_in}

-- ---- the names in scope over a longer table

pub scope-same : (old new : Table) (s s' : declared.Scope) → Extends old new → KeepsNames s s' → AreIn old s
    → scope_of new s' ≡ scope_of old s
scope-same old new s s' h k all =
    ap (terms_under new) (names_of-kept s s' k) ∙ under-kept old new h (names_of s) all

pub in-same : (old new : Table) (s s' : declared.Scope) → Extends old new → KeepsNames s s' → AreIn old s
    → AreIn new s'
in-same old new s s' h k all =
    subst (AreNamesIn new) (sym (names_of-kept s s' k)) (names-kept old new h (names_of s) all)

-- what is read over the longer table is what is read over the old one
pub read-same : (old new : Table) (s s' : declared.Scope) (tree : Tree) → Extends old new → KeepsNames s s'
    → AreIn old s
    → term_read old.pointer (scope_of old s) tree ≡ term_read new.pointer (scope_of new s') tree
read-same old new s s' tree h k all =
    λ i. term_read (sym h.pointer i) (sym (scope-same old new s s' h k all) i) tree

-- ---- the terms of items

pub terms-next : (old mid new : Table) (s s' : declared.Scope) (f : ℕ → Tree) (items : List ℕ) (i : ℕ)
    (nodes : List TermId) (at : TermId) (all : Trees) → i < length items → Extends old mid → KeepsNames s s'
    → AreIn old s → HasTerms old.pointer (scope_of old s) all (trees_by f (drop i items)) mid nodes
    → Extends mid new → IsRead new (term_read mid.pointer (scope_of mid s') (f (get_or items i 0))) (Ok at)
    → HasTerms old.pointer (scope_of old s) all (trees_by f (drop (i + 1) items)) new (nodes ++ at ∷ [])
terms-next old mid new s s' f items i nodes at all lt h k names has g read =
    terms_more old.pointer (scope_of old s) all (trees_by f (drop i items)) (trees_by f (drop (i + 1) items))
    (f (get_or items i 0)) mid new nodes at has (trees-next f items i lt) g read.0
    (read-same old mid s s' (f (get_or items i 0)) h k names ∙ read.1)

pub terms-stop : (old mid new : Table) (s s' : declared.Scope) (f : ℕ → Tree) (items : List ℕ) (i : ℕ)
    (nodes : List TermId) (fault : TermFault) (all : Trees) → i < length items → Extends old mid → KeepsNames s s'
    → AreIn old s → HasTerms old.pointer (scope_of old s) all (trees_by f (drop i items)) mid nodes
    → IsRead new (term_read mid.pointer (scope_of mid s') (f (get_or items i 0))) (Err fault)
    → (fault.kind ≡ kind.NoMemory) ⊎ (terms_read old.pointer (scope_of old s) all ≡ Err fault)
terms-stop old mid new s s' f items i nodes fault all lt h k names has (inl e) = inl e
terms-stop old mid new s s' f items i nodes fault all lt h k names has (inr e) =
    inr (terms_stop old.pointer (scope_of old s) all (trees_by f (drop i items)) (trees_by f (drop (i + 1) items))
    (f (get_or items i 0)) mid nodes fault has (trees-next f items i lt)
    (read-same old mid s s' (f (get_or items i 0)) h k names ∙ e))

nothing-left : (f : ℕ → Tree) (items : List ℕ) (i : ℕ) → length items ≤ i → trees_by f (drop i items) ≡ End
nothing-left f items i h = ap (trees_by f) (drop_all i items h)

pub terms-done : (p : ℕ) (scope : Scope) (f : ℕ → Tree) (items : List ℕ) (i : ℕ) (table : Table)
    (nodes : List TermId) (all : Trees) → length items ≤ i
    → HasTerms p scope all (trees_by f (drop i items)) table nodes
    → terms_read p scope all ≡ Ok (terms_at table nodes)
terms-done p scope f items i table nodes all h has =
    terms_all p scope all (trees_by f (drop i items)) table nodes has (nothing-left f items i h)

-- ---- the terms of bindings

-- the binding at a place
pub fit-item : (span : Span) (f : ℕ → Tree) (items : List ℕ) (i : ℕ) → let_fault span (map f items) ≡ None
    → i < length items → IsFit (f (get_or items i 0))
fit-item span f items i h lt =
    subst IsFit (get_or-map f items i 0)
    (fit-at span (map f items) h i (f 0) (subst (λ n. i < n) (sym (length-map items f)) lt))

first-same : {A B : Type 0} (a a' : A) (b b' : B) → ◌≡◌ {A = Option (A × B)} (Some (a, b)) (Some (a', b')) → a ≡ a'
first-same a a' b b' h = ap (λ pair. pair.0) (same_Some (a, b) (a', b') h)

second-same : {A B : Type 0} (a a' : A) (b b' : B) → ◌≡◌ {A = Option (A × B)} (Some (a, b)) (Some (a', b'))
    → b ≡ b'
second-same a a' b b' h = ap (λ pair. pair.1) (same_Some (a, b) (a', b') h)

front-more : (f : ℕ → Tree) (items : List ℕ) (i : ℕ) → i < length items
    → take (i + 1) (map f items) ≡ take i (map f items) ++ f (get_or items i 0) ∷ []
front-more f items i lt =
    take_more (map f items) i (f 0) (subst (λ n. i < n) (sym (length-map items f)) lt)
    ∙ ap (λ t. take i (map f items) ++ t ∷ []) (get_or-map f items i 0)

pub bound-next : (old mid new : Table) (s s' : declared.Scope) (span : Span) (f : ℕ → Tree) (items : List ℕ) (i : ℕ)
    (names : Names) (word : List ℕ) (item : ℕ) (at : TermId) (all : Trees) → i < length items → Extends old mid
    → KeepsNames s s' → AreIn old s → let_fault span (map f items) ≡ None
    → Some (word, f item) ≡ bound_pair (f (get_or items i 0))
    → HasBound old.pointer (scope_of old s) all (trees_by f (drop i items)) (take i (map f items)) mid names
    → Extends mid new → IsRead new (term_read mid.pointer (scope_of mid s') (f item)) (Ok at)
    → HasBound old.pointer (scope_of old s) all (trees_by f (drop (i + 1) items)) (take (i + 1) (map f items)) new
    (names ++ (word, at) ∷ [])
bound-next old mid new s s' span f items i names word item at all lt h k inside ok pair has g read =
    let fit = fit-item span f items i ok lt in
    let tree_is : fit.tree ≡ f item =
    sym (second-same word fit.word (f item) fit.tree (pair ∙ fit.pair)) in
    let word_is : fit.word ≡ word = sym (first-same word fit.word (f item) fit.tree (pair ∙ fit.pair)) in
    let more =
    bound_more old.pointer (scope_of old s) all (trees_by f (drop i items)) (trees_by f (drop (i + 1) items))
    (take i (map f items)) (f (get_or items i 0)) mid new names at fit has (trees-next f items i lt) g read.0
    (ap (term_read old.pointer (scope_of old s)) tree_is ∙ read-same old mid s s' (f item) h k inside ∙ read.1) in
    subst (λ done. HasBound old.pointer (scope_of old s) all (trees_by f (drop (i + 1) items)) done new
    (names ++ (word, at) ∷ [])) (sym (front-more f items i lt))
    (subst (λ w. HasBound old.pointer (scope_of old s) all (trees_by f (drop (i + 1) items))
    (take i (map f items) ++ f (get_or items i 0) ∷ []) new (names ++ (w, at) ∷ [])) word_is more)

pub bound-stop : (old mid new : Table) (s s' : declared.Scope) (span : Span) (f : ℕ → Tree) (items : List ℕ) (i : ℕ)
    (names : Names) (word : List ℕ) (item : ℕ) (fault : TermFault) (all : Trees) → i < length items → Extends old mid
    → KeepsNames s s' → AreIn old s → let_fault span (map f items) ≡ None
    → Some (word, f item) ≡ bound_pair (f (get_or items i 0))
    → HasBound old.pointer (scope_of old s) all (trees_by f (drop i items)) (take i (map f items)) mid names
    → IsRead new (term_read mid.pointer (scope_of mid s') (f item)) (Err fault)
    → (fault.kind ≡ kind.NoMemory) ⊎ (bindings_read old.pointer (scope_of old s) all ≡ Err fault)
bound-stop old mid new s s' span f items i names word item fault all lt h k inside ok pair has (inl e) = inl e
bound-stop old mid new s s' span f items i names word item fault all lt h k inside ok pair has (inr e) =
    let fit = fit-item span f items i ok lt in
    let tree_is : fit.tree ≡ f item =
    sym (second-same word fit.word (f item) fit.tree (pair ∙ fit.pair)) in
    inr (bound_stop old.pointer (scope_of old s) all (trees_by f (drop i items)) (trees_by f (drop (i + 1) items))
    (take i (map f items)) (f (get_or items i 0)) mid names fault fit has (trees-next f items i lt)
    (ap (term_read old.pointer (scope_of old s)) tree_is ∙ read-same old mid s s' (f item) h k inside ∙ e))

pub bound-done : (p : ℕ) (scope : Scope) (f : ℕ → Tree) (items : List ℕ) (i : ℕ) (done : List Tree) (table : Table)
    (names : Names) (all : Trees) → length items ≤ i
    → HasBound p scope all (trees_by f (drop i items)) done table names
    → bindings_read p scope all ≡ Ok (terms_under table names)
bound-done p scope f items i done table names all h has =
    bound_all p scope all (trees_by f (drop i items)) done table names has (nothing-left f items i h)

pub bound-new : (p : ℕ) (scope : Scope) (span : Span) (f : ℕ → Tree) (items : List ℕ) (i : ℕ) (table : Table)
    (names : Names) (word : List ℕ) (item : ℕ) (all rest : Trees) → i < length items
    → let_fault span (map f items) ≡ None → Some (word, f item) ≡ bound_pair (f (get_or items i 0))
    → HasBound p scope all rest (take i (map f items)) table names → Contains (names_in names) word → ⊥
bound-new p scope span f items i table names word item all rest lt ok pair has there =
    let lt' = subst (λ n. i < n) (sym (length-map items f)) lt in
    let fit = fit-at span (map f items) ok i (f 0) lt' in
    let same : Some (word, f item) ≡ Some (fit.word, fit.tree) =
    pair ∙ ap bound_pair (sym (get_or-map f items i 0)) ∙ fit.pair in
    let word_is : word ≡ fit.word = first-same word fit.word (f item) fit.tree same in
    bound_new p scope all rest span (map f items) i (f 0) table names fit ok lt' has
    (subst (Contains (names_in names)) word_is there)

-- ---- what there is at a place

pub mapped-some : {X Y : Type 0} (g : X → Y) (o : Option X) → IsSome (option_map g o) → IsSome o
mapped-some g None h = h
mapped-some g (Some x) h = some-is (Some x) x refl

pub pair-there : (span : Span) (f : ℕ → Tree) (items : List ℕ) (i : ℕ) → let_fault span (map f items) ≡ None
    → i < length items → IsSome (bound_pair (f (get_or items i 0)))
pair-there span f items i ok lt =
    let fit = fit-item span f items i ok lt in
    some-is (bound_pair (f (get_or items i 0))) (fit.word, fit.tree) fit.pair

pub word-is-name : (span : Span) (f : ℕ → Tree) (items : List ℕ) (i : ℕ) (word : List ℕ) (item : ℕ)
    → let_fault span (map f items) ≡ None → i < length items
    → Some (word, f item) ≡ bound_pair (f (get_or items i 0)) → is_name word ≡ true
word-is-name span f items i word item ok lt pair =
    let fit = fit-item span f items i ok lt in
    subst (λ w. is_name w ≡ true) (sym (first-same word fit.word (f item) fit.tree (pair ∙ fit.pair))) fit.name

pub name-there : (b : Bool) (word : List ℕ) → b ≡ true
    → IsSome (if◌then◌else◌ {A = Option (List ℕ)} b (Some word) None)
name-there true word h = some-is (Some word) word refl
name-there false word h = absurd (false≢true h)
