-- A `let` and a list, by their parts.
use Rattle.std.proofs.Common.{◌≡◌, ℕ, List, [], ◌∷◌, ◌++◌, length, map, refl, sym, ap, ◌∙◌, Some, None, Result}
use Rattle.std.proofs.Common.{All, subst, Err, ◌≤◌, arith, get_or, drop}
use Rattle.std.proofs.Common.{take, ◌-◌}
use Rattle.std.proofs.lemmas.List.{length-map, take_all, length-drop}
use Rattle.std.proofs.lemmas.List.Elements.{All-drop}
use Rattle.std.proofs.lemmas.Option.{none-some, same_Some}
use Rattle.sexp_read.specs.Tree.{Tree, Trees, Word, Branch, End, Then, members_of, list_of}
use Rattle.sexp_read.specs.Forest.{trees_by}
use Rattle.term_text.specs.declared.fault.TermFault.{TermFault}
use Rattle.term_text.specs.declared.fault.TermKind.TheVariants as kind
use Rattle.term_text.specs.declared.head.Head.{Head}
use Rattle.term_text.specs.Head.{Span, span_of, fault_at, head_of}
use Rattle.term_text.specs.Reading.{Scope, and_then, unless, let_fault, let_read, term_read}
use Rattle.term_text.specs.Reading.{bindings_read, headed, terms_read, later_read, two_of}
use Rattle.term_text.proofs.TermSteps.{members-are, list_of-by, list_read, read-list}

-- ---- a `let` by its parts

pub let-other : (p : ℕ) (scope : Scope) (span : Span) (ts : Trees) → (length (list_of ts) ≡ 2 → ⊥)
    → let_read p scope span ts ≡ Err (fault_at kind.Arity span)
let-other p scope span End h = refl
let-other p scope span (Then (Word first word) ts) h = refl
let-other p scope span (Then (Branch from to members) End) h = refl
let-other p scope span (Then (Branch from to members) (Then body End)) h = absurd (h refl)
let-other p scope span (Then (Branch from to members) (Then body (Then t ts))) h = refl

pub let-word : (p : ℕ) (scope : Scope) (span : Span) (b body : Tree) → members_of b ≡ None
    → let_read p scope span (Then b (Then body End)) ≡ Err (fault_at kind.Arity span)
let-word p scope span (Word first word) body h = refl
let-word p scope span (Branch from to members) body h = absurd (none-some (list_of members) (sym h))

pub let-refused : (p : ℕ) (scope : Scope) (span : Span) (b body : Tree) (bindings : List Tree) (f : TermFault)
    → members_of b ≡ Some bindings → let_fault span bindings ≡ Some f
    → let_read p scope span (Then b (Then body End)) ≡ Err f
let-refused p scope span (Word first word) body bindings f h k = absurd (none-some bindings h)
let-refused p scope span (Branch from to members) body bindings f h k =
    ap (λ o. unless o (and_then (bindings_read p scope members) (λ bound. term_read p (bound ++ scope) body)))
    (ap (let_fault span) (same_Some (list_of members) bindings h) ∙ k)

pub let-bound : (p : ℕ) (scope : Scope) (span : Span) (b body : Tree) (f : ℕ → Tree) (items : List ℕ)
    → members_of b ≡ Some (map f items) → let_fault span (map f items) ≡ None
    → let_read p scope span (Then b (Then body End))
    ≡ and_then (bindings_read p scope (trees_by f items)) (λ bound. term_read p (bound ++ scope) body)
let-bound p scope span (Word first word) body f items h k = absurd (none-some (map f items) h)
let-bound p scope span (Branch from to members) body f items h k =
    let same = same_Some (list_of members) (map f items) h in
    ap (λ o. unless o (and_then (bindings_read p scope members) (λ bound. term_read p (bound ++ scope) body)))
    (ap (let_fault span) same ∙ k)
    ∙ ap (λ ts. and_then (bindings_read p scope ts) (λ bound. term_read p (bound ++ scope) body))
    (members-are f items members same)

pub let-items-other : (p : ℕ) (scope : Scope) (span : Span) (f : ℕ → Tree) (items : List ℕ)
    → (length items ≡ 2 → ⊥) → let_read p scope span (trees_by f items) ≡ Err (fault_at kind.Arity span)
let-items-other p scope span f items h =
    let-other p scope span (trees_by f items)
    (λ e. h (sym (length-map items f) ∙ ap length (sym (list_of-by f items)) ∙ e))

-- a list by its members, as the trees of items
pub read-items : (p : ℕ) (scope : Scope) (tree : Tree) (f : ℕ → Tree) (items : List ℕ) → 1 ≤ length items
    → members_of tree ≡ Some (map f items)
    → term_read p scope tree
    ≡ list_read p scope (span_of tree) (f (get_or items 0 0)) (map f (drop 1 items)) (trees_by f (drop 1 items))
read-items p scope tree f [] h e = absurd (omega arith)
read-items p scope tree f (head ∷ rest) h e = read-list p scope tree f head rest e

-- a list by its head
pub headed-by : (p : ℕ) (scope : Scope) (tree : Tree) (f : ℕ → Tree) (items : List ℕ) (span : Span)
    (head : Result Head TermFault) → 1 ≤ length items → members_of tree ≡ Some (map f items) → span ≡ span_of tree
    → head ≡ head_of span (f (get_or items 0 0)) (map f (drop 1 items))
    → term_read p scope tree
    ≡ headed p (span_of tree) (map f (drop 1 items)) head (terms_read p scope (trees_by f (drop 1 items)))
    (later_read p scope (trees_by f (drop 1 items))) (let_read p scope (span_of tree) (trees_by f (drop 1 items)))
headed-by p scope tree f items span head some members here is =
    read-items p scope tree f items some members
    ∙ ap (λ head. headed p (span_of tree) (map f (drop 1 items)) head (terms_read p scope (trees_by f (drop 1 items)))
    (later_read p scope (trees_by f (drop 1 items))) (let_read p scope (span_of tree) (trees_by f (drop 1 items))))
    (ap (λ s. head_of s (f (get_or items 0 0)) (map f (drop 1 items))) (sym here) ∙ sym is)

-- ---- two items

pub two-are : (items : List ℕ) (a b : ℕ) → Some (a, b) ≡ two_of items → items ≡ a ∷ b ∷ []
two-are [] a b h = absurd (none-some (a, b) (sym h))
two-are (c ∷ []) a b h = absurd (none-some (a, b) (sym h))
two-are (c ∷ d ∷ []) a b h =
    let e = same_Some (a, b) (c, d) h in
    λ i. (sym e i).0 ∷ (sym e i).1 ∷ []
two-are (c ∷ d ∷ e ∷ items) a b h = absurd (none-some (a, b) (sym h))

pub not-two : (items : List ℕ) → None ≡ two_of items → length items ≡ 2 → ⊥
not-two [] h e = absurd (omega (arith, e))
not-two (c ∷ []) h e = absurd (omega (arith, e))
not-two (c ∷ d ∷ []) h e = none-some (c, d) h
not-two (c ∷ d ∷ k ∷ items) h e = absurd (omega (arith, e))

pub later-two : (P : ℕ → Type 0) (items : List ℕ) (a b : ℕ) → Some (a, b) ≡ two_of items → All P items → P a × P b
later-two P items a b h all =
    let e = two-are items a b h in
    let both : All P (a ∷ b ∷ []) = subst (All P) e all in
    (both 0 0 (omega arith), both 1 0 (omega arith))

pub let-two-refused : (p : ℕ) (scope : Scope) (span : Span) (f : ℕ → Tree) (items bindings : List ℕ) (a b : ℕ)
    (fault : TermFault) → Some (a, b) ≡ two_of items → Some (map f bindings) ≡ members_of (f a)
    → let_fault span (map f bindings) ≡ Some fault → let_read p scope span (trees_by f items) ≡ Err fault
let-two-refused p scope span f items bindings a b fault two h k =
    ap (λ items. let_read p scope span (trees_by f items)) (two-are items a b two)
    ∙ let-refused p scope span (f a) (f b) (map f bindings) fault (sym h) k

pub let-two-word : (p : ℕ) (scope : Scope) (span : Span) (f : ℕ → Tree) (items : List ℕ) (a b : ℕ)
    → Some (a, b) ≡ two_of items → None ≡ members_of (f a)
    → let_read p scope span (trees_by f items) ≡ Err (fault_at kind.Arity span)
let-two-word p scope span f items a b two h =
    ap (λ items. let_read p scope span (trees_by f items)) (two-are items a b two)
    ∙ let-word p scope span (f a) (f b) (sym h)

pub let-two-bound : (p : ℕ) (scope : Scope) (span : Span) (f : ℕ → Tree) (items bindings : List ℕ) (a b : ℕ)
    → Some (a, b) ≡ two_of items → Some (map f bindings) ≡ members_of (f a) → let_fault span (map f bindings) ≡ None
    → let_read p scope span (trees_by f items)
    ≡ and_then (bindings_read p scope (trees_by f bindings)) (λ bound. term_read p (bound ++ scope) (f b))
let-two-bound p scope span f items bindings a b two h k =
    ap (λ items. let_read p scope span (trees_by f items)) (two-are items a b two)
    ∙ let-bound p scope span (f a) (f b) f bindings (sym h) k

-- ---- what follows the first item

pub rest-is : (items : List ℕ) → take (length items - 1) (drop 1 items) ≡ drop 1 items
rest-is items = take_all (length items - 1) (drop 1 items) (omega (arith, length-drop 1 items))

pub later-rest : (P : ℕ → Type 0) (items : List ℕ) → All P items → All P (take (length items - 1) (drop 1 items))
later-rest P items all = subst (All P) (sym (rest-is items)) (All-drop P 1 items all)

-- a list by its head, with the items that follow it
pub headed-rest : (p : ℕ) (scope : Scope) (tree : Tree) (f : ℕ → Tree) (items rest : List ℕ) (span : Span)
    (head : Result Head TermFault) → rest ≡ drop 1 items → 1 ≤ length items → members_of tree ≡ Some (map f items)
    → span ≡ span_of tree → head ≡ head_of span (f (get_or items 0 0)) (map f rest)
    → term_read p scope tree
    ≡ headed p (span_of tree) (map f rest) head (terms_read p scope (trees_by f rest))
    (later_read p scope (trees_by f rest)) (let_read p scope (span_of tree) (trees_by f rest))
headed-rest p scope tree f items rest span head same some members here is =
    headed-by p scope tree f items span head some members here
    (is ∙ ap (λ r. head_of span (f (get_or items 0 0)) (map f r)) same)
    ∙ ap (λ r. headed p (span_of tree) (map f r) head (terms_read p scope (trees_by f r))
    (later_read p scope (trees_by f r)) (let_read p scope (span_of tree) (trees_by f r))) (sym same)
