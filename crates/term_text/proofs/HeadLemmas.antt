-- The head of a list, by whether it is a word or a list.
use Rattle.std.proofs.Common.{◌≡◌, ℕ, List, [], ◌∷◌, length, Some, None, Err, refl}
use Rattle.std.proofs.Common.{sym, ap, subst, ◌∙◌, cond, IsSome, Bool, false}
use Rattle.std.specs.Prelude.{bytes_eq, codes}
use Rattle.std.proofs.lemmas.Option.{same_Some}
use Rattle.sexp_read.specs.Tree.{Tree, Word, Branch, from_of, to_of, word_of, members_of, list_of}
use Rattle.term_text.specs.declared.fault.TermKind.TheVariants.{Unknown}
use Rattle.term_text.specs.Head.{Span, span_of, fault_at, list_head, underscore_head, word_head, head_of}

pub span-is : (span : Span) (tree : Tree) → span.0 ≡ from_of tree → span.1 ≡ to_of tree → span ≡ span_of tree
span-is span tree h k =
    subst (λ (x : ℕ). span ≡ (x, to_of tree)) h (subst (λ (y : ℕ). span ≡ (span.0, y)) k refl)

-- what is no list is a word
pub word-or-list : (tree : Tree) → members_of tree ≡ None → IsSome (word_of tree)
word-or-list (Word first word) h = refl
word-or-list (Branch from to members) h = absurd (cc)

pub head-of-list : (span : Span) (tree : Tree) (members rest : List Tree) → members_of tree ≡ Some members
    → head_of span tree rest ≡ list_head (span_of tree) members
head-of-list span (Word first word) members rest h = absurd (cc)
head-of-list span (Branch from to ms) members rest h =
    ap (list_head (from, to)) (same_Some (list_of ms) members h)

pub head-of-word : (span : Span) (tree : Tree) (rest : List Tree) (word : List ℕ) → word_of tree ≡ Some word
    → head_of span tree rest
    ≡ cond (bytes_eq word (codes "_")) (underscore_head span rest) (word_head (span_of tree) word)
head-of-word span (Word first bytes) rest word h =
    ap (λ (w : List ℕ). cond (bytes_eq w (codes "_")) (underscore_head span rest)
    (word_head (span_of (Word first bytes)) w)) (same_Some bytes word h)
head-of-word span (Branch from to members) rest word h = absurd (cc)

pub list-at-head : (span head_span : Span) (tree : Tree) (members rest : List Tree) → head_span.0 ≡ from_of tree
    → head_span.1 ≡ to_of tree → members_of tree ≡ Some members
    → list_head head_span members ≡ head_of span tree rest
list-at-head span head_span tree members rest h k m =
    ap (λ (s : Span). list_head s members) (span-is head_span tree h k)
    ∙ sym (head-of-list span tree members rest m)

-- a word that is not `_`
pub word-at-head : (span head_span : Span) (tree : Tree) (rest : List Tree) (word : List ℕ)
    → head_span.0 ≡ from_of tree → head_span.1 ≡ to_of tree → word_of tree ≡ Some word
    → bytes_eq word (codes "_") ≡ false → word_head head_span word ≡ head_of span tree rest
word-at-head span head_span tree rest word h k w n =
    ap (λ (s : Span). word_head s word) (span-is head_span tree h k)
    ∙ sym (head-of-word span tree rest word w
    ∙ ap (λ (b : Bool). cond b (underscore_head span rest) (word_head (span_of tree) word)) n)

-- a list that begins with `_` and has not just two members more
pub not-two : (span : Span) (rest : List Tree) → (length rest ≡ 2 → ⊥)
    → underscore_head span rest ≡ Err (fault_at Unknown span)
not-two span [] h = refl
not-two span (x ∷ []) h = refl
not-two span (x ∷ y ∷ []) h = absurd (h refl)
not-two span (x ∷ y ∷ z ∷ more) h = refl
