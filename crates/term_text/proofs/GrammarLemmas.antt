-- The walk reads a tree as the terms that the grammar says it is, and as no others.
use Rattle.std.proofs.Common.{◌≡◌, ℕ, ◌<◌, List, [], ◌∷◌, ◌++◌, length, map, Bool, true, false, cond, not, ◌&&◌, ◌||◌}
use Rattle.std.proofs.Common.{◌==◌, Option, Some, None, Result, Ok, Err, IsOk, ◌⊎◌, inl, inr, refl, sym, ap, subst}
use Rattle.std.proofs.Common.{◌∙◌, arith, option_map, option_and_then, suc}
use Rattle.std.specs.Prelude.{bytes_eq, codes, IsTrue, is_some, unwrap_or, nat_lt}
use Rattle.std.specs.List.{list_all}
use Rattle.std.specs.Option.{option_or}
use Rattle.std.proofs.lemmas.Bool.{false≢true}
use Rattle.std.proofs.lemmas.Bool.Decides.{nat_tests}
use Rattle.std.proofs.lemmas.Option.{same_Some}
use Rattle.std.proofs.lemmas.Slice.Eq.{bytes_eq-Decides}
use Rattle.list_lemmas.proofs.Bools.{and_parts, and_left, and_right, and-both, cond-cases, false_unless, lt-true}
use Rattle.list_lemmas.proofs.Options.{bind_some, option_map-some}
use Rattle.collections.specs.Named.{named}
use Rattle.bv_terms.specs.declared.op.Op.{Op}
use Rattle.bv_terms.specs.declared.op.Op.TheVariants as op
use Rattle.bv_terms.specs.declared.value.Sort.{Sort}
use Rattle.bv_terms.specs.Signature.{is_access}
use Rattle.bv_terms.specs.Term.{Term}
use Rattle.sexp_read.specs.Words.{is_alphabetic, starts_alphabetic, is_name_byte, is_truth_value, is_name}
use Rattle.sexp_read.specs.Words.{numeral_between}
use Rattle.sexp_read.specs.Tree.{Tree, Trees, Word, Branch, End, Then, word_of, members_of, list_of}
use Rattle.term_text.specs.declared.fault.TermFault.{TermFault}
use Rattle.term_text.specs.declared.fault.TermKind.{TermKind}
use Rattle.term_text.specs.declared.fault.TermKind.TheVariants as kind
use Rattle.term_text.specs.declared.head.Head.{Head}
use Rattle.term_text.specs.declared.head.Head.TheVariants.{Constant, Applied, Accessing, Binding}
use Rattle.term_text.specs.declared.head.Access.{Access}
use Rattle.term_text.specs.declared.head.Access.TheVariants.{Load, Mark, Store}
use Rattle.term_text.specs.declared.head.Indexed.{Indexed}
use Rattle.term_text.specs.declared.operator.Operator.{Operator}
use Rattle.term_text.specs.declared.operator.Operator.TheVariants.{Operation}
use Rattle.term_text.specs.declared.judge.OperatorFault.{OperatorFault}
use Rattle.term_text.specs.declared.literal.Base.TheVariants.{Binary, Hexadecimal}
use Rattle.term_text.specs.Words.{operator_named}
use Rattle.term_text.specs.Operator.{judge}
use Rattle.term_text.specs.Written.{written}
use Rattle.term_text.specs.Literal.{constant_in, literal, decimal_literal, truth_value}
use Rattle.term_text.specs.Head.{Span, span_of, fault_at, or_fault, access_named, access_of, where_access, access_size}
use Rattle.term_text.specs.Head.{indexed_named, with_indices, is_word, indexed_after, indexed_in, list_head}
use Rattle.term_text.specs.Head.{begins_with_bv, is_bv, constant_of, underscore_head, named_head, word_head, head_of}
use Rattle.term_text.specs.Reading.{Scope, and_then, unless, constant_term, begins_with_hash, in_scope, word_read}
use Rattle.term_text.specs.Reading.{sorts_in, judged, over, bound_word, word_fault, names_fault, differ}
use Rattle.term_text.specs.Reading.{are_bindings, twice_fault, let_fault, accessed, headed, term_read, terms_read}
use Rattle.term_text.specs.Reading.{later_read, let_read, bindings_read}
use Rattle.term_text.specs.Grammar.{IsWordOf, IsDecimal, IsIndexed, IsOperator, IsOver, IsSize, IsApplication}
use Rattle.term_text.specs.Grammar.{IsAccess, IsTermOf, AreTermsOf, AreLaterOf, IsBody, AreBoundBy}
use Rattle.term_text.proofs.HeadLemmas.{head-of-list, head-of-word}
use Rattle.term_text.proofs.BindingLemmas.{option_or-none, unless-fault}

-- ---- steps that may fail

same_ok : {A E : Type 0} (a b : A) → ◌≡◌ {A = Result A E} (Ok a) (Ok b) → a ≡ b
same_ok a b h = cc

and_then-ok : {A B : Type 0} (r : Result A TermFault) (next : A → Result B TermFault) (b : B)
    → and_then r next ≡ Ok b → (a : A) × (r ≡ Ok a) × (next a ≡ Ok b)
and_then-ok (Ok a) next b h = (a, refl, h)
and_then-ok (Err f) next b h = absurd (cc)

or_fault-ok : {A : Type 0} (k : TermKind) (span : Span) (o : Option A) (a : A) → or_fault k span o ≡ Ok a
    → o ≡ Some a
or_fault-ok k span (Some x) a h = ap Some (same_ok x a h)
or_fault-ok k span None a h = absurd (cc)

unless-ok : {A : Type 0} (o : Option TermFault) (r : Result A TermFault) (a : A) → unless o r ≡ Ok a
    → (o ≡ None) × (r ≡ Ok a)
unless-ok (Some f) r a h = absurd (cc)
unless-ok None r a h = (refl, h)

cond-true : {A : Type 0} (b : Bool) (x y z : A) → b ≡ true → x ≡ z → cond b x y ≡ z
cond-true true x y z h e = e
cond-true false x y z h e = absurd (cc)

cond-false : {A : Type 0} (b : Bool) (x y z : A) → b ≡ false → y ≡ z → cond b x y ≡ z
cond-false true x y z h e = absurd (cc)
cond-false false x y z h e = e

-- a step that a test lets through
cond-ok : {A : Type 0} (b : Bool) (r : Result A TermFault) (f : TermFault) (a : A) → cond b r (Err f) ≡ Ok a
    → (b ≡ true) × (r ≡ Ok a)
cond-ok true r f a h = (refl, h)
cond-ok false r f a h = absurd (cc)

if-some : {A : Type 0} (b : Bool) (o : Option A) (a : A) → cond b o None ≡ Some a → (b ≡ true) × (o ≡ Some a)
if-some true o a h = (refl, h)
if-some false o a h = absurd (cc)

-- ---- words

same-word : (word other : List ℕ) → bytes_eq word other ≡ true → word ≡ other
same-word word other h = (bytes_eq-Decides word other).0 h

-- a word that has a meaning is none that has no meaning
no-such-word : {A : Type 0} (f : List ℕ → Option A) (other word : List ℕ) (a : A) → f word ≡ Some a → f other ≡ None
    → bytes_eq word other ≡ false
no-such-word f other word a h n = false_unless (bytes_eq word other)
    (λ e. let same : f word ≡ f other = ap f (same-word word other e) in cc)

first-test : {A : Type 0} (b c d : Bool) (x y : Option A) (a : A) → cond (b && c) x (cond (b && d) y None) ≡ Some a
    → b ≡ true
first-test true c d x y a h = refl
first-test false c d x y a h = absurd (cc)

literal-hash : (word : List ℕ) (o : Op) → literal word ≡ Some o → begins_with_hash word ≡ true
literal-hash [] o h = absurd (cc)
literal-hash (b ∷ []) o h = absurd (cc)
literal-hash (hash ∷ base ∷ digits) o h = first-test (hash == 35) (base == 98) (base == 120)
    (constant_in Binary digits) (constant_in Hexadecimal digits) o h

one-of-two : {A : Type 0} (b c : Bool) (x y a : A) → cond b (Some x) (cond c (Some y) None) ≡ Some a
    → (b ≡ true) ⊎ (c ≡ true)
one-of-two true c x y a h = inl refl
one-of-two false true x y a h = inr refl
one-of-two false false x y a h = absurd (cc)

truth-hash : (word : List ℕ) (o : Op) → truth_value word ≡ Some o → begins_with_hash word ≡ false
truth-hash word o h = elim (one-of-two (bytes_eq word (codes "true")) (bytes_eq word (codes "false")) (op.Bool true)
    (op.Bool false) o h) [
      | inl e ↦ ap begins_with_hash (same-word word (codes "true") e)
      | inr e ↦ ap begins_with_hash (same-word word (codes "false") e)
    ]

letter-hash : (b : ℕ) → is_alphabetic b ≡ true → (b == 35) ≡ false
letter-hash b h = grind (arith, nat_tests)

starts-hash : (word : List ℕ) → starts_alphabetic word ≡ true → begins_with_hash word ≡ false
starts-hash [] h = refl
starts-hash (b ∷ rest) h = letter-hash b h

name-hash : (word : List ℕ) → is_name word ≡ true → begins_with_hash word ≡ false
name-hash word h = starts-hash word (and_left (starts_alphabetic word) (list_all is_name_byte word)
    (and_left (starts_alphabetic word && list_all is_name_byte word) (not (is_truth_value word)) h))

neither : {A : Type 0} (b c : Bool) (x y : Option A) → not (b || c) ≡ true → cond b x (cond c y None) ≡ None
neither true c x y h = absurd (cc)
neither false true x y h = absurd (cc)
neither false false x y h = refl

name-truth : (word : List ℕ) → is_name word ≡ true → truth_value word ≡ None
name-truth word h = neither (bytes_eq word (codes "true")) (bytes_eq word (codes "false")) (Some (op.Bool true))
    (Some (op.Bool false))
    (and_right (starts_alphabetic word && list_all is_name_byte word) (not (is_truth_value word)) h)

truth-or-name : (scope : Scope) (word : List ℕ) (t : Term) (o : Option Op) → truth_value word ≡ o
    → option_or (option_map constant_term o) (in_scope scope word) ≡ Some t
    → ((x : Op) × (truth_value word ≡ Some x) × (t ≡ constant_term x))
    ⊎ (IsTrue (is_name word) × (named scope word ≡ Some t))
truth-or-name scope word t (Some x) e h = inl (x, e, sym (same_Some (constant_term x) t h))
truth-or-name scope word t None e h = inr (if-some (is_name word) (named scope word) t h)

word-is : (scope : Scope) (span : Span) (word : List ℕ) (t : Term) → word_read scope span word ≡ Ok t
    → IsWordOf scope word t
word-is scope span word t h = elim (cond-cases (begins_with_hash word)
    (or_fault kind.Literal span (option_map constant_term (literal word)))
    (or_fault kind.Unknown span (option_or (option_map constant_term (truth_value word)) (in_scope scope word)))
    (Ok t) h) [
      | inl e ↦
          let found = option_map-some constant_term (literal word) t (or_fault-ok kind.Literal span
          (option_map constant_term (literal word)) t e.1) in
          inl (found.0, found.1, sym found.2)
      | inr e ↦ inr (truth-or-name scope word t (truth_value word) refl (or_fault-ok kind.Unknown span
          (option_or (option_map constant_term (truth_value word)) (in_scope scope word)) t e.1))
    ]

word-read : (scope : Scope) (span : Span) (word : List ℕ) (t : Term) → IsWordOf scope word t
    → word_read scope span word ≡ Ok t
word-read scope span word t (inl w) =
    cond-true (begins_with_hash word) (or_fault kind.Literal span (option_map constant_term (literal word)))
    (or_fault kind.Unknown span (option_or (option_map constant_term (truth_value word)) (in_scope scope word)))
    (Ok t) (literal-hash word w.0 w.1)
    (ap (λ (o : Option Op). or_fault kind.Literal span (option_map constant_term o)) w.1 ∙ ap Ok (sym w.2))
word-read scope span word t (inr (inl w)) =
    cond-false (begins_with_hash word) (or_fault kind.Literal span (option_map constant_term (literal word)))
    (or_fault kind.Unknown span (option_or (option_map constant_term (truth_value word)) (in_scope scope word)))
    (Ok t) (truth-hash word w.0 w.1)
    (ap (λ (o : Option Op). or_fault kind.Unknown span (option_or (option_map constant_term o) (in_scope scope word)))
    w.1 ∙ ap Ok (sym w.2))
word-read scope span word t (inr (inr w)) =
    cond-false (begins_with_hash word) (or_fault kind.Literal span (option_map constant_term (literal word)))
    (or_fault kind.Unknown span (option_or (option_map constant_term (truth_value word)) (in_scope scope word)))
    (Ok t) (name-hash word w.0)
    (ap (λ (o : Option Op). or_fault kind.Unknown span (option_or (option_map constant_term o) (in_scope scope word)))
    (name-truth word w.0)
    ∙ ap (or_fault kind.Unknown span) (cond-true (is_name word) (named scope word) None (Some t) w.0 w.1))

-- ---- heads

-- what a head says that the list is
abbrev pub HeadIs : Head → Tree → List Tree → Type 0
HeadIs (Constant o) head rest = IsDecimal head rest (constant_term o)
HeadIs (Applied o) head rest = IsOperator head o
HeadIs (Accessing access) head rest =
    (word : List ℕ) × (word_of head ≡ Some word) × (access_named word ≡ Some access)
HeadIs Binding head rest = word_of head ≡ Some (codes "let")

is_word-is : (word : List ℕ) (tree : Tree) → is_word word tree ≡ true → word_of tree ≡ Some word
is_word-is word (Word first bytes) h = ap Some (same-word bytes word h)
is_word-is word (Branch from to members) h = absurd (cc)

word-is_word : (word : List ℕ) (tree : Tree) → word_of tree ≡ Some word → is_word word tree ≡ true
word-is_word word (Word first bytes) h = (bytes_eq-Decides bytes word).1 (same_Some bytes word h)
word-is_word word (Branch from to members) h = absurd (cc)

bv-word : (tree : Tree) (word : List ℕ) → word_of tree ≡ Some word → is_bv tree ≡ begins_with_bv word
bv-word (Word first bytes) word h = ap begins_with_bv (same_Some bytes word h)
bv-word (Branch from to members) word h = absurd (cc)

indexed_in-ok : (span : Span) (indices : List Tree) (o : Option Indexed) (h : Head) → indexed_in span indices o ≡ Ok h
    → (family : Indexed) × (x : Operator) × (o ≡ Some family) × (with_indices family indices ≡ Some x)
    × (Applied x ≡ h)
indexed_in-ok span indices None h e = absurd (cc)
indexed_in-ok span indices (Some family) h e =
    let found = option_map-some Applied (with_indices family indices) h
    (or_fault-ok kind.Index span (option_map Applied (with_indices family indices)) h e) in
    (family, found.0, refl, found.1, found.2)

list-head-is : (span : Span) (head : Tree) (members rest : List Tree) (h : Head) → members_of head ≡ Some members
    → list_head span members ≡ Ok h → HeadIs h head rest
list-head-is span head [] rest h m e = absurd (cc)
list-head-is span head (underscore ∷ []) rest h m e = absurd (cc)
list-head-is span head (underscore ∷ name ∷ indices) rest h m e =
    let found = indexed_in-ok span indices (indexed_after underscore name) h e in
    let after = if-some (is_word (codes "_") underscore) (option_and_then indexed_named (word_of name)) found.0 found.2
    in
    let spelled = bind_some (word_of name) indexed_named found.0 after.1 in
    subst (λ (x : Head). HeadIs x head rest) found.4 (inr (record {
      underscore = underscore;
      name = name;
      word = spelled.0;
      indices = indices;
      family = found.0;
      members = m;
      begins = is_word-is (codes "_") underscore after.0;
      spelled = spelled.1;
      named = spelled.2;
      numbers = found.3;
    }))

constant-head-is : (span : Span) (head name width : Tree) (h : Head) → word_of head ≡ Some (codes "_")
    → underscore_head span (name ∷ width ∷ []) ≡ Ok h → HeadIs h head (name ∷ width ∷ [])
constant-head-is span head name width h w e =
    let parts = cond-ok (is_bv name) (or_fault kind.Literal span (option_map Constant (constant_of name width)))
    (fault_at kind.Unknown span) h e in
    let found = option_map-some Constant (constant_of name width) h (or_fault-ok kind.Literal span
    (option_map Constant (constant_of name width)) h parts.1) in
    let first = bind_some (word_of name) (λ word. option_and_then (decimal_literal word) (word_of width)) found.0
    found.1 in
    let second = bind_some (word_of width) (decimal_literal first.0) found.0 first.2 in
    subst (λ (x : Head). HeadIs x head (name ∷ width ∷ [])) found.2 (record {
      name = name;
      digits = first.0;
      width = width;
      width_digits = second.0;
      constant = found.0;
      underscore = w;
      members = refl;
      begins = first.1;
      bv = sym (bv-word name first.0 first.1) ∙ parts.0;
      ends = second.1;
      number = second.2;
      term = refl;
    })

underscore-head-is : (span : Span) (head : Tree) (rest : List Tree) (h : Head) → word_of head ≡ Some (codes "_")
    → underscore_head span rest ≡ Ok h → HeadIs h head rest
underscore-head-is span head [] h w e = absurd (cc)
underscore-head-is span head (name ∷ []) h w e = absurd (cc)
underscore-head-is span head (name ∷ width ∷ []) h w e = constant-head-is span head name width h w e
underscore-head-is span head (name ∷ width ∷ other ∷ more) h w e = absurd (cc)

named-head-is : (head : Tree) (word : List ℕ) (rest : List Tree) (h : Head) (a : Option Access)
    → word_of head ≡ Some word → access_named word ≡ a → named_head a (operator_named word) ≡ Some h
    → HeadIs h head rest
named-head-is head word rest h (Some access) w a e =
    subst (λ (x : Head). HeadIs x head rest) (same_Some (Accessing access) h e) (word, w, a)
named-head-is head word rest h None w a e =
    let found = option_map-some Applied (operator_named word) h e in
    subst (λ (x : Head). HeadIs x head rest) found.2 (inl (word, w, found.1))

word-head-is : (span : Span) (head : Tree) (word : List ℕ) (rest : List Tree) (h : Head) → word_of head ≡ Some word
    → word_head span word ≡ Ok h → HeadIs h head rest
word-head-is span head word rest h w e = elim (cond-cases (bytes_eq word (codes "let")) (Ok Binding)
    (or_fault kind.Unknown span (named_head (access_named word) (operator_named word))) (Ok h) e) [
      | inl f ↦ subst (λ (x : Head). HeadIs x head rest) (same_ok Binding h f.1)
          (w ∙ ap Some (same-word word (codes "let") f.0))
      | inr f ↦ named-head-is head word rest h (access_named word) w refl
          (or_fault-ok kind.Unknown span (named_head (access_named word) (operator_named word)) h f.1)
    ]

head-is : (span : Span) (head : Tree) (rest : List Tree) (h : Head) → head_of span head rest ≡ Ok h
    → HeadIs h head rest
head-is span (Branch from to members) rest h e =
    list-head-is (from, to) (Branch from to members) (list_of members) rest h refl e
head-is span (Word first word) rest h e = elim (cond-cases (bytes_eq word (codes "_")) (underscore_head span rest)
    (word_head (span_of (Word first word)) word) (Ok h) e) [
      | inl f ↦ underscore-head-is span (Word first word) rest h (ap Some (same-word word (codes "_") f.0)) f.1
      | inr f ↦ word-head-is (span_of (Word first word)) (Word first word) word rest h refl f.1
    ]

-- the head of a list is what the grammar says
underscore-read : (span : Span) (head : Tree) (rest : List Tree) → word_of head ≡ Some (codes "_")
    → head_of span head rest ≡ underscore_head span rest
underscore-read span head rest w = head-of-word span head rest (codes "_") w

decimal-head : (span : Span) (head : Tree) (rest : List Tree) (t : Term) (d : IsDecimal head rest t)
    → head_of span head rest ≡ Ok (Constant d.constant)
decimal-head span head rest t d =
    let is_constant : constant_of d.name d.width ≡ Some d.constant =
    ap (λ (o : Option (List ℕ)). option_and_then (λ word. option_and_then (decimal_literal word) (word_of d.width)) o)
    d.begins
    ∙ ap (λ (o : Option (List ℕ)). option_and_then (decimal_literal d.digits) o) d.ends
    ∙ d.number in
    underscore-read span head rest d.underscore
    ∙ ap (underscore_head span) d.members
    ∙ cond-true (is_bv d.name) (or_fault kind.Literal span (option_map Constant (constant_of d.name d.width)))
    (Err (fault_at kind.Unknown span)) (Ok (Constant d.constant)) (bv-word d.name d.digits d.begins ∙ d.bv)
    (ap (λ (o : Option Op). or_fault kind.Literal span (option_map Constant o)) is_constant)

indexed-head : (span : Span) (head : Tree) (rest : List Tree) (o : Operator) (i : IsIndexed head o)
    → head_of span head rest ≡ Ok (Applied o)
indexed-head span head rest o i =
    let after : indexed_after i.underscore i.name ≡ Some i.family =
    cond-true (is_word (codes "_") i.underscore) (option_and_then indexed_named (word_of i.name)) None
    (Some i.family) (word-is_word (codes "_") i.underscore i.begins)
    (ap (option_and_then indexed_named) i.spelled ∙ i.named) in
    head-of-list span head (i.underscore ∷ i.name ∷ i.indices) rest i.members
    ∙ ap (indexed_in (span_of head) i.indices) after
    ∙ ap (λ (x : Option Operator). or_fault kind.Index (span_of head) (option_map Applied x)) i.numbers

-- the head is a word, and neither `_` nor `let`
plain-head : (span : Span) (head : Tree) (rest : List Tree) (word : List ℕ) (h : Head) → word_of head ≡ Some word
    → bytes_eq word (codes "_") ≡ false → bytes_eq word (codes "let") ≡ false
    → named_head (access_named word) (operator_named word) ≡ Some h
    → head_of span head rest ≡ Ok h
plain-head span head rest word h w n m e =
    head-of-word span head rest word w
    ∙ cond-false (bytes_eq word (codes "_")) (underscore_head span rest) (word_head (span_of head) word) (Ok h) n
    (cond-false (bytes_eq word (codes "let")) (Ok Binding)
    (or_fault kind.Unknown (span_of head) (named_head (access_named word) (operator_named word))) (Ok h) m
    (ap (or_fault kind.Unknown (span_of head)) e))

none-of-three : {A : Type 0} (b c d : Bool) (x y z : A) → b ≡ false → c ≡ false → d ≡ false
    → cond b (Some x) (cond c (Some y) (cond d (Some z) None)) ≡ None
none-of-three true c d x y z e f g = absurd (cc)
none-of-three false true d x y z e f g = absurd (cc)
none-of-three false false true x y z e f g = absurd (cc)
none-of-three false false false x y z e f g = refl

-- an operator's word is no access
no-access : (word : List ℕ) (o : Operator) → operator_named word ≡ Some o → access_named word ≡ None
no-access word o e = none-of-three (bytes_eq word (codes "mload")) (bytes_eq word (codes "mmark"))
    (bytes_eq word (codes "mstore")) Load Mark Store
    (no-such-word operator_named (codes "mload") word o e refl)
    (no-such-word operator_named (codes "mmark") word o e refl)
    (no-such-word operator_named (codes "mstore") word o e refl)

operator-head : (span : Span) (head : Tree) (rest : List Tree) (o : Operator) → IsOperator head o
    → head_of span head rest ≡ Ok (Applied o)
operator-head span head rest o (inl w) =
    plain-head span head rest w.0 (Applied o) w.1
    (no-such-word operator_named (codes "_") w.0 o w.2 refl)
    (no-such-word operator_named (codes "let") w.0 o w.2 refl)
    (ap (λ (a : Option Access). named_head a (operator_named w.0)) (no-access w.0 o w.2) ∙ ap (option_map Applied) w.2)
operator-head span head rest o (inr i) = indexed-head span head rest o i

access-head : (span : Span) (head : Tree) (rest : List Tree) (word : List ℕ) (access : Access)
    → word_of head ≡ Some word → access_named word ≡ Some access → head_of span head rest ≡ Ok (Accessing access)
access-head span head rest word access w a =
    plain-head span head rest word (Accessing access) w
    (no-such-word access_named (codes "_") word access a refl)
    (no-such-word access_named (codes "let") word access a refl)
    (ap (λ (x : Option Access). named_head x (operator_named word)) a)

let-head : (span : Span) (head : Tree) (rest : List Tree) → word_of head ≡ Some (codes "let")
    → head_of span head rest ≡ Ok Binding
let-head span head rest w = head-of-word span head rest (codes "let") w

-- ---- operators over arguments

judged-ok : (span : Span) (args : List Tree) (r : Result Sort OperatorFault) (u t : Term) → judged span args r u ≡ Ok t
    → IsOk r × (t ≡ u)
judged-ok span args (Ok s) u t h = (refl, sym (same_ok u t h))
judged-ok span args (Err f) u t h = absurd (cc)

judged-read : (span : Span) (args : List Tree) (r : Result Sort OperatorFault) (u : Term) → IsOk r
    → judged span args r u ≡ Ok u
judged-read span args (Ok s) u h = refl
judged-read span args (Err f) u h = absurd (cc)

over-is : (p : ℕ) (span : Span) (args : List Tree) (o : Operator) (ts : List Term) (t : Term)
    → over p span args o ts ≡ Ok t → IsOver p o ts t
over-is p span args o ts t h =
    let found = judged-ok span args (judge p o (sorts_in p ts)) (written o (sorts_in p ts) ts) t h in
    record { fits = found.0; term = found.1 }

over-read : (p : ℕ) (span : Span) (args : List Tree) (o : Operator) (ts : List Term) (t : Term)
    → IsOver p o ts t → over p span args o ts ≡ Ok t
over-read p span args o ts t i =
    judged-read span args (judge p o (sorts_in p ts)) (written o (sorts_in p ts) ts) i.fits ∙ ap Ok (sym i.term)

-- ---- accesses to a memory

size-is : (p : ℕ) (tree : Tree) (n : ℕ) → access_size p tree ≡ Some n → IsSize p tree n
size-is p tree n h =
    let last = bind_some (option_and_then (numeral_between 1 8) (word_of tree)) (where_access p) n h in
    let first = bind_some (word_of tree) (numeral_between 1 8) last.0 last.1 in
    let allowed = if-some (is_access p last.0) (Some last.0) n last.2 in
    let same : last.0 ≡ n = same_Some last.0 n allowed.1 in
    record {
      word = first.0;
      spelled = first.1;
      number = first.2 ∙ ap Some same;
      access = subst (λ (k : ℕ). IsTrue (is_access p k)) same allowed.0;
    }

size-read : (p : ℕ) (tree : Tree) (n : ℕ) → IsSize p tree n → access_size p tree ≡ Some n
size-read p tree n s =
    ap (λ (o : Option (List ℕ)). option_and_then (where_access p) (option_and_then (numeral_between 1 8) o)) s.spelled
    ∙ ap (option_and_then (where_access p)) s.number
    ∙ cond-true (is_access p n) (Some n) None (Some n) s.access refl

accessed-is : (p : ℕ) (span : Span) (head : Tree) (args : List Tree) (word : List ℕ) (access : Access)
    (later : Result (List Term) TermFault) (AreArguments : List Term → Type 0) (t : Term)
    → word_of head ≡ Some word → access_named word ≡ Some access
    → ((ts : List Term) (first : Tree) (more : List Tree) → args ≡ first ∷ more → later ≡ Ok ts → AreArguments ts)
    → accessed p span access args later ≡ Ok t → IsAccess p head args AreArguments t
accessed-is p span head [] word access later AreArguments t w a are h = cc
accessed-is p span head (size ∷ rest) word access later AreArguments t w a are h =
    let first = and_then-ok (or_fault kind.Index (span_of size) (access_size p size))
    (λ n. and_then later (over p span rest (Operation (access_of access n)))) t h in
    let second = and_then-ok later (over p span rest (Operation (access_of access first.0))) t first.2 in (
      word,
      access,
      first.0,
      second.0,
      w,
      a,
      size-is p size first.0 (or_fault-ok kind.Index (span_of size) (access_size p size) first.0 first.1),
      are second.0 size rest refl second.1,
      over-is p span rest (Operation (access_of access first.0)) second.0 t second.2,
    )

access-read : (p : ℕ) (span : Span) (head : Tree) (args : List Tree) (all later : Result (List Term) TermFault)
    (bound : Result Term TermFault) (AreArguments : List Term → Type 0) (t : Term)
    → ((ts : List Term) → AreArguments ts → later ≡ Ok ts) → IsAccess p head args AreArguments t
    → headed p span args (head_of span head args) all later bound ≡ Ok t
access-read p span head [] all later bound AreArguments t read i = absurd i
access-read p span head (size ∷ rest) all later bound AreArguments t read i =
    ap (λ (r : Result Head TermFault). headed p span (size ∷ rest) r all later bound)
    (access-head span head (size ∷ rest) i.0 i.1 i.4 i.5)
    ∙ ap (λ (o : Option ℕ). and_then (or_fault kind.Index (span_of size) o)
    (λ n. and_then later (over p span rest (Operation (access_of i.1 n))))) (size-read p size i.2 i.6)
    ∙ ap (λ (r : Result (List Term) TermFault). and_then r (over p span rest (Operation (access_of i.1 i.2))))
    (read i.3 i.7)
    ∙ over-read p span rest (Operation (access_of i.1 i.2)) i.3 t i.8

-- ---- `let`

-- nothing is wrong with the bindings
record NoFault (bindings : List Tree) : Type 0 where
  some : nat_lt 0 (length bindings) ≡ true
  shaped : list_all (λ b. is_some (bound_word b)) bindings ≡ true
  names : names_fault bindings ≡ None
  different : differ (map (λ b. unwrap_or (bound_word b) []) bindings) ≡ true

fault-if : (b : Bool) (o : Option TermFault) (f : TermFault) → cond b o (Some f) ≡ None → (b ≡ true) × (o ≡ None)
fault-if true o f h = (refl, h)
fault-if false o f h = absurd (cc)

no-fault : (span : Span) (bindings : List Tree) → let_fault span bindings ≡ None → NoFault bindings
no-fault span bindings h =
    let form = fault-if (are_bindings bindings) (option_or (names_fault bindings) (twice_fault span bindings))
    (fault_at kind.Arity span) h in
    let parts = and_parts (nat_lt 0 (length bindings)) (list_all (λ b. is_some (bound_word b)) bindings) form.0 in
    let names = option_or-none (names_fault bindings) (twice_fault span bindings) form.1 in
    record {
      some = parts.0;
      shaped = parts.1;
      names = names.0;
      different = unless-fault (differ (map (λ b. unwrap_or (bound_word b) []) bindings)) (fault_at kind.Arity span)
          names.1;
    }

fault-none : (span : Span) (bindings : List Tree) → NoFault bindings → let_fault span bindings ≡ None
fault-none span bindings n =
    cond-true (are_bindings bindings) (option_or (names_fault bindings) (twice_fault span bindings))
    (Some (fault_at kind.Arity span)) None
    (and-both (nat_lt 0 (length bindings)) (list_all (λ b. is_some (bound_word b)) bindings) n.some n.shaped)
    (ap (λ (o : Option TermFault). option_or o (twice_fault span bindings)) n.names
    ∙ cond-true (differ (map (λ b. unwrap_or (bound_word b) []) bindings)) None (Some (fault_at kind.Arity span)) None
    n.different refl)

-- what is bound has the names of the bindings
record Binds (bindings : List Tree) (bound : Scope) : Type 0 where
  words : map (λ b. unwrap_or (bound_word b) []) bindings ≡ map (λ b. b.0) bound
  size : length bindings ≡ length bound
  shaped : list_all (λ b. is_some (bound_word b)) bindings ≡ true
  names : names_fault bindings ≡ None

binds-one : (from to first : ℕ) (name : List ℕ) (tree : Tree) (trees : List Tree) (b : List ℕ × Term) (bound : Scope)
    → is_name name ≡ true → b.0 ≡ name → Binds trees bound
    → Binds (Branch from to (Then (Word first name) (Then tree End)) ∷ trees) (b ∷ bound)
binds-one from to first name tree trees b bound h e i = record {
  words = ap (λ (x : List ℕ). x ∷ map (λ b. unwrap_or (bound_word b) []) trees) (sym e)
      ∙ ap (λ (xs : List (List ℕ)). b.0 ∷ xs) i.words;
  size = ap suc i.size;
  shaped = i.shaped;
  names = ap (λ (o : Option TermFault). option_or o (names_fault trees))
      (cond-true (is_name name) None (Some (fault_at kind.Unknown (span_of (Word first name)))) None h refl)
      ∙ i.names;
}

bound-binds : (p : ℕ) (scope : Scope) (trees : Trees) (bound : Scope) → AreBoundBy p scope trees bound
    → Binds (list_of trees) bound
bound-binds p scope End [] a = record { words = refl; size = refl; shaped = refl; names = refl }
bound-binds p scope (Then (Branch from to (Then (Word first name) (Then tree End))) trees) (b ∷ bound) a =
    binds-one from to first name tree (list_of trees) b bound a.0 a.1 (bound-binds p scope trees bound a.3)
bound-binds p scope trees bound a = absurd a

bound-none : (p : ℕ) (scope : Scope) (span : Span) (trees : Trees) (bound : Scope) → AreBoundBy p scope trees bound
    → 0 < length bound → differ (map (λ b. b.0) bound) ≡ true → let_fault span (list_of trees) ≡ None
bound-none p scope span trees bound a pos d =
    let binds = bound-binds p scope trees bound a in
    fault-none span (list_of trees) (record {
      some = lt-true 0 (length (list_of trees)) (omega (arith, binds.size));
      shaped = binds.shaped;
      names = binds.names;
      different = ap differ binds.words ∙ d;
    })

-- a list is no name that is bound
binds-no-list : (from to first last : ℕ) (members more : Trees) (others : Bool)
    → (is_some (bound_word (Branch from to (Then (Branch first last members) more))) && others) ≡ true → ⊥
binds-no-list from to first last members End others h = false≢true h
binds-no-list from to first last members (Then tree End) others h = false≢true h
binds-no-list from to first last members (Then tree (Then other more)) others h = false≢true h

positive : (n : ℕ) → nat_lt 0 n ≡ true → 0 < n
positive n h = grind (arith, nat_tests)

body-of : (p : ℕ) (scope : Scope) (from to : ℕ) (bindings : Trees) (body : Tree) (t : Term) (bound : Scope)
    → NoFault (list_of bindings) → AreBoundBy p scope bindings bound → IsTermOf p (bound ++ scope) body t
    → IsBody p scope (Then (Branch from to bindings) (Then body End)) t
body-of p scope from to bindings body t bound none are term =
    let binds = bound-binds p scope bindings bound are in (
      bound,
      are,
      omega (arith, binds.size, positive (length (list_of bindings)) none.some),
      ap differ (sym binds.words) ∙ none.different,
      term,
    )

-- ---- what is read is a term

headed-is : (p : ℕ) (scope : Scope) (span : Span) (head : Tree) (rest : Trees) (t : Term) (r : Result Head TermFault)
    → head_of span head (list_of rest) ≡ r
    → ((ts : List Term) → terms_read p scope rest ≡ Ok ts → AreTermsOf p scope rest ts)
    → ((ts : List Term) (first : Tree) (more : List Tree) → list_of rest ≡ first ∷ more
    → later_read p scope rest ≡ Ok ts → AreLaterOf p scope rest ts)
    → (let_read p scope span rest ≡ Ok t → IsBody p scope rest t)
    → headed p span (list_of rest) r (terms_read p scope rest) (later_read p scope rest) (let_read p scope span rest)
    ≡ Ok t
    → IsDecimal head (list_of rest) t
    ⊎ (IsApplication p head (λ ts. AreTermsOf p scope rest ts) t
    ⊎ (IsAccess p head (list_of rest) (λ ts. AreLaterOf p scope rest ts) t
    ⊎ ((word_of head ≡ Some (codes "let")) × IsBody p scope rest t)))
headed-is p scope span head rest t (Err f) e all later body h = absurd (cc)
headed-is p scope span head rest t (Ok (Constant o)) e all later body h =
    inl (subst (λ (u : Term). IsDecimal head (list_of rest) u) (same_ok (constant_term o) t h)
    (head-is span head (list_of rest) (Constant o) e))
headed-is p scope span head rest t (Ok (Applied o)) e all later body h =
    let found = and_then-ok (terms_read p scope rest) (over p span (list_of rest) o) t h in
    inr (inl (
      o,
      found.0,
      head-is span head (list_of rest) (Applied o) e,
      all found.0 found.1,
      over-is p span (list_of rest) o found.0 t found.2,
    ))
headed-is p scope span head rest t (Ok (Accessing access)) e all later body h =
    let is = head-is span head (list_of rest) (Accessing access) e in
    inr (inr (inl (accessed-is p span head (list_of rest) is.0 access (later_read p scope rest)
    (λ ts. AreLaterOf p scope rest ts) t is.1 is.2 later h)))
headed-is p scope span head rest t (Ok Binding) e all later body h =
    inr (inr (inr (head-is span head (list_of rest) Binding e, body h)))

mutual
  pub read-is-term : (p : ℕ) (scope : Scope) (tree : Tree) (t : Term) → term_read p scope tree ≡ Ok t
      → IsTermOf p scope tree t
  read-is-term p scope (Word first word) t h = word-is scope (span_of (Word first word)) word t h
  read-is-term p scope (Branch from to End) t h = cc
  read-is-term p scope (Branch from to (Then head rest)) t h =
      headed-is p scope (from, to) head rest t (head_of (from, to) head (list_of rest)) refl
      (λ ts e. read-are-terms p scope rest ts e) (λ ts first more m e. read-are-later p scope rest ts first more m e)
      (λ e. read-is-body p scope (from, to) rest t e) h

  read-are-terms : (p : ℕ) (scope : Scope) (trees : Trees) (ts : List Term) → terms_read p scope trees ≡ Ok ts
      → AreTermsOf p scope trees ts
  read-are-terms p scope End ts h = subst (λ (us : List Term). AreTermsOf p scope End us) (same_ok [] ts h) tt
  read-are-terms p scope (Then tree trees) ts h =
      let one = and_then-ok (term_read p scope tree)
      (λ t. and_then (terms_read p scope trees) (λ us. Ok (t ∷ us))) ts h in
      let more = and_then-ok (terms_read p scope trees) (λ us. Ok (one.0 ∷ us)) ts one.2 in
      subst (λ (us : List Term). AreTermsOf p scope (Then tree trees) us) (same_ok (one.0 ∷ more.0) ts more.2)
      (read-is-term p scope tree one.0 one.1, read-are-terms p scope trees more.0 more.1)

  read-are-later : (p : ℕ) (scope : Scope) (trees : Trees) (ts : List Term) (first : Tree) (more : List Tree)
      → list_of trees ≡ first ∷ more → later_read p scope trees ≡ Ok ts → AreLaterOf p scope trees ts
  read-are-later p scope End ts first more m h = cc
  read-are-later p scope (Then tree trees) ts first more m h = read-are-terms p scope trees ts h

  read-is-body : (p : ℕ) (scope : Scope) (span : Span) (trees : Trees) (t : Term) → let_read p scope span trees ≡ Ok t
      → IsBody p scope trees t
  read-is-body p scope span (Then (Branch from to bindings) (Then body End)) t h =
      let allowed = unless-ok (let_fault span (list_of bindings))
      (and_then (bindings_read p scope bindings) (λ bound. term_read p (bound ++ scope) body)) t h in
      let found = and_then-ok (bindings_read p scope bindings) (λ bound. term_read p (bound ++ scope) body) t allowed.1
      in
      let none = no-fault span (list_of bindings) allowed.0 in
      let are = read-are-bound p scope bindings found.0 none.shaped none.names found.1 in
      body-of p scope from to bindings body t found.0 none are
      (read-is-term p (found.0 ++ scope) body t found.2)
  read-is-body p scope span trees t h = absurd (cc)

  read-are-bound : (p : ℕ) (scope : Scope) (trees : Trees) (bound : Scope)
      → list_all (λ b. is_some (bound_word b)) (list_of trees) ≡ true → names_fault (list_of trees) ≡ None
      → bindings_read p scope trees ≡ Ok bound → AreBoundBy p scope trees bound
  read-are-bound p scope End bound s n h = subst (λ (bs : Scope). AreBoundBy p scope End bs) (same_ok [] bound h) tt
  read-are-bound p scope (Then (Branch from to (Then (Word first name) (Then tree End))) trees) bound s n h =
      let one = and_then-ok (term_read p scope tree)
      (λ t. and_then (bindings_read p scope trees) (λ bs. Ok ((name, t) ∷ bs))) bound h in
      let more = and_then-ok (bindings_read p scope trees) (λ bs. Ok ((name, one.0) ∷ bs)) bound one.2 in
      let named = option_or-none (word_fault (Some (Word first name, tree))) (names_fault (list_of trees)) n in
      subst (λ (bs : Scope). AreBoundBy p scope
      (Then (Branch from to (Then (Word first name) (Then tree End))) trees) bs)
      (same_ok ((name, one.0) ∷ more.0) bound more.2) (
        unless-fault (is_name name) (fault_at kind.Unknown (span_of (Word first name))) named.0,
        refl,
        read-is-term p scope tree one.0 one.1,
        read-are-bound p scope trees more.0 s named.1 more.1,
      )
  read-are-bound p scope (Then (Branch from to (Then (Branch first last members) more)) trees) bound s n h =
      absurd (binds-no-list from to first last members more (list_all (λ b. is_some (bound_word b)) (list_of trees)) s)
  read-are-bound p scope (Then tree trees) bound s n h = absurd (false≢true s)

-- ---- a term is read

headed-read : (p : ℕ) (scope : Scope) (span : Span) (head : Tree) (rest : Trees) (t : Term)
    → ((ts : List Term) → AreTermsOf p scope rest ts → terms_read p scope rest ≡ Ok ts)
    → ((ts : List Term) → AreLaterOf p scope rest ts → later_read p scope rest ≡ Ok ts)
    → (IsBody p scope rest t → let_read p scope span rest ≡ Ok t)
    → IsDecimal head (list_of rest) t
    ⊎ (IsApplication p head (λ ts. AreTermsOf p scope rest ts) t
    ⊎ (IsAccess p head (list_of rest) (λ ts. AreLaterOf p scope rest ts) t
    ⊎ ((word_of head ≡ Some (codes "let")) × IsBody p scope rest t)))
    → headed p span (list_of rest) (head_of span head (list_of rest)) (terms_read p scope rest)
    (later_read p scope rest) (let_read p scope span rest) ≡ Ok t
headed-read p scope span head rest t all later body (inl d) =
    ap (λ (r : Result Head TermFault). headed p span (list_of rest) r (terms_read p scope rest)
    (later_read p scope rest) (let_read p scope span rest)) (decimal-head span head (list_of rest) t d)
    ∙ ap Ok (sym d.term)
headed-read p scope span head rest t all later body (inr (inl a)) =
    ap (λ (r : Result Head TermFault). headed p span (list_of rest) r (terms_read p scope rest)
    (later_read p scope rest) (let_read p scope span rest)) (operator-head span head (list_of rest) a.0 a.2)
    ∙ ap (λ (r : Result (List Term) TermFault). and_then r (over p span (list_of rest) a.0)) (all a.1 a.3)
    ∙ over-read p span (list_of rest) a.0 a.1 t a.4
headed-read p scope span head rest t all later body (inr (inr (inl a))) =
    access-read p span head (list_of rest) (terms_read p scope rest) (later_read p scope rest)
    (let_read p scope span rest) (λ ts. AreLaterOf p scope rest ts) t later a
headed-read p scope span head rest t all later body (inr (inr (inr l))) =
    ap (λ (r : Result Head TermFault). headed p span (list_of rest) r (terms_read p scope rest)
    (later_read p scope rest) (let_read p scope span rest)) (let-head span head (list_of rest) l.0)
    ∙ body l.1

mutual
  pub term-is-read : (p : ℕ) (scope : Scope) (tree : Tree) (t : Term) → IsTermOf p scope tree t
      → term_read p scope tree ≡ Ok t
  term-is-read p scope (Word first word) t w = word-read scope (span_of (Word first word)) word t w
  term-is-read p scope (Branch from to End) t w = absurd w
  term-is-read p scope (Branch from to (Then head rest)) t w =
      headed-read p scope (from, to) head rest t (λ ts a. terms-are-read p scope rest ts a)
      (λ ts a. later-are-read p scope rest ts a) (λ b. body-is-read p scope (from, to) rest t b) w

  terms-are-read : (p : ℕ) (scope : Scope) (trees : Trees) (ts : List Term) → AreTermsOf p scope trees ts
      → terms_read p scope trees ≡ Ok ts
  terms-are-read p scope End [] a = refl
  terms-are-read p scope End (t ∷ ts) a = absurd a
  terms-are-read p scope (Then tree trees) [] a = absurd a
  terms-are-read p scope (Then tree trees) (t ∷ ts) a =
      ap (λ (r : Result Term TermFault). and_then r
      (λ u. and_then (terms_read p scope trees) (λ us. Ok (u ∷ us)))) (term-is-read p scope tree t a.0)
      ∙ ap (λ (r : Result (List Term) TermFault). and_then r (λ us. Ok (t ∷ us)))
      (terms-are-read p scope trees ts a.1)

  later-are-read : (p : ℕ) (scope : Scope) (trees : Trees) (ts : List Term) → AreLaterOf p scope trees ts
      → later_read p scope trees ≡ Ok ts
  later-are-read p scope End ts a = absurd a
  later-are-read p scope (Then tree trees) ts a = terms-are-read p scope trees ts a

  body-is-read : (p : ℕ) (scope : Scope) (span : Span) (trees : Trees) (t : Term) → IsBody p scope trees t
      → let_read p scope span trees ≡ Ok t
  body-is-read p scope span (Then (Branch from to bindings) (Then body End)) t b =
      ap (λ (o : Option TermFault). unless o
      (and_then (bindings_read p scope bindings) (λ bound. term_read p (bound ++ scope) body)))
      (bound-none p scope span bindings b.0 b.1 b.2 b.3)
      ∙ ap (λ (r : Result Scope TermFault). and_then r (λ bound. term_read p (bound ++ scope) body))
      (bound-are-read p scope bindings b.0 b.1)
      ∙ term-is-read p (b.0 ++ scope) body t b.4
  body-is-read p scope span trees t b = absurd b

  bound-are-read : (p : ℕ) (scope : Scope) (trees : Trees) (bound : Scope) → AreBoundBy p scope trees bound
      → bindings_read p scope trees ≡ Ok bound
  bound-are-read p scope End [] a = refl
  bound-are-read p scope (Then (Branch from to (Then (Word first name) (Then tree End))) trees) (b ∷ bound) a =
      ap (λ (r : Result Term TermFault). and_then r
      (λ t. and_then (bindings_read p scope trees) (λ bs. Ok ((name, t) ∷ bs)))) (term-is-read p scope tree b.1 a.2)
      ∙ ap (λ (r : Result Scope TermFault). and_then r (λ bs. Ok ((name, b.1) ∷ bs)))
      (bound-are-read p scope trees bound a.3)
      ∙ ap (λ (x : List ℕ). Ok ((x, b.1) ∷ bound)) (sym a.1)
  bound-are-read p scope trees bound a = absurd a
