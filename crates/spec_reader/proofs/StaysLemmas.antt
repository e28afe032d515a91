-- The inputs of the terms of a definition are those that its names stand for.
use Rattle.std.proofs.Common.{◌≡◌, ◌∙◌, ℕ, ◌==◌, ◌&&◌, List, [], ◌∷◌, ◌++◌, length, All, Bool, true, false, refl}
use Rattle.std.proofs.Common.{sym, ap, subst, Option, Some, None, Result, Ok, Err, inl, inr, IfSome, IfOk, append_assoc}
use Rattle.std.proofs.Common.{arith, ◌-◌, ◌^◌, drop}
use Rattle.std.specs.Prelude.{option_map, option_and_then, if◌then◌else◌, codes}
use Rattle.std.specs.Option.{option_or, option_map_or}
use Rattle.std.specs.Str.{bytes_eq}
use Rattle.std.proofs.lemmas.Bool.Decides.{nat_tests}
use Rattle.std.proofs.lemmas.List.{length-append}
use Rattle.std.proofs.lemmas.List.Elements.{All-nil, All-cons}
use Rattle.list_lemmas.proofs.Lookups.{slice_get-append_right}
use Rattle.collections.specs.Named.{named}
use Rattle.bv_terms.specs.declared.op.Op.{Op}
use Rattle.bv_terms.specs.declared.op.Op.TheVariants as op
use Rattle.bv_terms.specs.declared.op.TermId.{TermId}
use Rattle.bv_terms.specs.declared.value.Sort.{Sort}
use Rattle.bv_terms.specs.declared.value.Sort.TheVariants as sort
use Rattle.bv_terms.specs.Sorts.{same_sort}
use Rattle.bv_terms.specs.Term.{Term}
use Rattle.bv_terms.specs.Table.{Table, term_at}
use Rattle.sexp_read.specs.Words.{numeral_between}
use Rattle.sexp_read.specs.Tree.{Tree, Trees, Word, Branch, End, Then, list_of}
use Rattle.term_text.specs.declared.fault.TermFault.{TermFault}
use Rattle.term_text.specs.declared.operator.Operator.{Operator}
use Rattle.term_text.specs.declared.operator.Operator.TheVariants.{Operation}
use Rattle.term_text.specs.Words.{core_named, arithmetic_named, division_named, order_named, other_named}
use Rattle.term_text.specs.Words.{operator_named}
use Rattle.term_text.specs.Literal.{literal, decimal_literal, truth_value}
use Rattle.term_text.specs.Head.{access_named, access_of, indexed_named, with_indices, one_index, two_indices}
use Rattle.term_text.specs.Build.{terms_at}
use Rattle.term_text.specs.Reading.{Scope, constant_term, term_read, sorts_in}
use Rattle.term_text.specs.Grammar.{IsWordOf, IsOperator, IsOver, IsAccess, IsTermOf, AreTermsOf, AreLaterOf}
use Rattle.term_text.specs.Grammar.{IsBody, AreBoundBy}
use Rattle.term_text.proofs.GrammarLemmas.{read-is-term}
use Rattle.spec_reader.specs.declared.fault.SpecFault.{SpecFault}
use Rattle.spec_reader.specs.Form.{Param}
use Rattle.spec_reader.specs.Walk.{and_then, of_term, result_read, results_read, scope_from, sorts_of}
use Rattle.isel_spec.specs.File.{stays_in}
use Rattle.spec_reader.proofs.PlainLemmas.{Stays, EachStays, IsPlain, IsPlainOperator, applied-stays, written-stays}

-- ---- what a step gives

if-first : {B : Type 0} (P : B → Type 0) (b : Bool) (x : B) (o : Option B) → P x → IfSome o P
    → IfSome (if b then Some x else o) P
if-first P true x o h k = h
if-first P false x o h k = k

if-either : {B : Type 0} (P : B → Type 0) (b : Bool) (o q : Option B) → IfSome o P → IfSome q P
    → IfSome (if b then o else q) P
if-either P true o q h k = h
if-either P false o q h k = k

if-or : {B : Type 0} (P : B → Type 0) (o q : Option B) → IfSome o P → IfSome q P → IfSome (option_or o q) P
if-or P None q h k = k
if-or P (Some x) q h k = h

if-mapped : {A B : Type 0} (P : B → Type 0) (f : A → B) (o : Option A) → ((a : A) → P (f a))
    → IfSome (option_map f o) P
if-mapped P f None h = tt
if-mapped P f (Some a) h = h a

if-bound : {A B : Type 0} (P : B → Type 0) (o : Option A) (f : A → Option B) → ((a : A) → IfSome (f a) P)
    → IfSome (option_and_then f o) P
if-bound P None f h = tt
if-bound P (Some a) f h = h a

from-some : {B : Type 0} (P : B → Type 0) (o : Option B) (x : B) → IfSome o P → o ≡ Some x → P x
from-some P o x h e = subst (λ q. IfSome q P) e h

-- ---- constants

bits-plain : (ss : List Sort) (w : Option ℕ) (number : Option ℕ)
    → IfSome (option_and_then (λ n. option_map (op.Bits n) number) w) (IsPlain ss)
bits-plain ss w number =
    if-bound (IsPlain ss) w (λ n. option_map (op.Bits n) number)
    (λ n. if-mapped (IsPlain ss) (op.Bits n) number (λ k. refl))

literal-plain : (ss : List Sort) (word : List ℕ) → IfSome (literal word) (IsPlain ss)
literal-plain ss [] = tt
literal-plain ss (hash ∷ []) = tt
literal-plain ss (hash ∷ base ∷ digits) =
    if-either (IsPlain ss) (hash == 35 && base == 98) _ _ (search bits-plain)
    (if-either (IsPlain ss) (hash == 35 && base == 120) _ None (search bits-plain) tt)

truth-plain : (ss : List Sort) (word : List ℕ) → IfSome (truth_value word) (IsPlain ss)
truth-plain ss word =
    if-first (IsPlain ss) (bytes_eq word (codes "true")) (op.Bool true) _ refl
    (if-first (IsPlain ss) (bytes_eq word (codes "false")) (op.Bool false) None refl tt)

decimal-plain : (ss : List Sort) (word wide : List ℕ) → IfSome (decimal_literal word wide) (IsPlain ss)
decimal-plain ss word wide =
    if-bound (IsPlain ss) (numeral_between 1 64 wide)
    (λ w. option_map (op.Bits w) (numeral_between 0 (2 ^ w - 1) (drop 2 word)))
    (λ w. if-mapped (IsPlain ss) (op.Bits w) (numeral_between 0 (2 ^ w - 1) (drop 2 word)) (λ n. refl))

constant-term-stays : (ss : List Sort) (o : Op) (t : Term) → IsPlain ss o → t ≡ constant_term o → Stays ss t
constant-term-stays ss o t plain e = subst (Stays ss) (sym e) (applied-stays ss o [] plain tt)

-- ---- operators

core-plain : (ss : List Sort) (word : List ℕ) → IfSome (core_named word) (IsPlainOperator ss)
core-plain ss word =
    let P = IsPlainOperator ss in
    if-first P (bytes_eq word (codes "not")) _ _ refl (if-first P (bytes_eq word (codes "and")) _ _ tt
    (if-first P (bytes_eq word (codes "or")) _ _ tt (if-first P (bytes_eq word (codes "xor")) _ _ tt
    (if-first P (bytes_eq word (codes "=>")) _ _ tt (if-first P (bytes_eq word (codes "=")) _ _ tt
    (if-first P (bytes_eq word (codes "distinct")) _ _ tt (if-first P (bytes_eq word (codes "ite")) _ _ refl tt)))))))

arithmetic-plain : (ss : List Sort) (word : List ℕ) → IfSome (arithmetic_named word) (IsPlainOperator ss)
arithmetic-plain ss word =
    let P = IsPlainOperator ss in
    if-first P (bytes_eq word (codes "bvnot")) _ _ refl (if-first P (bytes_eq word (codes "bvand")) _ _ tt
    (if-first P (bytes_eq word (codes "bvor")) _ _ tt (if-first P (bytes_eq word (codes "bvxor")) _ _ tt
    (if-first P (bytes_eq word (codes "bvneg")) _ _ refl (if-first P (bytes_eq word (codes "bvadd")) _ _ tt
    (if-first P (bytes_eq word (codes "bvsub")) _ _ refl (if-first P (bytes_eq word (codes "bvmul")) _ _ tt tt)))))))

division-plain : (ss : List Sort) (word : List ℕ) → IfSome (division_named word) (IsPlainOperator ss)
division-plain ss word =
    let P = IsPlainOperator ss in
    if-first P (bytes_eq word (codes "bvudiv")) _ _ refl (if-first P (bytes_eq word (codes "bvurem")) _ _ refl
    (if-first P (bytes_eq word (codes "bvsdiv")) _ _ tt (if-first P (bytes_eq word (codes "bvsrem")) _ _ tt
    (if-first P (bytes_eq word (codes "bvsmod")) _ _ tt (if-first P (bytes_eq word (codes "bvshl")) _ _ refl
    (if-first P (bytes_eq word (codes "bvlshr")) _ _ refl
    (if-first P (bytes_eq word (codes "bvashr")) _ _ refl tt)))))))

order-plain : (ss : List Sort) (word : List ℕ) → IfSome (order_named word) (IsPlainOperator ss)
order-plain ss word =
    let P = IsPlainOperator ss in
    if-first P (bytes_eq word (codes "bvult")) _ _ refl (if-first P (bytes_eq word (codes "bvule")) _ _ refl
    (if-first P (bytes_eq word (codes "bvslt")) _ _ refl (if-first P (bytes_eq word (codes "bvsle")) _ _ refl
    (if-first P (bytes_eq word (codes "bvugt")) _ _ tt (if-first P (bytes_eq word (codes "bvuge")) _ _ tt
    (if-first P (bytes_eq word (codes "bvsgt")) _ _ tt (if-first P (bytes_eq word (codes "bvsge")) _ _ tt tt)))))))

other-plain : (ss : List Sort) (word : List ℕ) → IfSome (other_named word) (IsPlainOperator ss)
other-plain ss word =
    let P = IsPlainOperator ss in
    if-first P (bytes_eq word (codes "bvnand")) _ _ tt (if-first P (bytes_eq word (codes "bvnor")) _ _ tt
    (if-first P (bytes_eq word (codes "bvxnor")) _ _ tt (if-first P (bytes_eq word (codes "bvcomp")) _ _ tt
    (if-first P (bytes_eq word (codes "concat")) _ _ tt tt))))

named-plain : (ss : List Sort) (word : List ℕ) → IfSome (operator_named word) (IsPlainOperator ss)
named-plain ss word =
    let P = IsPlainOperator ss in
    let first = option_or (core_named word) (arithmetic_named word) in
    let second = option_or first (division_named word) in
    let third = option_or second (order_named word) in
    if-or P third (other_named word) (if-or P second (order_named word) (if-or P first (division_named word)
    (if-or P (core_named word) (arithmetic_named word) (core-plain ss word) (arithmetic-plain ss word))
    (division-plain ss word)) (order-plain ss word)) (other-plain ss word)

indexed-plain : (ss : List Sort) (word : List ℕ) (trees : List Tree)
    → IfSome (indexed_named word) (λ family. IfSome (with_indices family trees) (IsPlainOperator ss))
indexed-plain ss word trees =
    let P = IsPlainOperator ss in
    if-first _ (bytes_eq word (codes "extract")) _ _ (if-mapped P _ (two_indices trees) (λ k. tt))
    (if-first _ (bytes_eq word (codes "zero_extend")) _ _ (if-mapped P _ (one_index trees) (λ k. tt))
    (if-first _ (bytes_eq word (codes "sign_extend")) _ _ (if-mapped P _ (one_index trees) (λ k. tt))
    (if-first _ (bytes_eq word (codes "rotate_left")) _ _ (if-mapped P _ (one_index trees) (λ k. tt))
    (if-first _ (bytes_eq word (codes "rotate_right")) _ _ (if-mapped P _ (one_index trees) (λ k. tt))
    (if-first _ (bytes_eq word (codes "repeat")) _ _ (if-mapped P _ (one_index trees) (λ k. tt)) tt)))))

operator-plain : (ss : List Sort) (head : Tree) (o : Operator) → IsOperator head o → IsPlainOperator ss o
operator-plain ss head o (inl w) =
    from-some (IsPlainOperator ss) (operator_named w.0) o (named-plain ss w.0) w.2
operator-plain ss head o (inr i) =
    from-some (IsPlainOperator ss) (with_indices i.family i.indices) o
    (from-some (λ family. IfSome (with_indices family i.indices) (IsPlainOperator ss)) (indexed_named i.word) i.family
    (indexed-plain ss i.word i.indices) i.named) i.numbers

access-plain : (ss : List Sort) (word : List ℕ) (n : ℕ)
    → IfSome (access_named word) (λ access. IsPlain ss (access_of access n))
access-plain ss word n =
    if-first _ (bytes_eq word (codes "mload")) _ _ refl (if-first _ (bytes_eq word (codes "mmark")) _ _ refl
    (if-first _ (bytes_eq word (codes "mstore")) _ _ refl tt))

over-stays : (ss : List Sort) (p : ℕ) (o : Operator) (ts : List Term) (t : Term) → IsPlainOperator ss o
    → EachStays ss ts → IsOver p o ts t → Stays ss t
over-stays ss p o ts t plain all is =
    subst (Stays ss) (sym is.term) (written-stays ss o (sorts_in p ts) ts plain all)

-- ---- names in scope

abbrev pub ScopeStays : List Sort → Scope → Type 0
ScopeStays ss [] = Unit {0}
ScopeStays ss (b ∷ bs) = Stays ss b.1 × ScopeStays ss bs

joined-scope : (ss : List Sort) (bound scope : Scope) → ScopeStays ss bound → ScopeStays ss scope
    → ScopeStays ss (bound ++ scope)
joined-scope ss [] scope h k = k
joined-scope ss (b ∷ bs) scope h k = (h.0, joined-scope ss bs scope h.1 k)

named-stays : (ss : List Sort) (scope : Scope) (word : List ℕ) → ScopeStays ss scope
    → IfSome (named scope word) (Stays ss)
named-stays ss [] word h = tt
named-stays ss (b ∷ bs) word h = if-first (Stays ss) _ b.1 (named bs word) h.0 (named-stays ss bs word h.1)

word-stays : (ss : List Sort) (scope : Scope) (word : List ℕ) (t : Term) → ScopeStays ss scope
    → IsWordOf scope word t → Stays ss t
word-stays ss scope word t all (inl w) =
    constant-term-stays ss w.0 t (from-some (IsPlain ss) (literal word) w.0 (literal-plain ss word) w.1) w.2
word-stays ss scope word t all (inr (inl w)) =
    constant-term-stays ss w.0 t (from-some (IsPlain ss) (truth_value word) w.0 (truth-plain ss word) w.1) w.2
word-stays ss scope word t all (inr (inr w)) =
    from-some (Stays ss) (named scope word) t (named-stays ss scope word all) w.1

-- ---- terms

access-stays : (ss : List Sort) (p : ℕ) (head : Tree) (rest : List Tree) (AreArguments : List Term → Type 0) (t : Term)
    → ((ts : List Term) → AreArguments ts → EachStays ss ts) → IsAccess p head rest AreArguments t → Stays ss t
access-stays ss p head [] AreArguments t stay i = absurd i
access-stays ss p head (size ∷ rest) AreArguments t stay i =
    over-stays ss p (Operation (access_of i.1 i.2)) i.3 t
    (from-some (λ access. IsPlain ss (access_of access i.2)) (access_named i.0) i.1 (access-plain ss i.0 i.2) i.5)
    (stay i.3 i.7) i.8

mutual
  pub term-stays : (ss : List Sort) (p : ℕ) (scope : Scope) (tree : Tree) (t : Term) → ScopeStays ss scope
      → IsTermOf p scope tree t → Stays ss t
  term-stays ss p scope (Word first word) t all w = word-stays ss scope word t all w
  term-stays ss p scope (Branch from to End) t all w = absurd w
  term-stays ss p scope (Branch from to (Then head rest)) t all (inl d) =
      constant-term-stays ss d.constant t
      (from-some (IsPlain ss) (decimal_literal d.digits d.width_digits) d.constant
      (decimal-plain ss d.digits d.width_digits) d.number) d.term
  term-stays ss p scope (Branch from to (Then head rest)) t all (inr (inl a)) =
      over-stays ss p a.0 a.1 t (operator-plain ss head a.0 a.2) (terms-stay ss p scope rest a.1 all a.3) a.4
  term-stays ss p scope (Branch from to (Then head rest)) t all (inr (inr (inl a))) =
      access-stays ss p head (list_of rest) (λ ts. AreLaterOf p scope rest ts) t
      (λ ts are. later-stay ss p scope rest ts all are) a
  term-stays ss p scope (Branch from to (Then head rest)) t all (inr (inr (inr b))) =
      body-stays ss p scope rest t all b.1

  terms-stay : (ss : List Sort) (p : ℕ) (scope : Scope) (trees : Trees) (ts : List Term) → ScopeStays ss scope
      → AreTermsOf p scope trees ts → EachStays ss ts
  terms-stay ss p scope End [] all are = tt
  terms-stay ss p scope End (t ∷ ts) all are = absurd are
  terms-stay ss p scope (Then tree trees) [] all are = absurd are
  terms-stay ss p scope (Then tree trees) (t ∷ ts) all are =
      (term-stays ss p scope tree t all are.0, terms-stay ss p scope trees ts all are.1)

  later-stay : (ss : List Sort) (p : ℕ) (scope : Scope) (trees : Trees) (ts : List Term) → ScopeStays ss scope
      → AreLaterOf p scope trees ts → EachStays ss ts
  later-stay ss p scope End ts all are = absurd are
  later-stay ss p scope (Then tree trees) ts all are = terms-stay ss p scope trees ts all are

  body-stays : (ss : List Sort) (p : ℕ) (scope : Scope) (trees : Trees) (t : Term) → ScopeStays ss scope
      → IsBody p scope trees t → Stays ss t
  body-stays ss p scope (Then (Branch from to bindings) (Then body End)) t all b =
      term-stays ss p (b.0 ++ scope) body t
      (joined-scope ss b.0 scope (bound-stay ss p scope bindings b.0 all b.1) all) b.4
  body-stays ss p scope trees t all b = absurd b

  bound-stay : (ss : List Sort) (p : ℕ) (scope : Scope) (trees : Trees) (bound : Scope) → ScopeStays ss scope
      → AreBoundBy p scope trees bound → ScopeStays ss bound
  bound-stay ss p scope End [] all are = tt
  bound-stay ss p scope (Then (Branch from to (Then (Word first name) (Then tree End))) trees) (b ∷ bound) all are =
      (term-stays ss p scope tree b.1 all are.2, bound-stay ss p scope trees bound all are.3)
  bound-stay ss p scope trees bound all are = absurd are

-- ---- the scope of a definition

same_sort-itself : (s : Sort) → same_sort s s ≡ true
same_sort-itself sort.Bool = refl
same_sort-itself (sort.Bits w) = grind (arith, nat_tests)
same_sort-itself sort.Mem = refl

input-plain : (before : List Sort) (s : Sort) (later : List Sort)
    → IsPlain (before ++ s ∷ later) (op.Input (length before) s)
input-plain before s later =
    ap (λ o. option_map_or (same_sort s) o false)
    (slice_get-append_right before (s ∷ later) 0 (length before) (omega arith))
    ∙ same_sort-itself s

scope-after : (before : List Sort) (params : List Param)
    → ScopeStays (before ++ sorts_of params) (scope_from (length before) params)
scope-after before [] = tt
scope-after before (param ∷ params) =
    let ss = before ++ sorts_of (param ∷ params) in (
      applied-stays ss (op.Input (length before) param.sort) [] (input-plain before param.sort (sorts_of params)) tt,
      subst (λ n. ScopeStays ss (scope_from n params)) (length-append before (param.sort ∷ []))
          (subst (λ qs. ScopeStays qs (scope_from (length (before ++ param.sort ∷ [])) params))
          (append_assoc before (param.sort ∷ []) (sorts_of params)) (scope-after (before ++ param.sort ∷ []) params)),
    )

pub scope-stays : (params : List Param) → ScopeStays (sorts_of params) (scope_from 0 params)
scope-stays params = scope-after [] params

-- ---- the results of a definition

if-of-term : (P : Term → Type 0) (r : Result Term TermFault) → ((t : Term) → r ≡ Ok t → P t) → IfOk (of_term r) P
if-of-term P (Ok t) h = h t refl
if-of-term P (Err f) h = tt

if-and-then : {A B : Type 0} (P : A → Type 0) (Q : B → Type 0) (r : Result A SpecFault)
    (next : A → Result B SpecFault) → IfOk r P → ((a : A) → P a → IfOk (next a) Q) → IfOk (and_then r next) Q
if-and-then P Q (Ok a) next h k = k a h
if-and-then P Q (Err f) next h k = tt

result-stays : (ss : List Sort) (p : ℕ) (scope : Scope) (tree : Tree) → ScopeStays ss scope
    → IfOk (result_read p scope tree) (Stays ss)
result-stays ss p scope tree all =
    if-of-term (Stays ss) (term_read p scope tree)
    (λ t e. term-stays ss p scope tree t all (read-is-term p scope tree t e))

results-stay : (ss : List Sort) (p : ℕ) (scope : Scope) (trees : List Tree) → ScopeStays ss scope
    → IfOk (results_read p scope trees) (EachStays ss)
results-stay ss p scope [] all = tt
results-stay ss p scope (tree ∷ trees) all =
    if-and-then (Stays ss) (EachStays ss) (result_read p scope tree) _ (result-stays ss p scope tree all)
    (λ t h. if-and-then (EachStays ss) (EachStays ss) (results_read p scope trees) (λ ts. Ok (t ∷ ts))
    (results-stay ss p scope trees all) (λ ts k. (h, k)))

each-at : (ss : List Sort) (table : Table) (nodes : List TermId) → EachStays ss (terms_at table nodes)
    → All (λ at. stays_in ss (term_at table at) ≡ true) nodes
each-at ss table [] h = All-nil (λ at. stays_in ss (term_at table at) ≡ true)
each-at ss table (at ∷ nodes) h =
    All-cons (λ at. stays_in ss (term_at table at) ≡ true) at nodes h.0 (each-at ss table nodes h.1)

-- the inputs of results that are read under the names of these parameters are the parameters
pub results-read-stay : (p : ℕ) (params : List Param) (trees : List Tree) (table : Table) (nodes : List TermId)
    → results_read p (scope_from 0 params) trees ≡ Ok (terms_at table nodes)
    → All (λ at. stays_in (sorts_of params) (term_at table at) ≡ true) nodes
results-read-stay p params trees table nodes e =
    each-at (sorts_of params) table nodes
    (subst (λ r. IfOk r (EachStays (sorts_of params))) e
    (results-stay (sorts_of params) p (scope_from 0 params) trees (scope-stays params)))
