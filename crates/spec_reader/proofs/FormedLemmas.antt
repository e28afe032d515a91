-- What the form of a definition says of its parts.
use Rattle.std.proofs.Common.{◌≡◌, ℕ, ◌≤◌, List, [], ◌∷◌, length, Option, Some, None}
use Rattle.std.proofs.Common.{true, false, Bool, refl, sym, subst}
use Rattle.std.proofs.Common.{IfSome, ◌&&◌, arith}
use Rattle.std.specs.Prelude.{option_and_then, option_map, if◌then◌else◌, codes}
use Rattle.std.specs.List.{AllByRecursion}
use Rattle.std.specs.Option.{option_or}
use Rattle.std.specs.Str.{bytes_eq}
use Rattle.std.proofs.lemmas.Bool.{false≢true}
use Rattle.list_lemmas.proofs.Bools.{and_right}
use Rattle.bv_terms.specs.declared.value.Sort.{Sort}
use Rattle.bv_terms.specs.declared.value.Sort.TheVariants as sort
use Rattle.sexp_read.specs.Tree.{Tree, word_of, members_of}
use Rattle.sexp_read.specs.Words.{is_numeral, is_between, decimal_value, numeral_between}
use Rattle.term_text.specs.Literal.{each}
use Rattle.isel_spec.specs.File.{has_kind, is_sized}
use Rattle.spec_reader.specs.declared.form.Parts as parts
use Rattle.spec_reader.specs.Form.{Param, Parts, where_true, is_word, is_name_in, name_in, arg_in, attr_in, garg_in}
use Rattle.spec_reader.specs.Form.{some_of, numeral_in, op_of, op_from, goal_of, goal_from, parts_from, parts_in}
use Rattle.spec_reader.specs.Form.{vector_in, sort_named, sort_in, kind_named, arg_from, is_vector, garg_from}
use Rattle.spec_reader.specs.Parts.{parts_by}

-- ---- steps that may fail

-- P holds of what a step gives, where it holds of what the next one gives of each value of which Q holds
given : {A B : Type 0} (Q : A → Type 0) (P : B → Type 0) (o : Option A) (f : A → Option B) → IfSome o Q
    → ((a : A) → Q a → IfSome (f a) P) → IfSome (option_and_then f o) P
given Q P None f q h = tt
given Q P (Some a) f q h = h a q

-- the same of a step of which nothing is known
always : {A B : Type 0} (P : B → Type 0) (o : Option A) (f : A → Option B) → ((a : A) → IfSome (f a) P)
    → IfSome (option_and_then f o) P
always P None f h = tt
always P (Some a) f h = h a

either : {B : Type 0} (P : B → Type 0) (b : Bool) (o q : Option B) → IfSome o P → IfSome q P
    → IfSome (if b then o else q) P
either P true o q h k = h
either P false o q h k = k

one-of : {B : Type 0} (P : B → Type 0) (o q : Option B) → IfSome o P → IfSome q P → IfSome (option_or o q) P
one-of P None q h k = k
one-of P (Some b) q h k = h

tested : {B : Type 0} (P : B → Type 0) (b : Bool) (x : B) → (b ≡ true → P x) → IfSome (if b then Some x else None) P
tested P true x h = h refl
tested P false x h = tt

where-tested : {B : Type 0} (P : B → Type 0) (b : Bool) (x : B) → (b ≡ true → P x) → IfSome (where_true b x) P
where-tested P true x h = h refl
where-tested P false x h = tt

mapped : {A B : Type 0} (Q : A → Type 0) (P : B → Type 0) (f : A → B) (o : Option A) → IfSome o Q
    → ((a : A) → Q a → P (f a)) → IfSome (option_map f o) P
mapped Q P f None q h = tt
mapped Q P f (Some a) q h = h a q

-- P holds of all that the elements give, where it holds of what each of them gives
each-given : {A B : Type 0} (P : B → Type 0) (f : A → Option B) → ((a : A) → IfSome (f a) P) → (xs : List A)
    → IfSome (each f xs) (AllByRecursion P)
each-given P f h [] = tt
each-given P f h (x ∷ xs) =
    given P (AllByRecursion P) (f x) _ (h x)
    (λ y p. given (AllByRecursion P) (AllByRecursion P) (each f xs) _ (each-given P f h xs) (λ ys ps. (p, ps)))

-- ---- names, sorts and kinds

abbrev IsNameTree : Tree → Type 0
IsNameTree tree = is_name_in tree ≡ true

name-named : (tree : Tree) → IfSome (name_in tree) IsNameTree
name-named tree = where-tested IsNameTree (is_name_in tree) tree (λ e. e)

abbrev IsSizedSort : Sort → Type 0
IsSizedSort s = is_sized s ≡ true

width-sized : (word : List ℕ) → IfSome (numeral_between 1 64 word) (λ w. is_between 1 64 w ≡ true)
width-sized word =
    tested (λ w. is_between 1 64 w ≡ true) (is_numeral word && is_between 1 64 (decimal_value word))
    (decimal_value word) (λ e. and_right (is_numeral word) (is_between 1 64 (decimal_value word)) e)

vector-sized : (trees : List Tree) → IfSome (vector_in trees) IsSizedSort
vector-sized [] = tt
vector-sized (a ∷ []) = tt
vector-sized (a ∷ b ∷ []) = tt
vector-sized (a ∷ b ∷ c ∷ []) =
    let width = option_and_then (numeral_between 1 64) (word_of c) in
    either IsSizedSort (is_word (codes "_") a && is_word (codes "BitVec") b) (option_map (λ w. sort.Bits w) width) None
    (mapped (λ w. is_between 1 64 w ≡ true) IsSizedSort (λ w. sort.Bits w) width
    (always (λ w. is_between 1 64 w ≡ true) (word_of c) (numeral_between 1 64) width-sized) (λ w e. e)) tt
vector-sized (a ∷ b ∷ c ∷ d ∷ ds) = tt

named-sized : (word : List ℕ) → IfSome (sort_named word) IsSizedSort
named-sized word =
    either IsSizedSort (bytes_eq word (codes "Bool")) (Some sort.Bool)
    (if bytes_eq word (codes "Mem") then Some sort.Mem else None) refl
    (either IsSizedSort (bytes_eq word (codes "Mem")) (Some sort.Mem) None refl tt)

sort-sized : (tree : Tree) → IfSome (sort_in tree) IsSizedSort
sort-sized tree =
    one-of IsSizedSort (option_and_then sort_named (word_of tree)) (option_and_then vector_in (members_of tree))
    (always IsSizedSort (word_of tree) sort_named named-sized)
    (always IsSizedSort (members_of tree) vector_in vector-sized)

-- ---- what is bound

-- a name, with a sort whose width is 1 to 64
pub record IsBound (q : Param) : Type 0 where
  pub name : is_name_in q.name ≡ true
  pub sized : is_sized q.sort ≡ true

pub record IsWidth (q : Param) : Type 0 where
  pub bound : IsBound q
  pub vector : is_vector q.sort ≡ true

pub record IsSource (q : Param) : Type 0 where
  pub bound : IsBound q
  pub kind : has_kind (q.kind, q.sort) ≡ true

arg-from : (trees : List Tree) → IfSome (arg_from trees) IsBound
arg-from [] = tt
arg-from (a ∷ []) = tt
arg-from (a ∷ b ∷ []) =
    given IsNameTree IsBound (name_in a) _ (name-named a)
    (λ n e. given IsSizedSort IsBound (sort_in b) _ (sort-sized b) (λ s k. record { name = e; sized = k }))
arg-from (a ∷ b ∷ c ∷ cs) = tt

arg-bound : (tree : Tree) → IfSome (arg_in tree) IsBound
arg-bound tree = always IsBound (members_of tree) arg_from arg-from

attr-bound : (tree : Tree) → IfSome (attr_in tree) IsWidth
attr-bound tree =
    given IsBound IsWidth (arg_in tree) _ (arg-bound tree)
    (λ q b. where-tested IsWidth (is_vector q.sort) q (λ e. record { bound = b; vector = e }))

garg-from : (trees : List Tree) → IfSome (garg_from trees) IsSource
garg-from [] = tt
garg-from (a ∷ []) = tt
garg-from (a ∷ b ∷ []) = tt
garg-from (a ∷ b ∷ c ∷ []) =
    always IsSource (word_of a) _
    (λ word. always IsSource (kind_named word) _
    (λ from. given IsNameTree IsSource (name_in b) _ (name-named b)
    (λ n e. given IsSizedSort IsSource (sort_in c) _ (sort-sized c)
    (λ s k. where-tested IsSource (has_kind (from, s)) (record { name = n; kind = from; sort = s })
    (λ h. record { bound = record { name = e; sized = k }; kind = h })))))
garg-from (a ∷ b ∷ c ∷ d ∷ ds) = tt

garg-bound : (tree : Tree) → IfSome (garg_in tree) IsSource
garg-bound tree = always IsSource (members_of tree) garg_from garg-from

-- ---- a definition

-- what the form says of a definition; a goal has no attributes, and its arguments have kinds
pub record IsFormed (parts : Parts) : Type 0 where
  pub name : is_name_in parts.name ≡ true
  pub args : AllByRecursion IsBound parts.args
  pub attrs : AllByRecursion IsWidth parts.attrs
  pub kinds : parts.is_goal ≡ true → AllByRecursion IsSource parts.args
  pub bare : parts.is_goal ≡ true → parts.attrs ≡ []
  pub some : 1 ≤ length parts.results

abbrev IsSomeOf : List Tree → Type 0
IsSomeOf ts = 1 ≤ length ts

some-given : (trees : List Tree) → IfSome (some_of trees) IsSomeOf
some-given [] = tt
some-given (t ∷ ts) = omega arith

results-given : (tree : Tree) → IfSome (option_and_then some_of (members_of tree)) IsSomeOf
results-given tree = always IsSomeOf (members_of tree) some_of some-given

list-given : (P : Param → Type 0) (f : Tree → Option Param) → ((tree : Tree) → IfSome (f tree) P) → (tree : Tree)
    → IfSome (option_and_then (each f) (members_of tree)) (AllByRecursion P)
list-given P f h tree = always (AllByRecursion P) (members_of tree) (each f) (each-given P f h)

sources-bound : (ps : List Param) → AllByRecursion IsSource ps → AllByRecursion IsBound ps
sources-bound [] h = tt
sources-bound (p ∷ ps) h = (h.0.bound, sources-bound ps h.1)

op-formed : (name args attrs results : Tree) → IfSome (op_of name args attrs results) IsFormed
op-formed name args attrs results =
    given IsNameTree IsFormed (name_in name) _ (name-named name)
    (λ n e. given (AllByRecursion IsBound) IsFormed (option_and_then (each arg_in) (members_of args)) _
    (list-given IsBound arg_in arg-bound args)
    (λ ps p. given (AllByRecursion IsWidth) IsFormed (option_and_then (each attr_in) (members_of attrs)) _
    (list-given IsWidth attr_in attr-bound attrs)
    (λ ws w. given IsSomeOf IsFormed (option_and_then some_of (members_of results)) _ (results-given results)
    (λ ts l. record {
      name = e;
      args = p;
      attrs = w;
      kinds = λ goal. absurd (false≢true goal);
      bare = λ goal. absurd (false≢true goal);
      some = l;
    }))))

goal-formed : (name args cost results : Tree) → IfSome (goal_of name args cost results) IsFormed
goal-formed name args cost results =
    given IsNameTree IsFormed (name_in name) _ (name-named name)
    (λ n e. given (AllByRecursion IsSource) IsFormed (option_and_then (each garg_in) (members_of args)) _
    (list-given IsSource garg_in garg-bound args)
    (λ ps p. always IsFormed (numeral_in cost) _
    (λ k. given IsSomeOf IsFormed (option_and_then some_of (members_of results)) _ (results-given results)
    (λ ts l. record {
      name = e;
      args = sources-bound ps p;
      attrs = tt;
      kinds = λ goal. p;
      bare = λ goal. refl;
      some = l;
    }))))

op-from-formed : (trees : List Tree) → IfSome (op_from trees) IsFormed
op-from-formed [] = tt
op-from-formed (a ∷ []) = tt
op-from-formed (a ∷ b ∷ []) = tt
op-from-formed (a ∷ b ∷ c ∷ []) = tt
op-from-formed (a ∷ b ∷ c ∷ d ∷ []) = op-formed a b c d
op-from-formed (a ∷ b ∷ c ∷ d ∷ e ∷ es) = tt

goal-from-formed : (trees : List Tree) → IfSome (goal_from trees) IsFormed
goal-from-formed [] = tt
goal-from-formed (a ∷ []) = tt
goal-from-formed (a ∷ b ∷ []) = tt
goal-from-formed (a ∷ b ∷ c ∷ []) = tt
goal-from-formed (a ∷ b ∷ c ∷ d ∷ []) = goal-formed a b c d
goal-from-formed (a ∷ b ∷ c ∷ d ∷ e ∷ es) = tt

from-formed : (trees : List Tree) → IfSome (parts_from trees) IsFormed
from-formed [] = tt
from-formed (head ∷ rest) =
    either IsFormed (is_word (codes "op") head) (op_from rest)
    (if is_word (codes "goal") head then goal_from rest else None) (op-from-formed rest)
    (either IsFormed (is_word (codes "goal") head) (goal_from rest) None (goal-from-formed rest) tt)

-- the form of a definition that an item is
pub parts-formed : (tree : Tree) (parts : Parts) → parts_in tree ≡ Some parts → IsFormed parts
parts-formed tree parts e =
    subst (λ o. IfSome o IsFormed) e (always IsFormed (members_of tree) parts_from from-formed)

by-items : (tree : ℕ → Tree) (found : Option parts.Parts) → IfSome (option_map (parts_by tree) found) IsFormed
    → IfSome found (λ p. is_name_in (tree p.name) ≡ true)
by-items tree None h = tt
by-items tree (Some p) h = h.name

-- the name of a definition that is read is a name
pub parts-named : (tree : ℕ → Tree) (found : Option parts.Parts) (trees : List Tree)
    → option_map (parts_by tree) found ≡ parts_from trees → IfSome found (λ p. is_name_in (tree p.name) ≡ true)
parts-named tree found trees e =
    by-items tree found (subst (λ o. IfSome o IsFormed) (sym e) (from-formed trees))
