-- The form of a file's items, read off the trees of its text. The file format is this project's own.
--
--   head  := (isel-spec 1 P)
--   item  := (op NAME (arg*) (attr*) (TERM+)) | (goal NAME (garg*) COST (TERM+))
--   arg   := (NAME SORT)      attr := (NAME (_ BitVec W))      garg := (KIND NAME SORT)
--   KIND  := reg | imm | mem, where `mem` stands exactly at `Mem`
--   SORT  := Bool | (_ BitVec W) | Mem, W 1 to 64
use Rattle.std.specs.Prelude.{ℕ, List, [], ◌∷◌, Option, Some, None, true, false, Bool, ◌&&◌}
use Rattle.std.specs.Prelude.{if◌then◌else◌, codes, option_and_then, option_map, unwrap_or}
use Rattle.std.specs.Option.{option_or, option_map_or}
use Rattle.std.specs.Str.{bytes_eq}
use Rattle.bv_terms.specs.declared.value.Sort.{Sort}
use Rattle.bv_terms.specs.declared.value.Sort.TheVariants as sort
use Rattle.sexp_read.specs.Words.{is_name, numeral, numeral_between}
use Rattle.sexp_read.specs.Tree.{Tree, word_of, members_of}
use Rattle.term_text.specs.Literal.{each}
use Rattle.isel_spec.specs.declared.definitions.Kind.{Kind}
use Rattle.isel_spec.specs.declared.definitions.Kind.TheVariants as kind
use Rattle.isel_spec.specs.File.{has_kind}

infixl 10 ◌>>=◌
abbrev pub ◌>>=◌ : {A B : Type 0} → Option A → (A → Option B) → Option B
o >>= f = option_and_then f o

abbrev pub where_true : {A : Type 0} → Bool → A → Option A
where_true true a = Some a
where_true false a = None

-- the tree is this word
abbrev pub is_word : List ℕ → Tree → Bool
is_word word tree = option_map_or (bytes_eq word) (word_of tree) false

-- a tree that is a name
abbrev pub is_name_in : Tree → Bool
is_name_in tree = option_map_or is_name (word_of tree) false

abbrev pub name_in : Tree → Option Tree
name_in tree = where_true (is_name_in tree) tree

-- the bytes of a name's tree
abbrev pub name_of : Tree → List ℕ
name_of tree = unwrap_or (word_of tree) []

-- `(_ BitVec W)`
abbrev pub vector_in : List Tree → Option Sort
vector_in (underscore ∷ family ∷ width ∷ []) =
    if is_word (codes "_") underscore && is_word (codes "BitVec") family
    then option_map (λ w. sort.Bits w) (word_of width >>= numeral_between 1 64)
    else None
vector_in _ = None

abbrev pub sort_named : List ℕ → Option Sort
sort_named word =
    if bytes_eq word (codes "Bool") then Some sort.Bool
    else if bytes_eq word (codes "Mem") then Some sort.Mem
    else None

abbrev pub sort_in : Tree → Option Sort
sort_in tree = option_or (word_of tree >>= sort_named) (members_of tree >>= vector_in)

abbrev pub kind_named : List ℕ → Option Kind
kind_named word =
    if bytes_eq word (codes "reg") then Some kind.Reg
    else if bytes_eq word (codes "imm") then Some kind.Imm
    else if bytes_eq word (codes "mem") then Some kind.Mem
    else None

-- a name that a definition binds: its tree, where it comes from, and its sort
pub record Param : Type 0 where
  pub name : Tree
  pub kind : Kind
  pub sort : Sort

-- `(NAME SORT)`; the kind says nothing
abbrev pub arg_from : List Tree → Option Param
arg_from (name ∷ s ∷ []) = do
  named ← name_in name
  sorted ← sort_in s
  Some (record { name = named; kind = kind.Reg; sort = sorted })
arg_from _ = None

abbrev pub arg_in : Tree → Option Param
arg_in tree = members_of tree >>= arg_from

-- `(NAME (_ BitVec W))`
abbrev pub is_vector : Sort → Bool
is_vector (sort.Bits w) = true
is_vector _ = false

abbrev pub attr_in : Tree → Option Param
attr_in tree = arg_in tree >>= λ param. where_true (is_vector param.sort) param

-- `(KIND NAME SORT)`
abbrev pub garg_from : List Tree → Option Param
garg_from (k ∷ name ∷ s ∷ []) = do
  word ← word_of k
  from ← kind_named word
  named ← name_in name
  sorted ← sort_in s
  where_true (has_kind (from, sorted)) (record { name = named; kind = from; sort = sorted })
garg_from _ = None

abbrev pub garg_in : Tree → Option Param
garg_in tree = members_of tree >>= garg_from

-- a numeral, which is given as 2 ^ 64 - 1 where it is greater
abbrev pub numeral_in : Tree → Option ℕ
numeral_in tree = word_of tree >>= numeral

-- what an item defines, before its limits, names and terms are looked at
pub record Parts : Type 0 where
  pub is_goal : Bool
  pub name : Tree
  pub args : List Param
  pub attrs : List Param
  pub cost : ℕ
  pub results : List Tree

-- a list of one or more
abbrev pub some_of : {A : Type 0} → List A → Option (List A)
some_of [] = None
some_of (t ∷ ts) = Some (t ∷ ts)

abbrev pub op_of : Tree → Tree → Tree → Tree → Option Parts
op_of name args attrs results = do
  named ← name_in name
  params ← members_of args >>= each arg_in
  widths ← members_of attrs >>= each attr_in
  terms ← members_of results >>= some_of
  Some (record { is_goal = false; name = named; args = params; attrs = widths; cost = 0; results = terms })

abbrev pub op_from : List Tree → Option Parts
op_from (name ∷ args ∷ attrs ∷ results ∷ []) = op_of name args attrs results
op_from _ = None

abbrev pub goal_of : Tree → Tree → Tree → Tree → Option Parts
goal_of name args cost results = do
  named ← name_in name
  params ← members_of args >>= each garg_in
  costs ← numeral_in cost
  terms ← members_of results >>= some_of
  Some (record { is_goal = true; name = named; args = params; attrs = []; cost = costs; results = terms })

abbrev pub goal_from : List Tree → Option Parts
goal_from (name ∷ args ∷ cost ∷ results ∷ []) = goal_of name args cost results
goal_from _ = None

-- `(op ..)` or `(goal ..)`
abbrev pub parts_from : List Tree → Option Parts
parts_from (head ∷ rest) =
    if is_word (codes "op") head then op_from rest
    else if is_word (codes "goal") head then goal_from rest
    else None
parts_from [] = None

abbrev pub parts_in : Tree → Option Parts
parts_in tree = members_of tree >>= parts_from

-- `(isel-spec 1 P)`: the tree of P, and its number
abbrev pub is_head : Tree → Tree → Bool
is_head word version = is_word (codes "isel-spec") word && is_word (codes "1") version

abbrev pub head_from : List Tree → Option (Tree × ℕ)
head_from (word ∷ version ∷ pointer ∷ []) =
    if is_head word version then option_map (λ p. (pointer, p)) (numeral_in pointer) else None
head_from _ = None

abbrev pub head_in : Tree → Option (Tree × ℕ)
head_in tree = members_of tree >>= head_from
