-- What the head of a list says that the list is, or what is wrong with the head. Source: SMT-LIB 2.6, section 3.6 and
-- logic QF_BV; the accesses to a memory, and which fault is the first, are this project's own.
use Rattle.std.specs.Prelude.{ℕ, ◌-◌, ◌^◌, List, [], ◌∷◌, Option, Some, None, Result, Ok, Err, Bool, false, ◌==◌}
use Rattle.std.specs.Prelude.{◌&&◌, if◌then◌else◌, bytes_eq, codes, option_and_then, option_map}
use Rattle.bv_terms.specs.declared.op.Op.{Op}
use Rattle.bv_terms.specs.declared.op.Op.TheVariants as op
use Rattle.bv_terms.specs.Signature.{is_access}
use Rattle.sexp_read.specs.Words.{numeral_between}
use Rattle.sexp_read.specs.Tree.{Tree, Word, Branch, from_of, to_of, word_of, list_of}
use Rattle.term_text.specs.declared.fault.TermFault.{TermFault}
use Rattle.term_text.specs.declared.fault.TermKind.{TermKind}
use Rattle.term_text.specs.declared.fault.TermKind.TheVariants.{Unknown, Literal, Index}
use Rattle.term_text.specs.declared.head.Head.{Head}
use Rattle.term_text.specs.declared.head.Head.TheVariants.{Constant, Applied, Accessing, Binding}
use Rattle.term_text.specs.declared.head.Access.{Access}
use Rattle.term_text.specs.declared.head.Access.TheVariants.{Load, Mark, Store}
use Rattle.term_text.specs.declared.head.Indexed.{Indexed}
use Rattle.term_text.specs.declared.head.Indexed.TheVariants as indexed
use Rattle.term_text.specs.declared.operator.Operator.{Operator}
use Rattle.term_text.specs.declared.operator.Operator.TheVariants as operator
use Rattle.term_text.specs.Words.{operator_named}
use Rattle.term_text.specs.Literal.{decimal_literal}

-- the place of a tree's first byte, and the place after its last
abbrev pub Span : Type 0
Span = ℕ × ℕ

abbrev pub span_of : Tree → Span
span_of tree = (from_of tree, to_of tree)

-- a fault of a kind at a span
abbrev pub fault_at : TermKind → Span → TermFault
fault_at kind span = record { kind = kind; from = span.0; to = span.1 }

abbrev pub or_fault : {A : Type 0} → TermKind → Span → Option A → Result A TermFault
or_fault kind span (Some a) = Ok a
or_fault kind span None = Err (fault_at kind span)

-- ---- accesses to a memory

abbrev pub access_named : List ℕ → Option Access
access_named word =
    if bytes_eq word (codes "mload") then Some Load
    else if bytes_eq word (codes "mmark") then Some Mark
    else if bytes_eq word (codes "mstore") then Some Store
    else None

abbrev pub access_of : Access → ℕ → Op
access_of Load n = op.MLoad n
access_of Mark n = op.MMark n
access_of Store n = op.MStore n

-- the number of bytes of an access, 1, 2, 4 or 8, where there are as many addresses of p bits
abbrev pub where_access : ℕ → ℕ → Option ℕ
where_access p n = if is_access p n then Some n else None

abbrev pub access_size : ℕ → Tree → Option ℕ
access_size p tree = option_and_then (where_access p) (option_and_then (numeral_between 1 8) (word_of tree))

-- ---- operators with numbers of their own

abbrev pub indexed_named : List ℕ → Option Indexed
indexed_named word =
    if bytes_eq word (codes "extract") then Some indexed.Extract
    else if bytes_eq word (codes "zero_extend") then Some indexed.ZeroExtend
    else if bytes_eq word (codes "sign_extend") then Some indexed.SignExtend
    else if bytes_eq word (codes "rotate_left") then Some indexed.RotateLeft
    else if bytes_eq word (codes "rotate_right") then Some indexed.RotateRight
    else if bytes_eq word (codes "repeat") then Some indexed.Repeat
    else None

-- a numeral below 2 ^ 32
abbrev pub index_of : Tree → Option ℕ
index_of tree = option_and_then (numeral_between 0 (2 ^ 32 - 1)) (word_of tree)

abbrev pub one_index : List Tree → Option ℕ
one_index (k ∷ []) = index_of k
one_index _ = None

abbrev pub two_indices : List Tree → Option (ℕ × ℕ)
two_indices (i ∷ j ∷ []) = option_and_then (λ high. option_map (λ low. (high, low)) (index_of j)) (index_of i)
two_indices _ = None

abbrev pub with_indices : Indexed → List Tree → Option Operator
with_indices indexed.Extract trees = option_map (λ k. operator.Extract k.0 k.1) (two_indices trees)
with_indices indexed.ZeroExtend trees = option_map operator.ZeroExtend (one_index trees)
with_indices indexed.SignExtend trees = option_map operator.SignExtend (one_index trees)
with_indices indexed.RotateLeft trees = option_map operator.RotateLeft (one_index trees)
with_indices indexed.RotateRight trees = option_map operator.RotateRight (one_index trees)
with_indices indexed.Repeat trees = option_map operator.Repeat (one_index trees)

-- ---- heads

abbrev pub is_word : List ℕ → Tree → Bool
is_word word (Word first bytes) = bytes_eq bytes word
is_word word (Branch from to members) = false

-- the word of an operator with numbers, after the `_` that begins its list
abbrev pub indexed_after : Tree → Tree → Option Indexed
indexed_after underscore name =
    if is_word (codes "_") underscore then option_and_then indexed_named (word_of name) else None

-- an operator with its numbers, in a list of this span
abbrev pub indexed_in : Span → List Tree → Option Indexed → Result Head TermFault
indexed_in span indices None = Err (fault_at Unknown span)
indexed_in span indices (Some name) = or_fault Index span (option_map Applied (with_indices name indices))

-- a list at the head of a list: `(_ OPERATOR NUMERAL ..)`
abbrev pub list_head : Span → List Tree → Result Head TermFault
list_head span (underscore ∷ name ∷ indices) = indexed_in span indices (indexed_after underscore name)
list_head span _ = Err (fault_at Unknown span)

abbrev pub begins_with_bv : List ℕ → Bool
begins_with_bv (b ∷ v ∷ rest) = b == 98 && v == 118
begins_with_bv _ = false

-- the words of `(_ bvX n)`
abbrev pub is_bv : Tree → Bool
is_bv (Word first word) = begins_with_bv word
is_bv (Branch from to members) = false

abbrev pub constant_of : Tree → Tree → Option Op
constant_of name width =
    option_and_then (λ word. option_and_then (decimal_literal word) (word_of width)) (word_of name)

-- a list of this span that begins with `_`, with what follows in it
abbrev pub underscore_head : Span → List Tree → Result Head TermFault
underscore_head span (name ∷ width ∷ []) =
    if is_bv name then or_fault Literal span (option_map Constant (constant_of name width))
    else Err (fault_at Unknown span)
underscore_head span _ = Err (fault_at Unknown span)

abbrev pub named_head : Option Access → Option Operator → Option Head
named_head (Some access) operator = Some (Accessing access)
named_head None operator = option_map Applied operator

-- a word of this span at the head of a list, other than `_`
abbrev pub word_head : Span → List ℕ → Result Head TermFault
word_head span word =
    if bytes_eq word (codes "let") then Ok Binding
    else or_fault Unknown span (named_head (access_named word) (operator_named word))

-- the head of a list of this span, with what follows it in the list
abbrev pub head_of : Span → Tree → List Tree → Result Head TermFault
head_of span (Branch from to members) rest = list_head (from, to) (list_of members)
head_of span (Word first word) rest =
    if bytes_eq word (codes "_") then underscore_head span rest else word_head (span_of (Word first word)) word
