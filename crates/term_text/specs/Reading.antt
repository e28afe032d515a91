-- The term that a tree of a text is, or the first fault of the walk over it. Source: SMT-LIB 2.6, section 3.6 (terms,
-- `let`); which fault is the first is this project's own.
--
-- A list's head is looked at first, then its arguments from left to right, then whether the operator may stand over
-- them: their number, their sorts, its own numbers, the width of the result.
use Rattle.std.specs.Prelude.{ℕ, List, [], ◌∷◌, ◌++◌, length, map, slice_get, unwrap_or, Option, Some, None}
use Rattle.std.specs.Prelude.{is_some, option_map, option_and_then, Result, Ok, Err, Bool, true, false, not, ◌&&◌, ◌==◌}
use Rattle.std.specs.Prelude.{nat_lt, if◌then◌else◌}
use Rattle.std.specs.List.{list_all, list_any}
use Rattle.std.specs.Option.{option_or, option_map_or}
use Rattle.std.specs.Str.{bytes_eq}
use Rattle.collections.specs.Named.{named}
use Rattle.bv_terms.specs.declared.op.Op.{Op}
use Rattle.bv_terms.specs.declared.value.Sort.{Sort}
use Rattle.bv_terms.specs.declared.value.Sort.TheVariants as sort
use Rattle.bv_terms.specs.Term as term
use Rattle.bv_terms.specs.Term.{Term, Apply}
use Rattle.bv_terms.specs.WellSorted.{sort_of}
use Rattle.sexp_read.specs.Words.{is_name}
use Rattle.sexp_read.specs.Tree.{Tree, Trees, Word, Branch, End, Then, word_of, members_of, list_of}
use Rattle.term_text.specs.declared.fault.TermFault.{TermFault}
use Rattle.term_text.specs.declared.fault.TermKind.TheVariants as kind
use Rattle.term_text.specs.declared.head.Head.{Head}
use Rattle.term_text.specs.declared.head.Head.TheVariants.{Constant, Applied, Accessing, Binding}
use Rattle.term_text.specs.declared.head.Access.{Access}
use Rattle.term_text.specs.declared.judge.OperatorFault.{OperatorFault}
use Rattle.term_text.specs.declared.judge.OperatorFault.TheVariants as fault
use Rattle.term_text.specs.declared.operator.Operator.{Operator}
use Rattle.term_text.specs.declared.operator.Operator.TheVariants.{Operation}
use Rattle.term_text.specs.Operator.{judge}
use Rattle.term_text.specs.Written.{written}
use Rattle.term_text.specs.Literal.{literal, truth_value}
use Rattle.term_text.specs.Head.{Span, span_of, fault_at, or_fault, head_of, access_of, access_size}

-- names with the terms that they stand for, the innermost first
abbrev pub Scope : Type 0
Scope = List (List ℕ × Term)

-- what follows, where there is no fault before it
abbrev pub and_then : {A B : Type 0} → Result A TermFault → (A → Result B TermFault) → Result B TermFault
and_then (Ok a) next = next a
and_then (Err f) next = Err f

abbrev pub unless : {A : Type 0} → Option TermFault → Result A TermFault → Result A TermFault
unless (Some f) other = Err f
unless None other = other

-- ---- words

abbrev pub constant_term : Op → Term
constant_term o = Apply o term.End

abbrev pub begins_with_hash : List ℕ → Bool
begins_with_hash [] = false
begins_with_hash (b ∷ rest) = b == 35

-- the term of a name in scope
abbrev pub in_scope : Scope → List ℕ → Option Term
in_scope scope word = if is_name word then named scope word else None

abbrev pub word_read : Scope → Span → List ℕ → Result Term TermFault
word_read scope span word =
    if begins_with_hash word then or_fault kind.Literal span (option_map constant_term (literal word))
    else or_fault kind.Unknown span (option_or (option_map constant_term (truth_value word)) (in_scope scope word))

-- ---- operators over arguments

-- the sorts of well-sorted terms
abbrev pub sorts_in : ℕ → List Term → List Sort
sorts_in p ts = map (λ t. unwrap_or (sort_of p t) sort.Bool) ts

abbrev pub span_at : List Tree → ℕ → Span
span_at args place = option_map_or span_of (slice_get args place) (0, 0)

-- where a list of this span with these arguments has the fault
abbrev pub operator_fault : Span → List Tree → OperatorFault → TermFault
operator_fault span args fault.Arity = fault_at kind.Arity span
operator_fault span args (fault.Sorts place) = fault_at kind.Sorts (span_at args place)
operator_fault span args fault.Index = fault_at kind.Index span
operator_fault span args fault.Width = fault_at kind.Width span

abbrev pub judged : Span → List Tree → Result Sort OperatorFault → Term → Result Term TermFault
judged span args (Ok s) t = Ok t
judged span args (Err f) t = Err (operator_fault span args f)

-- an operator over the terms of these arguments, where a pointer has p bits
abbrev pub over : ℕ → Span → List Tree → Operator → List Term → Result Term TermFault
over p span args o ts = judged span args (judge p o (sorts_in p ts)) (written o (sorts_in p ts) ts)

-- ---- `let`

abbrev pub two_of : {A : Type 0} → List A → Option (A × A)
two_of (a ∷ b ∷ []) = Some (a, b)
two_of _ = None

abbrev pub pair_of : Tree → Option (Tree × Tree)
pair_of tree = option_and_then two_of (members_of tree)

-- the word that `(WORD TERM)` binds
abbrev pub bound_word : Tree → Option (List ℕ)
bound_word tree = option_and_then (λ (pair : Tree × Tree). word_of pair.0) (pair_of tree)

-- a bound word that is no name
abbrev pub word_fault : Option (Tree × Tree) → Option TermFault
word_fault None = None
word_fault (Some pair) =
    if option_map_or is_name (word_of pair.0) true then None else Some (fault_at kind.Unknown (span_of pair.0))

-- the first of them
abbrev pub names_fault : List Tree → Option TermFault
names_fault [] = None
names_fault (binding ∷ bindings) = option_or (word_fault (pair_of binding)) (names_fault bindings)

-- no two are equal
abbrev pub differ : List (List ℕ) → Bool
differ [] = true
differ (name ∷ names) = not (list_any (bytes_eq name) names) && differ names

-- one binding or more, each of the form `(WORD TERM)`
abbrev pub are_bindings : List Tree → Bool
are_bindings bindings = nat_lt 0 (length bindings) && list_all (λ b. is_some (bound_word b)) bindings

-- what is wrong with the bindings of a `let` of this span, apart from their terms: first their form, then the words,
-- then a name that is bound twice
abbrev pub twice_fault : Span → List Tree → Option TermFault
twice_fault span bindings =
    if differ (map (λ b. unwrap_or (bound_word b) []) bindings) then None else Some (fault_at kind.Arity span)

abbrev pub let_fault : Span → List Tree → Option TermFault
let_fault span bindings =
    if are_bindings bindings then option_or (names_fault bindings) (twice_fault span bindings)
    else Some (fault_at kind.Arity span)

-- ---- the walk

-- an access to a memory in a list of this span, with what follows its word: its number of bytes and its arguments
abbrev pub accessed : ℕ → Span → Access → List Tree → Result (List Term) TermFault → Result Term TermFault
accessed p span access [] later = Err (fault_at kind.Arity span)
accessed p span access (size ∷ rest) later =
    and_then (or_fault kind.Index (span_of size) (access_size p size))
    (λ n. and_then later (over p span rest (Operation (access_of access n))))

-- a list of this span by its head, with what follows it: the terms of all of that, those after the first, and the term
-- where it is a `let`
abbrev pub headed : ℕ → Span → List Tree → Result Head TermFault → Result (List Term) TermFault
    → Result (List Term) TermFault → Result Term TermFault → Result Term TermFault
headed p span rest (Err f) all later bound = Err f
headed p span rest (Ok (Constant o)) all later bound = Ok (constant_term o)
headed p span rest (Ok (Applied o)) all later bound = and_then all (over p span rest o)
headed p span rest (Ok (Accessing access)) all later bound = accessed p span access rest later
headed p span rest (Ok Binding) all later bound = bound

-- the term of a tree, with these names in scope, where a pointer has p bits
abbrev mutual
  pub term_read : ℕ → Scope → Tree → Result Term TermFault
  term_read p scope (Word first word) = word_read scope (span_of (Word first word)) word
  term_read p scope (Branch from to End) = Err (fault_at kind.Unknown (from, to))
  term_read p scope (Branch from to (Then head rest)) =
      headed p (from, to) (list_of rest) (head_of (from, to) head (list_of rest)) (terms_read p scope rest)
      (later_read p scope rest) (let_read p scope (from, to) rest)

  -- the terms of trees, from left to right
  pub terms_read : ℕ → Scope → Trees → Result (List Term) TermFault
  terms_read p scope End = Ok []
  terms_read p scope (Then tree trees) =
      and_then (term_read p scope tree) (λ t. and_then (terms_read p scope trees) (λ ts. Ok (t ∷ ts)))

  -- those of the trees after the first
  pub later_read : ℕ → Scope → Trees → Result (List Term) TermFault
  later_read p scope End = Ok []
  later_read p scope (Then tree trees) = terms_read p scope trees

  -- `(let (BINDING ..) BODY)` of this span, after its word: the bound terms do not see the names, the body does
  pub let_read : ℕ → Scope → Span → Trees → Result Term TermFault
  let_read p scope span (Then (Branch from to bindings) (Then body End)) =
      unless (let_fault span (list_of bindings))
      (and_then (bindings_read p scope bindings) (λ bound. term_read p (bound ++ scope) body))
  let_read p scope span _ = Err (fault_at kind.Arity span)

  -- the names of bindings with their terms; what is no binding is left out, but `let_fault` has told it before
  pub bindings_read : ℕ → Scope → Trees → Result Scope TermFault
  bindings_read p scope End = Ok []
  bindings_read p scope (Then (Branch from to (Then (Word first name) (Then tree End))) bindings) =
      and_then (term_read p scope tree)
      (λ t. and_then (bindings_read p scope bindings) (λ bound. Ok ((name, t) ∷ bound)))
  bindings_read p scope (Then _ bindings) = bindings_read p scope bindings
