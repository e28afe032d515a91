-- The file that the trees of a text are, or the first fault of the walk over them. The file format, and which fault is
-- the first, are this project's own.
use Rattle.std.specs.Prelude.{ℕ, ◌+◌, List, [], ◌∷◌, ◌++◌, length, map, Option, Some, None, Result, Ok, Err}
use Rattle.std.specs.Prelude.{not, ◌&&◌, ◌==◌, nat_le, if◌then◌else◌}
use Rattle.std.specs.List.{list_any}
use Rattle.std.specs.Option.{option_or}
use Rattle.std.specs.Str.{bytes_eq}
use Rattle.bv_terms.specs.declared.op.Op.TheVariants as op
use Rattle.bv_terms.specs.declared.value.Sort.{Sort}
use Rattle.bv_terms.specs.Term.{Term, Apply}
use Rattle.bv_terms.specs.Term as term
use Rattle.bv_terms.specs.Sorts.{width_of}
use Rattle.sexp_read.specs.Tree.{Tree}
use Rattle.term_text.specs.declared.fault.TermFault.{TermFault}
use Rattle.term_text.specs.declared.fault.TermKind.{TermKind}
use Rattle.term_text.specs.declared.fault.TermKind.TheVariants as kind
use Rattle.term_text.specs.Head.{Span, span_of}
use Rattle.term_text.specs.Reading.{Scope, term_read}
use Rattle.isel_spec.specs.File.{File, Operation, Goal}
use Rattle.isel_spec.specs.Memory.{subterm_count, has_memory_shape, has_plain_pointers, accessed_bytes}
use Rattle.spec_reader.specs.declared.fault.SpecFault.{SpecFault}
use Rattle.spec_reader.specs.declared.fault.SpecKind.{SpecKind}
use Rattle.spec_reader.specs.declared.fault.SpecKind.TheVariants as fault
use Rattle.spec_reader.specs.declared.fault.Which.{Which}
use Rattle.spec_reader.specs.declared.fault.Which.TheVariants as which
use Rattle.spec_reader.specs.Form.{Param, Parts, name_of, parts_in, head_in}

abbrev pub fault_at : SpecKind → Span → SpecFault
fault_at kind span = record { kind = kind; from = span.0; to = span.1 }

-- what follows, where there is no fault before it
abbrev pub and_then : {A B : Type 0} → Result A SpecFault → (A → Result B SpecFault) → Result B SpecFault
and_then (Ok a) next = next a
and_then (Err f) next = Err f

abbrev pub unless : {A : Type 0} → Option SpecFault → Result A SpecFault → Result A SpecFault
unless (Some f) other = Err f
unless None other = other

abbrev pub or_fault : {A : Type 0} → SpecKind → Span → Option A → Result A SpecFault
or_fault kind span (Some a) = Ok a
or_fault kind span None = Err (fault_at kind span)

-- the first of two faults
abbrev pub first_fault : List (Option SpecFault) → Option SpecFault
first_fault [] = None
first_fault (f ∷ fs) = option_or f (first_fault fs)

-- a number above its limit, at a span
abbrev pub above : Which → ℕ → ℕ → Span → Option SpecFault
above what most found span = if nat_le found most then None else Some (fault_at (fault.Limit what found) span)

-- ---- names

-- a name that is too long
abbrev pub long_name : Tree → Option SpecFault
long_name name = above which.Name 64 (length (name_of name)) (span_of name)

-- a name that stands among earlier ones
abbrev pub twice_named : List (List ℕ) → Tree → Option SpecFault
twice_named earlier name =
    if list_any (bytes_eq (name_of name)) earlier then Some (fault_at fault.TwiceNamed (span_of name)) else None

abbrev pub name_fault : List (List ℕ) → Tree → Option SpecFault
name_fault earlier name = option_or (long_name name) (twice_named earlier name)

-- the first such fault of names, in order
abbrev pub names_fault : List (List ℕ) → List Tree → Option SpecFault
names_fault earlier [] = None
names_fault earlier (name ∷ names) =
    option_or (name_fault earlier name) (names_fault (earlier ++ name_of name ∷ []) names)

-- ---- a definition

-- the names of all definitions so far
abbrev pub defined : File → List (List ℕ)
defined f = map (λ (o : Operation). o.name) f.ops ++ map (λ (g : Goal). g.name) f.goals

-- one more operation or goal than there may be
abbrev pub count_fault : File → Parts → Span → Option SpecFault
count_fault f parts span =
    if parts.is_goal then above which.Goals 256 (length f.goals + 1) span
    else above which.Ops 64 (length f.ops + 1) span

abbrev pub limit_fault : Parts → Span → Option SpecFault
limit_fault parts span =
    first_fault (above which.Args 4 (length parts.args) span ∷ above which.Attrs 2 (length parts.attrs) span
    ∷ above which.Results 3 (length parts.results) span ∷ above which.Cost 65535 parts.cost span ∷ [])

-- the names of a definition stand for its inputs, the arguments first
abbrev pub scope_from : ℕ → List Param → Scope
scope_from number [] = []
scope_from number (param ∷ params) =
    (name_of param.name, Apply (op.Input number param.sort) term.End) ∷ scope_from (number + 1) params

abbrev pub params_of : Parts → List Param
params_of parts = parts.args ++ parts.attrs

-- a fault of a term as a fault of the file
abbrev pub kind_of : TermKind → SpecKind
kind_of kind.Unknown = fault.Unknown
kind_of kind.Literal = fault.Literal
kind_of kind.Index = fault.Index
kind_of kind.Arity = fault.Arity
kind_of kind.Sorts = fault.Sorts
kind_of kind.Width = fault.Width
kind_of kind.NoMemory = fault.NoMemory

abbrev pub term_fault : TermFault → SpecFault
term_fault f = fault_at (kind_of f.kind) (f.from, f.to)

abbrev pub of_term : Result Term TermFault → Result Term SpecFault
of_term (Ok t) = Ok t
of_term (Err f) = Err (term_fault f)

abbrev pub result_read : ℕ → Scope → Tree → Result Term SpecFault
result_read p scope tree = of_term (term_read p scope tree)

-- the terms of the results, in order
abbrev pub results_read : ℕ → Scope → List Tree → Result (List Term) SpecFault
results_read p scope [] = Ok []
results_read p scope (tree ∷ trees) =
    and_then (result_read p scope tree) (λ t. and_then (results_read p scope trees) (λ ts. Ok (t ∷ ts)))

abbrev pub sorts_of : List Param → List Sort
sorts_of params = map (λ (p : Param). p.sort) params

abbrev pub goal_fault : Parts → List Term → Span → Option SpecFault
goal_fault parts ts span =
    if not parts.is_goal then None
    else if not (has_plain_pointers ts) then Some (fault_at fault.PointerReads span)
    else above which.Bytes 32 (accessed_bytes ts) span

-- what is wrong with the results together
abbrev pub results_fault : Parts → List Term → Span → Option SpecFault
results_fault parts ts span =
    first_fault (above which.Nodes 256 (subterm_count ts) span
    ∷ (if has_memory_shape (sorts_of parts.args) ts then None else Some (fault_at fault.MemShape span))
    ∷ goal_fault parts ts span ∷ [])

-- the file with a definition at its end
abbrev pub with_definition : File → Parts → List Term → File
with_definition f parts ts =
    if parts.is_goal
    then record f {
      goals = f.goals ++ record {
        name = name_of parts.name;
        kinds = map (λ (p : Param). p.kind) parts.args;
        args = sorts_of parts.args;
        cost = parts.cost;
        results = ts;
      } ∷ [];
    }
    else record f {
      ops = f.ops ++ record {
        name = name_of parts.name;
        args = sorts_of parts.args;
        attrs = map width_of (sorts_of parts.attrs);
        results = ts;
      } ∷ [];
    }

-- what is wrong with a definition of this span before its terms are looked at
abbrev pub definition_fault : File → Span → Parts → Option SpecFault
definition_fault f span parts =
    first_fault (count_fault f parts span ∷ name_fault (defined f) parts.name ∷ limit_fault parts span
    ∷ names_fault [] (map (λ (p : Param). p.name) (params_of parts)) ∷ [])

-- the file with what an item of this span defines
abbrev pub definition_read : File → Span → Parts → Result File SpecFault
definition_read f span parts =
    unless (definition_fault f span parts)
    (and_then (results_read f.pointer (scope_from 0 (params_of parts)) parts.results)
    (λ ts. unless (results_fault parts ts span) (Ok (with_definition f parts ts))))

abbrev pub item_read : File → Tree → Result File SpecFault
item_read f tree = and_then (or_fault fault.Head (span_of tree) (parts_in tree)) (definition_read f (span_of tree))

-- ---- a file

abbrev pub items_read : File → List Tree → Result File SpecFault
items_read f [] = Ok f
items_read f (tree ∷ trees) = and_then (item_read f tree) (λ more. items_read more trees)

-- the width of a pointer
abbrev pub head_read : Tree → Result ℕ SpecFault
head_read tree =
    and_then (or_fault fault.Head (span_of tree) (head_in tree))
    (λ head. if nat_le 1 head.1 && nat_le head.1 64 then Ok head.1
    else Err (fault_at (fault.Limit which.Pointer head.1) (span_of head.0)))

-- no operation or no goal, told at the end of the text
abbrev pub end_fault : File → ℕ → Option SpecFault
end_fault f end =
    if length f.ops == 0 then Some (fault_at (fault.Limit which.Ops 0) (end, end))
    else if length f.goals == 0 then Some (fault_at (fault.Limit which.Goals 0) (end, end))
    else None

-- the file that the trees of a text of so many bytes are
abbrev pub file_read : ℕ → List Tree → Result File SpecFault
file_read end [] = Err (fault_at fault.Head (end, end))
file_read end (head ∷ items) =
    and_then (head_read head)
    (λ p. and_then (items_read (record { pointer = p; ops = []; goals = [] }) items)
    (λ f. unless (end_fault f end) (Ok f)))
