-- The terms of a claim at an example, as trees: of each source before a line, and of what takes its value from one.
-- Components line by line: Gulwani, Jha, Tiwari, Venkatesan, PLDI 2011; here the value of a line is a chain of choices.
use Rattle.std.specs.Prelude.{◌≡◌, ℕ, ◌+◌, ◌<◌, List, [], ◌∷◌, ◌++◌, Option, Some, None, length, fold}
use Rattle.std.specs.Prelude.{unwrap_or, slice_get, Bool, false, ◌&&◌, if◌then◌else◌, All, Contains}
use Rattle.std.specs.List.{flat_map}
use Rattle.bv_terms.specs.declared.op.TermId.{TermId}
use Rattle.bv_terms.specs.declared.value.Sort.{Sort}
use Rattle.bv_terms.specs.declared.value.Sort.TheVariants as sort
use Rattle.bv_terms.specs.declared.value.Value.{Value}
use Rattle.bv_terms.specs.declared.value.Value.TheVariants as val
use Rattle.bv_terms.specs.Term.{Term}
use Rattle.bv_terms.specs.Table.{Table, term_at}
use Rattle.bv_terms.specs.WellSorted.{sort_of}
use Rattle.bv_terms.specs.Replaced.{replaced}
use Rattle.bv_terms.specs.Sorts.{same_sort, IsSized}
use Rattle.isel_spec.specs.File.{File, Operation}
use Rattle.pattern_core.specs.declared.pattern.Src.{Src}
use Rattle.pattern_core.specs.declared.pattern.Src.TheVariants.{Input, Out}
use Rattle.pattern_core.specs.Pattern.{same_source}
use Rattle.loc_encode.specs.declared.slots.Slot.{Slot}
use Rattle.loc_encode.specs.declared.slots.Slot.TheVariants as slot
use Rattle.loc_encode.specs.declared.taking.Named.{Named}
use Rattle.loc_encode.specs.declared.taking.Taker.{Taker}
use Rattle.loc_encode.specs.declared.taking.Taker.TheVariants as taker
use Rattle.loc_encode.specs.declared.lines.Kinded.{Kinded}
use Rattle.loc_encode.specs.Slots.{slot_number}
use Rattle.loc_encode.specs.Building.{constant_term, input_term, choice_term, equal_term, both_term}

-- ---- sources

-- a source, a sort, and the term of its value where it is of that sort
pub record Sourced : Type 0 where
  pub source : Src
  pub sort : Sort
  pub term : Term

abbrev pub sourced : Table → Named → Sourced
sourced table e = record { source = e.source; sort = e.sort; term = term_at table e.term }

-- a sort that is no memory, and has a width from 1 to 64 where it has one
pub record IsPlain (s : Sort) : Type 0 where
  pub plain : ¬ (s ≡ sort.Mem)
  pub sized : IsSized s

-- a source whose term is of its sort
pub record IsProper (p : ℕ) (e : Sourced) : Type 0 where
  pub plain : ¬ (e.sort ≡ sort.Mem)
  pub sorted : sort_of p e.term ≡ Some e.sort

-- its term stands in the table
pub record IsIn (table : Table) (e : Named) : Type 0 where
  pub there : e.term.0 < length table.nodes
  pub proper : IsProper table.pointer (sourced table e)

abbrev pub AreIn : Table → List Named → Type 0
AreIn table sources = All (IsIn table) sources

-- nodes that stand in the table
abbrev pub IsId : Table → TermId → Type 0
IsId table id = id.0 < length table.nodes

abbrev pub AreIds : Table → List TermId → Type 0
AreIds table ids = All (IsId table) ids

-- ---- what takes a source

abbrev pub slot_at : Taker → Src → Slot
slot_at (taker.Arg line place) source = slot.Arg line place source
slot_at (taker.Result place) source = slot.Result place source

-- a source that is taken where its slot is true, and where there are no others
abbrev pub taken : Taker → Option Term → Sourced → Term
taken t None e = e.term
taken t (Some others) e = choice_term (slot_number (slot_at t e.source)) e.term others

-- one more source of the sort
abbrev pub or_source : Taker → Sort → Option Term → Sourced → Option Term
or_source t s others e = if same_sort e.sort s then Some (taken t others e) else others

-- a value of a sort, where there is one
abbrev pub some_value : Sort → Value
some_value sort.Bool = val.Bool false
some_value (sort.Bits w) = val.Bits w 0
some_value sort.Mem = val.Bool false

-- the term of what takes one of these sources of the sort
abbrev pub taken_term : Taker → Sort → List Sourced → Term
taken_term t s sources = unwrap_or (fold (or_source t s) None sources) (constant_term (some_value s))

-- ---- an operation at a line

-- the terms of its arguments, from a place on
abbrev pub arg_terms : ℕ → List Sourced → ℕ → List Sort → List Term
arg_terms line sources place [] = []
arg_terms line sources place (s ∷ ss) =
    taken_term (taker.Arg line place) s sources ∷ arg_terms line sources (place + 1) ss

-- the terms of its attributes, from a place on
abbrev pub attr_terms : ℕ → ℕ → ℕ → List ℕ → List Term
attr_terms line op place [] = []
attr_terms line op place (w ∷ ws) =
    input_term (slot_number (slot.Attr line op place)) (sort.Bits w) ∷ attr_terms line op (place + 1) ws

abbrev pub op_inputs : ℕ → List Sourced → ℕ → Operation → List Term
op_inputs line sources op o = arg_terms line sources 0 o.args ++ attr_terms line op 0 o.attrs

-- a result of an operation, its sort, and its term at a line
pub record OfKind : Type 0 where
  pub op : ℕ
  pub result : ℕ
  pub sort : Sort
  pub term : Term

abbrev pub of_kind : Table → Kinded → OfKind
of_kind table k = record { op = k.op; result = k.result; sort = k.sort; term = term_at table k.term }

-- an operation without memories
abbrev pub IsPlainOp : Operation → Type 0
IsPlainOp o = ¬ Contains o.args sort.Mem

-- the sort of a term that is well-sorted
abbrev pub the_sort : ℕ → Term → Sort
the_sort p t = unwrap_or (sort_of p t) sort.Bool

-- an operation's results, from a place on, at these terms
abbrev pub result_kinds : ℕ → ℕ → List Term → ℕ → List Term → List OfKind
result_kinds p op inputs result [] = []
result_kinds p op inputs result (t ∷ ts) =
    record { op = op; result = result; sort = the_sort p t; term = replaced inputs t }
    ∷ result_kinds p op inputs (result + 1) ts

abbrev pub op_kinds : ℕ → ℕ → List Sourced → ℕ → Option Operation → List OfKind
op_kinds p line sources op None = []
op_kinds p line sources op (Some o) = result_kinds p op (op_inputs line sources op o) 0 o.results

abbrev pub line_kinds : File → ℕ → List Sourced → List ℕ → List OfKind
line_kinds f line sources kinds = flat_map (λ op. op_kinds f.pointer line sources op (slice_get f.ops op)) kinds

-- ---- lines

abbrev pub is_named : ℕ → Kinded → Named → Bool
is_named line k e = same_source e.source (Out line k.result) && same_sort e.sort k.sort

abbrev pub is_result : ℕ → OfKind → Sourced → Bool
is_result line k e = same_source e.source (Out line k.result) && same_sort e.sort k.sort

-- one more kind for a result of a line: it is taken where its slot is true, and where there is no other
abbrev pub with_kind : ℕ → List Sourced → OfKind → List Sourced
with_kind line [] k = record { source = Out line k.result; sort = k.sort; term = k.term } ∷ []
with_kind line (e ∷ es) k =
    if is_result line k e
    then record {
      source = e.source;
      sort = e.sort;
      term = choice_term (slot_number (slot.Kind line k.op)) k.term e.term;
    } ∷ es
    else e ∷ with_kind line es k

-- the sources of a line besides those before it
abbrev pub with_line : File → List ℕ → List Sourced → ℕ → List Sourced
with_line f kinds sources line = sources ++ fold (with_kind line) [] (line_kinds f line sources kinds)

-- the inputs, from a place on, as constants
abbrev pub input_sources : ℕ → List Sort → List Value → List Sourced
input_sources k (s ∷ ss) (v ∷ vs) =
    record { source = Input k; sort = s; term = constant_term v } ∷ input_sources (k + 1) ss vs
input_sources k _ _ = []

-- ---- results

-- what was there before holds, and a result has this value
abbrev pub compared_term : ℕ → List Sourced → Term → ℕ → Term → Value → Term
compared_term p sources so_far place t v =
    both_term so_far (equal_term (taken_term (taker.Result place) (the_sort p t) sources) (constant_term v))

-- so have the results from a place on
abbrev pub all_equal : ℕ → List Sourced → Term → ℕ → List Term → List Value → Term
all_equal p sources so_far place (t ∷ ts) (v ∷ vs) =
    all_equal p sources (compared_term p sources so_far place t v) (place + 1) ts vs
all_equal p sources so_far place _ _ = so_far
