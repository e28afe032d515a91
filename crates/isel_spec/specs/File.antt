-- What a file says: the meanings of IR operations and of goals, as trees. The file format is this project's own.
use Rattle.std.specs.Prelude.{ℕ, List, [], ◌∷◌, ◌++◌, length, map, slice_get, Bool, true, false, ◌&&◌, not, ◌==◌}
use Rattle.std.specs.Prelude.{nat_lt, nat_le}
use Rattle.std.specs.Bool.{beq}
use Rattle.std.specs.List.{list_all, list_any}
use Rattle.std.specs.Option.{option_map_or}
use Rattle.std.specs.Str.{bytes_eq}
use Rattle.bv_terms.specs.declared.op.Op.{Op}
use Rattle.bv_terms.specs.declared.op.Op.TheVariants as op
use Rattle.bv_terms.specs.declared.op.TermId.{TermId}
use Rattle.bv_terms.specs.declared.value.Sort.{Sort}
use Rattle.bv_terms.specs.declared.value.Sort.TheVariants as sort
use Rattle.bv_terms.specs.Term.{Term, Operands, Apply, End, Then}
use Rattle.bv_terms.specs.Sorts.{same_sort, is_width}
use Rattle.bv_terms.specs.Table.{Table, terms_of, term_in}
use Rattle.sexp_read.specs.Words.{is_name}
pub use Rattle.sexp_read.specs.Words.{is_between}
use Rattle.isel_spec.specs.Memory.{subterm_count, has_memory_shape, has_plain_pointers, accessed_bytes}
use Rattle.isel_spec.specs.declared.definitions.Kind.{Kind}
use Rattle.isel_spec.specs.declared.definitions.Kind.TheVariants as kind
use Rattle.isel_spec.specs.declared.definitions.OpDef.{OpDef}
use Rattle.isel_spec.specs.declared.definitions.GoalDef.{GoalDef}

-- an operation: in its results argument k is input k, and attribute j is the input j after the arguments
pub record Operation : Type 0 where
  pub name : List ℕ
  pub args : List Sort
  -- the widths in bits
  pub attrs : List ℕ
  pub results : List Term

-- a goal: in its results argument k is input k
pub record Goal : Type 0 where
  pub name : List ℕ
  pub kinds : List Kind
  pub args : List Sort
  pub cost : ℕ
  pub results : List Term

pub record File : Type 0 where
  -- the width of a pointer in bits
  pub pointer : ℕ
  pub ops : List Operation
  pub goals : List Goal

-- the definitions that stand in a table of terms
abbrev pub operation : Table → List ℕ × OpDef → Operation
operation table e = record {
  name = e.0;
  args = e.1.args;
  attrs = e.1.attrs;
  results = map (λ (at : TermId). term_in (terms_of table) at.0) e.1.results;
}

abbrev pub goal : Table → List ℕ × GoalDef → Goal
goal table e = record {
  name = e.0;
  kinds = map (λ a. a.0) e.1.args;
  args = map (λ a. a.1) e.1.args;
  cost = e.1.cost;
  results = map (λ (at : TermId). term_in (terms_of table) at.0) e.1.results;
}

-- the sorts of the inputs of an operation's results
abbrev pub scope : OpDef → List Sort
scope def = def.args ++ map (λ w. sort.Bits w) def.attrs

-- an input that an operation reads is one of the scope's, of its sort
abbrev pub is_in_scope : List Sort → Op → Bool
is_in_scope sorts (op.Input k s) = option_map_or (same_sort s) (slice_get sorts k) false
is_in_scope sorts _ = true

-- so is each input that stands in the term
unfoldable mutual
  pub stays_in : List Sort → Term → Bool
  stays_in sorts (Apply o ts) = is_in_scope sorts o && all_stay_in sorts ts

  pub all_stay_in : List Sort → Operands → Bool
  all_stay_in sorts End = true
  all_stay_in sorts (Then t ts) = stays_in sorts t && all_stay_in sorts ts

-- the terms of the results in the table
abbrev pub results_in : Table → List TermId → List Term
results_in table results = map (λ (at : TermId). term_in (terms_of table) at.0) results

-- results that are in the table, and whose inputs are the definition's
abbrev pub are_sound : Table → List Sort → List TermId → Bool
are_sound table sorts results =
    list_all (λ (at : TermId). nat_lt at.0 (length table.nodes) && stays_in sorts (term_in (terms_of table) at.0))
    results

-- the results have at most 256 different subterms, and their memory is one chain on which each load is marked
abbrev pub has_sound_results : Table → List Sort → List TermId → Bool
has_sound_results table args results =
    nat_le (subterm_count (results_in table results)) 256 && has_memory_shape args (results_in table results)

-- a width from 1 to 64, where the sort has one
abbrev pub is_sized : Sort → Bool
is_sized sort.Bool = true
is_sized (sort.Bits w) = is_width w
is_sized sort.Mem = true

abbrev pub is_memory_kind : Kind → Bool
is_memory_kind kind.Reg = false
is_memory_kind kind.Imm = false
is_memory_kind kind.Mem = true

-- the kind `mem` stands exactly at a memory
abbrev pub has_kind : Kind × Sort → Bool
has_kind a = beq (is_memory_kind a.0) (same_sort a.1 sort.Mem)

-- the sorts of a goal's arguments
abbrev pub sorts_in : List (Kind × Sort) → List Sort
sorts_in args = map (λ a. a.1) args

-- an operation within the limits, with sound results of its own inputs
abbrev pub is_sound_op : Table → List ℕ × OpDef → Bool
is_sound_op table e =
    nat_le (length e.1.args) 4 && nat_le (length e.1.attrs) 2 && is_between 1 3 (length e.1.results)
    && list_all is_sized e.1.args && list_all (is_between 1 64) e.1.attrs && are_sound table (scope e.1) e.1.results
    && has_sound_results table e.1.args e.1.results

-- a goal within the limits, with sound results of its own inputs: no pointer depends on a load, and at most 32 bytes
-- are accessed
abbrev pub is_sound_goal : Table → List ℕ × GoalDef → Bool
is_sound_goal table e =
    nat_le (length e.1.args) 4 && is_between 1 3 (length e.1.results) && list_all has_kind e.1.args
    && list_all is_sized (sorts_in e.1.args) && nat_le e.1.cost 65535
    && are_sound table (sorts_in e.1.args) e.1.results && has_sound_results table (sorts_in e.1.args) e.1.results
    && has_plain_pointers (results_in table e.1.results) && nat_le (accessed_bytes (results_in table e.1.results)) 32

-- a name of at most 64 bytes
abbrev pub is_short_name : List ℕ → Bool
is_short_name bytes = is_name bytes && nat_le (length bytes) 64

-- no two are equal
abbrev pub differ : List (List ℕ) → Bool
differ [] = true
differ (name ∷ names) = not (list_any (bytes_eq name) names) && differ names

-- the names of the operations, and then those of the goals
abbrev pub all_names : List (List ℕ × OpDef) → List (List ℕ × GoalDef) → List (List ℕ)
all_names ops goals = map (λ e. e.0) ops ++ map (λ e. e.0) goals

-- what each `Spec` keeps: one width of pointers, the limits on numbers, names that differ, and sound definitions
abbrev pub is_sound : ℕ → Table → List (List ℕ × OpDef) → List (List ℕ × GoalDef) → Bool
is_sound pointer table ops goals =
    (pointer == table.pointer) && nat_le (length ops) 64 && nat_le (length goals) 256
    && list_all is_short_name (all_names ops goals) && differ (all_names ops goals)
    && list_all (is_sound_op table) ops && list_all (is_sound_goal table) goals
