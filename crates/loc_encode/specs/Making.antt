-- What the terms of an operation at a line are made of.
use Rattle.std.specs.Prelude.{◌≡◌, ℕ, ◌<◌, ◌≤◌, List, Some, length, map, All, Contains, slice_get}
use Rattle.bv_terms.specs.declared.op.TermId.{TermId}
use Rattle.bv_terms.specs.declared.value.Sort.TheVariants as sort
use Rattle.bv_terms.specs.declared.value.Sort.{Sort}
use Rattle.bv_terms.specs.declared.value.Value.{Value}
use Rattle.bv_terms.specs.Sorts.{HasSort}
use Rattle.bv_terms.specs.Table.{Table, term_at, IsTable}
use Rattle.bv_terms.specs.WellSorted.{sort_of}
use Rattle.bv_terms.specs.Replaced.{ReplacementsFit}
use Rattle.isel_spec.specs.File.{Operation}
use Rattle.isel_spec.specs.Spec.{file}
use Rattle.isel_spec.specs.declared.spec.Spec.{Spec}
use Rattle.loc_encode.specs.declared.lines.Kinded.{Kinded}
use Rattle.loc_encode.specs.Lines.{AreIds, IsPlain, IsPlainOp}

-- results of another table whose inputs may be replaced by these terms
pub record CanGraft (table from : Table) (results inputs : List TermId) : Type 0 where
  pub is_from : IsTable from
  pub pointer : from.pointer ≡ table.pointer
  pub few : length results ≤ 3
  pub there : All (λ (at : TermId). at.0 < length from.nodes) results
  pub plain : All (λ (at : TermId). ¬ (sort_of from.pointer (term_at from at) ≡ Some sort.Mem)) results
  pub ids : AreIds table inputs
  pub fit : All (λ (at : TermId). ReplacementsFit table.pointer (map (term_at table) inputs) (term_at from at)) results

-- a result whose term stands in the table and is of its sort, which is no memory
pub record IsKindIn (table : Table) (k : Kinded) : Type 0 where
  pub there : k.term.0 < length table.nodes
  pub plain : ¬ (k.sort ≡ sort.Mem)
  pub sorted : sort_of table.pointer (term_at table k.term) ≡ Some k.sort

abbrev pub AreKindsIn : Table → List Kinded → Type 0
AreKindsIn table kinds = All (IsKindIn table) kinds

-- operations of the file without memories
pub record ArePlainOps (s : Spec) (ops : List ℕ) : Type 0 where
  pub there : (op : ℕ) → Contains ops op → op < length s.ops
  pub plain : (op : ℕ) (o : Operation) → Contains ops op → slice_get (file s).ops op ≡ Some o → IsPlainOp o

-- a result of a goal that stands in the table, and a value of its sort
pub record IsResultIn (table : Table) (at : TermId) (v : Value) : Type 0 where
  pub there : at.0 < length table.nodes
  pub sort : Sort
  pub sorted : sort_of table.pointer (term_at table at) ≡ Some sort
  pub plain : IsPlain sort
  pub fits : HasSort sort v
