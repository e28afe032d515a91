-- Nodes of one table beside nodes of another, for the terms of these with other terms in place of their inputs.
use Rattle.std.specs.Prelude.{◌≡◌, ◌<◌, ◌==◌, List, ◌∷◌, length, map, slice_get, Some, All, AllPairs, Contains}
use Rattle.std.specs.Prelude.{if◌then◌else◌}
use Rattle.bv_terms.specs.declared.op.TermId.{TermId}
use Rattle.bv_terms.specs.Term.{Term}
use Rattle.bv_terms.specs.Table.{Entry, Table, term_at, IsTable}
use Rattle.bv_terms.specs.Replaced.{replaced, ReplacementsFit}

-- nodes that rise by number
abbrev pub AreRising : List TermId → Type 0
AreRising nodes = AllPairs (λ a b. a.0 < b.0) nodes

-- the image that stands beside a node
abbrev pub image_in : List TermId → List TermId → TermId → TermId
image_in (n ∷ nodes) (i ∷ images) at = if n.0 == at.0 then i else image_in nodes images at
image_in _ _ at = at

-- nodes of the table for the terms of another's nodes with these terms in place of the inputs, one each
pub record AreImages (table from : Table) (ts : List Term) (nodes images : List TermId) : Type 0 where
  pub within : All (λ a. a.0 < length table.nodes) images
  pub terms : map (term_at table) images ≡ map (λ a. replaced ts (term_at from a)) nodes

-- the terms of these nodes of the table may stand in another's terms
pub record AreGraftable (table from : Table) (inputs : List TermId) : Type 0 where
  pub is_table : IsTable table
  pub is_other : IsTable from
  pub pointer : from.pointer ≡ table.pointer
  pub inputs_within : All (λ a. a.0 < length table.nodes) inputs

-- a node of the other table whose inputs have terms of their sorts, and whose arguments stand in the list
pub record IsReady (table from : Table) (inputs nodes : List TermId) (at : TermId) : Type 0 where
  pub there : at.0 < length from.nodes
  pub fit : ReplacementsFit table.pointer (map (term_at table) inputs) (term_at from at)
  pub arguments : (e : Entry) → slice_get from.nodes at.0 ≡ Some e → All (Contains nodes) e.args
