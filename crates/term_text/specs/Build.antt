-- Nodes of a table that stand for terms, and what making nodes leaves of a table.
use Rattle.std.specs.Prelude.{◌≡◌, ◌<◌, List, map, All, IsSome, IfOk, Result, length, unwrap_or}
use Rattle.std.specs.declared.alloc.AllocError.{AllocError}
use Rattle.bv_terms.specs.declared.op.TermId.{TermId}
use Rattle.bv_terms.specs.declared.value.Sort.{Sort}
use Rattle.bv_terms.specs.declared.value.Sort.TheVariants as sort
use Rattle.bv_terms.specs.Term.{Term}
use Rattle.bv_terms.specs.WellSorted.{sort_of}
use Rattle.bv_terms.specs.Table.{Table, term_at, Extends}

-- each of these is a node of the table
abbrev pub AreNodes : Table → List TermId → Type 0
AreNodes table nodes = All (λ at. at.0 < length table.nodes) nodes

-- the terms of nodes, and their sorts
abbrev pub terms_at : Table → List TermId → List Term
terms_at table nodes = map (term_at table) nodes

abbrev pub sorts_at : Table → List TermId → List Sort
sorts_at table nodes = map (λ at. unwrap_or (sort_of table.pointer (term_at table at)) sort.Bool) nodes

-- the term has a sort over this table
abbrev pub IsWellSorted : Table → Term → Type 0
IsWellSorted table t = IsSome (sort_of table.pointer t)

-- the node stands for the term
pub record StandsFor (table : Table) (at : TermId) (t : Term) : Type 0 where
  pub within : at.0 < length table.nodes
  pub term : term_at table at ≡ t

-- the new table has the nodes of the old one, and where there was memory the node stands for the term in it
pub record Builds (old new : Table) (made : Result TermId AllocError) (t : Term) : Type 0 where
  pub extends : Extends old new
  pub stands : IfOk made (λ at. StandsFor new at t)
