-- How a node is kept: with as many places as any operation has arguments.
use Rattle.std.specs.Prelude.{◌≡◌, ℕ, ◌-◌, List, ◌++◌, length, map, replicate, take, Some}
use Rattle.bv_terms.specs.declared.node.Node.{Node}
use Rattle.bv_terms.specs.declared.node.TheConstants.{MOST_ARGS}
use Rattle.bv_terms.specs.declared.value.Sort.{Sort}
use Rattle.bv_terms.specs.Signature.{arity}
use Rattle.bv_terms.specs.WellSorted.{sort_of}
use Rattle.bv_terms.specs.Table.{Entry, Table, terms_of, IsTable}

-- an entry as it is kept, with node 0 in the places that are left
abbrev pub node_of : Entry → Node
node_of e = record { op = e.op; args = e.args ++ replicate (MOST_ARGS - length e.args) (record { 0 = 0 }) }

-- a kept node, as contracts see it
abbrev pub entry_of : Node → Entry
entry_of n = record { op = n.op; args = take (arity n.op) n.args }

-- the table that nodes with their sorts make
abbrev pub table_of : ℕ → List (Node × Sort) → Table
table_of pointer kept = record { pointer = pointer; nodes = map (λ e. entry_of e.0) kept }

-- what nodes with their sorts keep: they make a table, unused places have node 0, and each sort is that of the node's
-- term
pub record IsTermTable (pointer : ℕ) (kept : List (Node × Sort)) : Type 0 where
  pub table : IsTable (table_of pointer kept)
  pub padded : map (λ e. e.0) kept ≡ map node_of (table_of pointer kept).nodes
  pub sorts : map (λ e. Some e.1) kept ≡ map (sort_of pointer) (terms_of (table_of pointer kept))
