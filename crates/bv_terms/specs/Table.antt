-- A table of nodes, each over earlier ones, and the terms that it denotes, one a node.
use Rattle.std.specs.Prelude.{◌≡◌, ℕ, ◌<◌, ◌≤◌, ◌⊎◌, List, [], ◌∷◌, ◌++◌, Option, Some, IsSome, slice_get, unwrap_or}
use Rattle.std.specs.Prelude.{option_and_then, length, All, Contains}
use Rattle.bv_terms.specs.declared.op.Op.{Op}
use Rattle.bv_terms.specs.declared.op.Op.TheVariants as op
use Rattle.bv_terms.specs.declared.op.MakeFault.{MakeFault}
use Rattle.bv_terms.specs.declared.op.TermId.{TermId}
use Rattle.bv_terms.specs.Term.{Term, Operands, Apply, End, Then}
use Rattle.bv_terms.specs.Signature.{refusal}
use Rattle.bv_terms.specs.WellSorted.{sort_of, sorts_of}

-- a node: an operation over nodes
pub record Entry : Type 0 where
  pub op : Op
  pub args : List TermId

-- the width of a pointer in bits, and the nodes in order
pub record Table : Type 0 where
  pub pointer : ℕ
  pub nodes : List Entry

-- the term in a place; past the end, where no node of a table leads, some term
abbrev pub term_in : List Term → ℕ → Term
term_in ts k = unwrap_or (slice_get ts k) (Apply (op.Bits 0 0) End)

abbrev pub operands : List Term → List TermId → Operands
operands ts [] = End
operands ts (a ∷ rest) = Then (term_in ts a.0) (operands ts rest)

-- the terms so far, and those of the nodes that follow
abbrev pub terms_from : List Term → List Entry → List Term
terms_from ts [] = ts
terms_from ts (e ∷ es) = terms_from (ts ++ Apply e.op (operands ts e.args) ∷ []) es

-- the terms of the nodes, in order
abbrev pub terms_of : Table → List Term
terms_of table = terms_from [] table.nodes

-- the term of a node
abbrev pub term_at : Table → TermId → Term
term_at table at = term_in (terms_of table) at.0

-- the most nodes of a table, 2 ^ 22
abbrev pub most_nodes : ℕ
most_nodes = 4194304

-- what each table keeps: nodes over earlier nodes, well-sorted, and no two of them equal
pub record IsTable (table : Table) : Type 0 where
  pub wide : 1 ≤ table.pointer
  pub narrow : table.pointer ≤ 64
  pub few : length table.nodes ≤ most_nodes
  pub earlier : (k : ℕ) (e : Entry) → slice_get table.nodes k ≡ Some e → All (λ a. a.0 < k) e.args
  pub well_sorted : (k : ℕ) (t : Term) → slice_get (terms_of table) k ≡ Some t → IsSome (sort_of table.pointer t)
  pub distinct : (j k : ℕ) (e : Entry) → slice_get table.nodes j ≡ Some e → slice_get table.nodes k ≡ Some e → j ≡ k

-- why an operation cannot stand over these nodes, where it cannot
abbrev pub make_refusal : Table → Op → List TermId → Option MakeFault
make_refusal table o args =
    option_and_then (refusal table.pointer o) (sorts_of table.pointer (operands (terms_of table) args))

-- the table with a node at its end
abbrev pub table_with : Table → Entry → Table
table_with table e = record { pointer = table.pointer; nodes = table.nodes ++ e ∷ [] }

-- the nodes of the old table are the first of the new one
pub record Extends (old new : Table) : Type 0 where
  pub pointer : new.pointer ≡ old.pointer
  pub more : List Entry
  pub nodes : new.nodes ≡ old.nodes ++ more

-- new has the node in this place: it is old where old has the node already, and else old with the node at its end
pub record Makes (old : Table) (e : Entry) (new : Table) (id : TermId) : Type 0 where
  pub stands : slice_get new.nodes id.0 ≡ Some e
  pub nodes : (Contains old.nodes e × (new ≡ old)) ⊎ ((¬ (Contains old.nodes e)) × (new ≡ table_with old e))
