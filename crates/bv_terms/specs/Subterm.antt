-- Which terms stand in a term, the nodes of a table that they are, and orders in which nodes can be evaluated.
use Rattle.std.specs.Prelude.{◌≡◌, ℕ, ◌<◌, ◌⊎◌, ◌↔◌, List, [], ◌∷◌, Some, length, slice_get, take, All, AllPairs}
use Rattle.std.specs.Prelude.{Contains}
use Rattle.std.specs.BTreeSet.{insert_key}
use Rattle.std.specs.Ordering.{nat_cmp}
use Rattle.bv_terms.specs.declared.op.TermId.{TermId}
use Rattle.bv_terms.specs.Term.{Term, Operands, Apply, End, Then}
use Rattle.bv_terms.specs.Table.{Entry, Table, term_at}

-- a term is the second, or stands among its operands
unfoldable mutual
  pub IsSubterm : Term → Term → Type 0
  IsSubterm s (Apply o ts) = (s ≡ Apply o ts) ⊎ IsSubtermAmong s ts

  pub IsSubtermAmong : Term → Operands → Type 0
  IsSubtermAmong s End = ⊥
  IsSubtermAmong s (Then t ts) = IsSubterm s t ⊎ IsSubtermAmong s ts

-- a node of the table whose term is a subterm of a result's
abbrev pub IsSubtermNode : Table → List TermId → TermId → Type 0
IsSubtermNode table results at =
    (at.0 < length table.nodes) × ((r : TermId) × Contains results r × IsSubterm (term_at table at) (term_at table r))

-- the nodes of the subterms of the results' terms, each once, rising by number
pub record AreSubterms (table : Table) (results nodes : List TermId) : Type 0 where
  pub rising : AllPairs (λ a b. a.0 < b.0) nodes
  pub exact : (at : TermId) → Contains nodes at ↔ IsSubtermNode table results at

-- nodes of the table, each after its arguments
pub record IsTopological (table : Table) (nodes : List TermId) : Type 0 where
  pub within : All (λ at. at.0 < length table.nodes) nodes
  pub arguments : (k : ℕ) (at : TermId) (e : Entry) → slice_get nodes k ≡ Some at → slice_get table.nodes at.0 ≡ Some e
      → All (Contains (take k nodes)) e.args

-- the keys of a set of nodes, and these nodes put in one by one
abbrev pub keys_with : List TermId → List TermId → List TermId
keys_with keys [] = keys
keys_with keys (n ∷ ns) = keys_with (insert_key (λ a b. nat_cmp a.0 b.0) keys n) ns
