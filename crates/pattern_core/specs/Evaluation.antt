-- What is computed once for a file, so that many patterns can be evaluated at many inputs.
use Rattle.std.specs.Prelude.{◌≡◌, ℕ, ◌≤◌, List, length, Some, slice_get, All, Contains}
use Rattle.bv_terms.specs.declared.op.TermId.{TermId}
use Rattle.bv_terms.specs.Subterm.{AreSubterms, IsTopological}
use Rattle.bv_terms.specs.Table.{Table}
use Rattle.isel_spec.specs.declared.definitions.OpDef.{OpDef}
use Rattle.isel_spec.specs.declared.definitions.GoalDef.{GoalDef}
use Rattle.isel_spec.specs.declared.spec.Spec.{Spec}
use Rattle.pattern_core.specs.declared.evaluation.Evaluation.{Evaluation}
use Rattle.pattern_core.specs.Pattern.{Pairwise}
use Rattle.pattern_core.specs.Known.{AreKnown}

-- the nodes of the subterms of these results, and no others, each after its arguments
pub record AreNodesBelow (table : Table) (results nodes : List TermId) : Type 0 where
  pub exact : AreSubterms table results nodes
  pub order : IsTopological table nodes
  pub among : All (Contains nodes) results

-- each operation's results have these nodes
abbrev pub HaveNodes : Table → List (List ℕ × OpDef) → List (List TermId) → Type 0
HaveNodes table ops lists = Pairwise (λ (e : List ℕ × OpDef) nodes. AreNodesBelow table e.1.results nodes) ops lists

-- so have the results of the goal in a place
abbrev pub AreGoalNodes : Spec → ℕ → List TermId → Type 0
AreGoalNodes s place nodes =
    (name : List ℕ) (d : GoalDef) → slice_get s.goals place ≡ Some (name, d) → AreNodesBelow s.terms d.results nodes

-- the evaluation is one of the file: of its operations, with results that are theirs, and with a place for each node of
-- its table
pub record IsEvaluationOf (s : Spec) (e : Evaluation) : Type 0 where
  pub operations : HaveNodes s.terms s.ops e.operations
  pub known : AreKnown s e.known.items
  pub room : length s.terms.nodes ≤ length e.room.items
