-- What patterns and goals compute as terms over terms of the goal's inputs, and what such terms keep.
-- Symbolic execution: J. C. King, CACM 1976.
use Rattle.std.specs.Prelude.{◌≡◌, ℕ, ◌<◌, List, [], ◌∷◌, ◌++◌, length, map, Option, Some, None, slice_get, unwrap_or}
use Rattle.std.specs.Prelude.{option_and_then, IsSome, All, Contains, false}
use Rattle.bv_terms.specs.declared.op.Op.TheVariants as op
use Rattle.bv_terms.specs.declared.op.TermId.{TermId}
use Rattle.bv_terms.specs.declared.value.Sort.{Sort}
use Rattle.bv_terms.specs.declared.value.Value.{Value}
use Rattle.bv_terms.specs.Term.{Term, Apply, End, value}
use Rattle.bv_terms.specs.WellSorted.{sort_of, InputsFit}
use Rattle.bv_terms.specs.Subterm.{IsSubterm}
use Rattle.bv_terms.specs.Table.{Table, term_at}
use Rattle.bv_terms.specs.Replaced.{replaced}
use Rattle.isel_spec.specs.File.{File, Operation, Goal, scope}
use Rattle.isel_spec.specs.declared.definitions.OpDef.{OpDef}
use Rattle.isel_spec.specs.declared.spec.Spec.{Spec}
use Rattle.pattern_core.specs.declared.pattern.Src.{Src}
use Rattle.pattern_core.specs.declared.pattern.Src.TheVariants.{Input, Out}
use Rattle.pattern_core.specs.declared.pattern.Node.{Node}
use Rattle.pattern_core.specs.declared.pattern.Pattern.{Pattern}

-- ---- what is computed

-- what a source names, where the inputs and the nodes' results are these
abbrev pub found : {A : Type 0} → List A → List (List A) → Src → Option A
found inputs outs (Input k) = slice_get inputs k
found inputs outs (Out node result) = option_and_then (λ row. slice_get row result) (slice_get outs node)

-- the term of a source; of one that is not there, some term
abbrev pub source_term : List Term → List (List Term) → Src → Term
source_term inputs outs s = unwrap_or (found inputs outs s) (Apply (op.Bool false) End)

-- numbers as bit-vectors of these widths
abbrev pub attr_terms : List ℕ → List ℕ → List Term
attr_terms (w ∷ ws) (n ∷ ns) = Apply (op.Bits w n) End ∷ attr_terms ws ns
attr_terms _ _ = []

-- an operation's results at attributes and arguments
abbrev pub op_terms : Option Operation → List ℕ → List Term → List Term
op_terms None attrs args = []
op_terms (Some o) attrs args = map (replaced (args ++ attr_terms o.attrs attrs)) o.results

-- the results of each node, where the earlier nodes have these
abbrev pub term_outs : File → List Term → List (List Term) → List Node → List (List Term)
term_outs f inputs outs [] = outs
term_outs f inputs outs (n ∷ ns) =
    let results = op_terms (slice_get f.ops n.op) n.attrs (map (source_term inputs outs) n.args) in
    term_outs f inputs (outs ++ results ∷ []) ns

abbrev pub pattern_terms : File → Pattern → List Term → List Term
pattern_terms f p inputs = map (source_term inputs (term_outs f inputs [] p.nodes)) p.results

abbrev pub goal_terms : Goal → List Term → List Term
goal_terms g inputs = map (replaced inputs) g.results

-- ---- what the terms are

-- the input of that number and sort stands in one of the terms
abbrev pub HasInput : List Term → ℕ → Sort → Type 0
HasInput ts number s = (t : Term) × Contains ts t × IsSubterm (Apply (op.Input number s) End) t

-- terms of these sorts over others: their values are these results at the others' values, and the inputs that stand in
-- them are the others'; a pointer has p bits
pub record AreTermsOver (p : ℕ) (inputs : List Term) (sorts : List (Option Sort)) (results : List Value → List Value)
    (ts : List Term) : Type 0 where
  pub of_sorts : map (sort_of p) ts ≡ sorts
  pub of_values : (env : List Value) → map (value env) ts ≡ results (map (value env) inputs)
  pub fit : (env : List Value) → All (InputsFit env) inputs → All (InputsFit env) ts
  pub of_inputs : (number : ℕ) (s : Sort) → HasInput ts number s → HasInput inputs number s

-- ---- nodes of a table

abbrev pub AreIn : Table → List TermId → Type 0
AreIn table nodes = All (λ (a : TermId). a.0 < length table.nodes) nodes

-- terms of a table in place of an operation's inputs: its arguments are there, and they and its attributes are of its
-- sorts
pub record IsNodeReady (s : Spec) (n : Node) (table : Table) (inputs : List TermId)
    (outs : List (List TermId)) : Type 0 where
  pub there : n.op < length s.ops
  pub pointer : s.terms.pointer ≡ table.pointer
  pub within : AreIn table inputs
  pub outs_within : All (AreIn table) outs
  pub sources : All (λ x. IsSome (found inputs outs x)) n.args
  pub sorted : (name : List ℕ) (d : OpDef) → slice_get s.ops n.op ≡ Some (name, d)
      → map (sort_of table.pointer)
      (map (source_term (map (term_at table) inputs) (map (map (term_at table)) outs)) n.args
      ++ attr_terms d.attrs n.attrs)
      ≡ map (λ s. Some s) (scope d)
