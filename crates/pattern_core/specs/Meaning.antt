-- What a node's results stand on.
use Rattle.std.specs.Prelude.{◌≡◌, ℕ, ◌<◌, List, ◌++◌, length, map, Some, slice_get}
use Rattle.bv_terms.specs.declared.value.Value.{Value}
use Rattle.bv_terms.specs.Sorts.{HaveSorts}
use Rattle.isel_spec.specs.declared.definitions.OpDef.{OpDef}
use Rattle.isel_spec.specs.declared.spec.Spec.{Spec}
use Rattle.isel_spec.specs.File.{scope}
use Rattle.pattern_core.specs.declared.pattern.Node.{Node}
use Rattle.pattern_core.specs.Rule.{source_value, attr_values}

-- a node whose operation is there, and whose arguments and attributes have values of its sorts
pub record IsNodeGiven (s : Spec) (n : Node) (inputs : List Value) (outs : List (List Value)) : Type 0 where
  pub there : n.op < length s.ops
  pub sorted : (name : List ℕ) (d : OpDef) → slice_get s.ops n.op ≡ Some (name, d)
      → HaveSorts (scope d) (map (source_value inputs outs) n.args ++ attr_values d.attrs n.attrs)
