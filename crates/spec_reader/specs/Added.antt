-- A definition as a file keeps it, under its name.
use Rattle.std.specs.Prelude.{ℕ, List, map}
use Rattle.bv_terms.specs.declared.op.TermId.{TermId}
use Rattle.bv_terms.specs.Sorts.{width_of}
use Rattle.isel_spec.specs.declared.definitions.OpDef.{OpDef}
use Rattle.isel_spec.specs.declared.definitions.GoalDef.{GoalDef}
use Rattle.spec_reader.specs.Form.{Param, Parts, name_of}
use Rattle.spec_reader.specs.Walk.{sorts_of}

-- an operation whose results are these nodes
abbrev pub named_operation : Parts → List TermId → List ℕ × OpDef
named_operation parts results = (
  name_of parts.name,
  record { args = sorts_of parts.args; attrs = map width_of (sorts_of parts.attrs); results = results },
)

-- a goal whose results are these nodes
abbrev pub named_goal : Parts → List TermId → List ℕ × GoalDef
named_goal parts results = (
  name_of parts.name,
  record { args = map (λ (q : Param). (q.kind, q.sort)) parts.args; results = results; cost = parts.cost },
)
