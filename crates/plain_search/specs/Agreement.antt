-- A goal's results at its inputs, and whether a pattern gives them.
use Rattle.std.specs.Prelude.{◌≡◌, ℕ, List, map, length, Some, slice_get}
use Rattle.std.specs.List.{range_with_len}
use Rattle.isel_spec.specs.File.{File, Goal}
use Rattle.isel_spec.specs.Spec.{file}
use Rattle.isel_spec.specs.declared.spec.Spec.{Spec}
use Rattle.pattern_core.specs.declared.pattern.Pattern.{Pattern}
use Rattle.pattern_core.specs.Evaluation.{AreGoalNodes}
use Rattle.pattern_core.specs.Rule.{goal_results, pattern_results}
use Rattle.plain_search.specs.Inputs.{inputs_numbered}
use Rattle.plain_search.specs.declared.agreement.GoalTable.{GoalTable}
use Rattle.plain_search.specs.declared.agreement.Row.{Row}

-- the inputs under a number, and the goal's results there
abbrev pub row_at : Goal → ℕ → Row
row_at g n = record { inputs = inputs_numbered g.args n; results = goal_results g (inputs_numbered g.args n) }

-- those under the numbers below this
abbrev pub rows_below : Goal → ℕ → List Row
rows_below g count = map (row_at g) (range_with_len 0 count)

-- the table is one of the goal in that place: of its first inputs, however many
pub record IsTableOf (s : Spec) (place : ℕ) (t : GoalTable) : Type 0 where
  pub nodes : AreGoalNodes s place t.nodes.items
  pub sorts : (g : Goal) → slice_get (file s).goals place ≡ Some g → t.sorts.items ≡ g.args
  pub rows : (g : Goal) → slice_get (file s).goals place ≡ Some g → t.rows ≡ rows_below g (length t.rows)

-- the pattern gives the goal's results at the inputs under a number
abbrev pub AgreesAt : File → Goal → Pattern → ℕ → Type 0
AgreesAt f g p n = pattern_results f p (inputs_numbered g.args n) ≡ goal_results g (inputs_numbered g.args n)
