use Rattle.std.proofs.Common.{◌≡◌, ℕ, ◌<◌, Some, slice_get}
use Rattle.isel_spec.specs.File.{Goal}
use Rattle.isel_spec.specs.Spec.{file}
use Rattle.pattern_core.specs.declared.pattern.Src.TheVariants.{Out}
use Rattle.pattern_core.specs.Pattern.{IsLinearAt}
use Rattle.pattern_core.proofs.well_formed.is_node_linear.Given as goal

abbrev pub invariant-loop-place : goal.invariant-loop-place
invariant-loop-place l =
    (g : Goal) → slice_get (file l.spec).goals l.goal ≡ Some g
    → (r : ℕ) → r < l.place → IsLinearAt (file l.spec) g l.pattern (Out l.node r)
