use Rattle.std.proofs.Common.{◌≡◌, ℕ, ◌<◌, Some, slice_get}
use Rattle.isel_spec.specs.File.{Goal}
use Rattle.isel_spec.specs.Spec.{file}
use Rattle.pattern_core.specs.declared.pattern.Src.TheVariants.{Input}
use Rattle.pattern_core.specs.Pattern.{IsLinearAt}
use Rattle.pattern_core.proofs.well_formed.are_inputs_linear.Given as goal

abbrev pub invariant-loop-input : goal.invariant-loop-input
invariant-loop-input l =
    (g : Goal) → slice_get (file l.spec).goals l.goal ≡ Some g
    → (k : ℕ) → k < l.input → IsLinearAt (file l.spec) g l.pattern (Input k)
