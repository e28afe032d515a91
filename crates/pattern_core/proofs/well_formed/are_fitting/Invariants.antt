use Rattle.std.proofs.Common.{◌≡◌, ℕ, ◌<◌, Some, slice_get}
use Rattle.isel_spec.specs.File.{Goal}
use Rattle.isel_spec.specs.Spec.{file}
use Rattle.pattern_core.specs.declared.pattern.Node.{Node}
use Rattle.pattern_core.specs.Pattern.{IsFitting}
use Rattle.pattern_core.proofs.well_formed.are_fitting.Given as goal

abbrev pub invariant-loop-place : goal.invariant-loop-place
invariant-loop-place l =
    (g : Goal) → slice_get (file l.spec).goals l.goal ≡ Some g → (k : ℕ) (n : Node) → k < l.place
    → slice_get l.nodes k ≡ Some n → IsFitting (file l.spec) g l.nodes k n
