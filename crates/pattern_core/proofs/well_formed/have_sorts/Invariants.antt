use Rattle.std.proofs.Common.{◌≡◌, map, take, Some, slice_get}
use Rattle.bv_terms.specs.declared.value.Sort.{Sort}
use Rattle.isel_spec.specs.File.{Goal}
use Rattle.isel_spec.specs.Spec.{file}
use Rattle.pattern_core.specs.Pattern.{source_sort}
use Rattle.pattern_core.proofs.well_formed.have_sorts.Given as goal

abbrev pub invariant-loop-place : goal.invariant-loop-place
invariant-loop-place l =
    (g : Goal) → slice_get (file l.spec).goals l.goal ≡ Some g
    → map (source_sort (file l.spec) g l.nodes l.count) (take l.place l.sources) ≡ map (λ (s : Sort). Some s)
    (take l.place l.sorts)
