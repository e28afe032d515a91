use Rattle.std.proofs.Common.{◌≡◌, length, map, take, Some, slice_get}
use Rattle.bv_terms.specs.WellSorted.{sort_of}
use Rattle.bv_terms.specs.declared.op.TermId.{TermId}
use Rattle.bv_terms.specs.Table.{term_at}
use Rattle.isel_spec.specs.File.{Goal}
use Rattle.isel_spec.specs.Spec.{file}
use Rattle.pattern_core.specs.Pattern.{source_sort}
use Rattle.pattern_core.proofs.well_formed.have_result_sorts.Given as goal

abbrev pub invariant-loop-place : goal.invariant-loop-place
invariant-loop-place l =
    (g : Goal) → slice_get (file l.spec).goals l.goal ≡ Some g
    → map (source_sort (file l.spec) g l.nodes (length l.nodes)) (take l.place l.sources) ≡ map
    (λ (at : TermId). sort_of l.spec.terms.pointer (term_at l.spec.terms at)) (take l.place l.results)
