use Rattle.std.proofs.Common.{◌≡◌, ℕ, List, Some, length, take, slice_get}
use Rattle.bv_terms.specs.declared.op.TermId.{TermId}
use Rattle.bv_terms.specs.declared.value.Sort.{Sort}
use Rattle.bv_terms.specs.Table.{term_at}
use Rattle.bv_terms.specs.WellSorted.{sort_of}
use Rattle.isel_spec.specs.File.{Goal}
use Rattle.isel_spec.specs.Spec.{file}
use Rattle.pattern_core.specs.declared.pattern.Src.{Src}
use Rattle.pattern_core.specs.declared.pattern.Src.TheVariants.{Input}
use Rattle.loc_encode.specs.declared.slots.Slot.TheVariants as slot
use Rattle.loc_encode.specs.Slots.{slot_number}
use Rattle.loc_encode.specs.SlotValues.{IsChosenSource}
use Rattle.loc_encode.proofs.decoding.results_at.Given as goal

abbrev pub invariant-loop-place : goal.invariant-loop-place
invariant-loop-place l =
    (g : Goal) (sources : List Src) → slice_get (file l.spec).goals l.goal ≡ Some g
    → length sources ≡ length l.results
    → ((k : ℕ) (at : TermId) (t : Sort) (s : Src) → slice_get l.results k ≡ Some at
    → sort_of l.spec.terms.pointer (term_at l.spec.terms at) ≡ Some t → slice_get sources k ≡ Some s
    → IsChosenSource (file l.spec) g l.nodes t l.values (slot_number (slot.Result k (Input 0))) s)
    → l.sources.items ≡ take l.place sources
