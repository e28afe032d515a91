use Rattle.std.proofs.Common.{◌≡◌, ℕ, List, Some, length, take, slice_get}
use Rattle.bv_terms.specs.declared.value.Sort.{Sort}
use Rattle.isel_spec.specs.File.{Goal}
use Rattle.isel_spec.specs.Spec.{file}
use Rattle.pattern_core.specs.declared.pattern.Src.{Src}
use Rattle.pattern_core.specs.declared.pattern.Src.TheVariants.{Input}
use Rattle.loc_encode.specs.declared.slots.Slot.TheVariants as slot
use Rattle.loc_encode.specs.Slots.{slot_number}
use Rattle.loc_encode.specs.SlotValues.{IsChosenSource}
use Rattle.loc_encode.proofs.decoding.args_at.Given as goal

abbrev pub invariant-loop-place : goal.invariant-loop-place
invariant-loop-place l =
    (g : Goal) (args : List Src) → slice_get (file l.spec).goals l.goal ≡ Some g → length args ≡ length l.sorts
    → ((k : ℕ) (t : Sort) (s : Src) → slice_get l.sorts k ≡ Some t → slice_get args k ≡ Some s
    → IsChosenSource (file l.spec) g l.nodes t l.values (slot_number (slot.Arg l.line k (Input 0))) s)
    → l.args.items ≡ take l.place args
