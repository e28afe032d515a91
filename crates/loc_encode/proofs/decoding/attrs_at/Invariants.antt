use Rattle.std.proofs.Common.{◌≡◌, ℕ, List, Some, length, take, slice_get}
use Rattle.bv_terms.specs.declared.value.Value.TheVariants as val
use Rattle.loc_encode.specs.declared.slots.Slot.TheVariants as slot
use Rattle.loc_encode.specs.Slots.{slot_number}
use Rattle.loc_encode.proofs.decoding.attrs_at.Given as goal

abbrev pub invariant-loop-place : goal.invariant-loop-place
invariant-loop-place l =
    (numbers : List ℕ) → length numbers ≡ length l.widths
    → ((k w a : ℕ) → slice_get l.widths k ≡ Some w → slice_get numbers k ≡ Some a
    → slice_get l.values (slot_number (slot.Attr l.line l.op k)) ≡ Some (val.Bits w a))
    → l.numbers.items ≡ take l.place numbers
