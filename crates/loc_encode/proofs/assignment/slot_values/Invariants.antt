use Rattle.std.proofs.Common.{◌≡◌, ◌<◌, ℕ, Some, length, slice_get}
use Rattle.isel_spec.specs.Spec.{file}
use Rattle.loc_encode.specs.Numbers.{slot_at}
use Rattle.loc_encode.specs.SlotValues.{slot_value}
use Rattle.loc_encode.proofs.assignment.slot_values.Given as goal

abbrev pub invariant-loop-number : goal.invariant-loop-number
invariant-loop-number l =
    (length l.values.items ≡ l.number)
    × ((k : ℕ) → k < l.number → slice_get l.values.items k ≡ Some (slot_value (file l.spec) l.pattern (slot_at k)))
