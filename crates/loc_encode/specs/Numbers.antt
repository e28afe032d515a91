-- The slot of a number, and which slots there is room for.
use Rattle.std.specs.Prelude.{ℕ, ◌-◌, ◌/◌, ◌%◌, ◌<◌, nat_lt, if◌then◌else◌}
use Rattle.pattern_core.specs.declared.pattern.Src.{Src}
use Rattle.pattern_core.specs.declared.pattern.Src.TheVariants.{Input, Out}
use Rattle.loc_encode.specs.declared.slots.Slot.{Slot}
use Rattle.loc_encode.specs.declared.slots.Slot.TheVariants as slot

-- a source of a goal of at most 4 inputs and of at most 6 nodes of at most 3 results
abbrev pub IsSmallSource : Src → Type 0
IsSmallSource (Input k) = k < 4
IsSmallSource (Out node result) = (node < 6) × (result < 3)

-- a slot of at most 6 lines, 64 operations, 2 attributes and 4 arguments each, and 3 results
abbrev pub IsSmall : Slot → Type 0
IsSmall (slot.Kind line op) = (line < 6) × (op < 64)
IsSmall (slot.Attr line op place) = (line < 6) × (op < 64) × (place < 2)
IsSmall (slot.Arg line place source) = (line < 6) × (place < 4) × IsSmallSource source
IsSmall (slot.Result place source) = (place < 3) × IsSmallSource source

-- how many numbers of slots there are
abbrev pub slot_count : ℕ
slot_count = 1746

abbrev pub source_at : ℕ → Src
source_at k = if nat_lt k 4 then Input k else Out ((k - 4) / 3) ((k - 4) % 3)

abbrev pub line_slot : ℕ → ℕ → Slot
line_slot line rest =
    if nat_lt rest 64 then slot.Kind line rest
    else if nat_lt rest 192 then slot.Attr line ((rest - 64) / 2) ((rest - 64) % 2)
    else slot.Arg line ((rest - 192) / 22) (source_at ((rest - 192) % 22))

-- the slot of a number
abbrev pub slot_at : ℕ → Slot
slot_at k =
    if nat_lt k 1680 then line_slot (k / 280) (k % 280)
    else slot.Result ((k - 1680) / 22) (source_at ((k - 1680) % 22))
