-- What the inputs of the formula say: a truth value for each choice of an operation and of a source, and a bit-vector
-- for each attribute. Locations of components: Gulwani, Jha, Tiwari, Venkatesan, PLDI 2011; here each is written
-- one-hot.
use Rattle.std.specs.Prelude.{◌≡◌, ℕ, ◌+◌, ◌*◌, ◌<◌, Some, Contains, length, slice_get}
use Rattle.bv_terms.specs.declared.value.Sort.{Sort}
use Rattle.bv_terms.specs.declared.value.Sort.TheVariants as sort
use Rattle.bv_terms.specs.WellSorted.{sort_of}
use Rattle.isel_spec.specs.File.{Operation}
use Rattle.pattern_core.specs.Claim.{Claim}
use Rattle.pattern_core.specs.declared.pattern.Src.{Src}
use Rattle.pattern_core.specs.declared.pattern.Src.TheVariants.{Input, Out}
use Rattle.loc_encode.specs.declared.slots.Slot.{Slot}
use Rattle.loc_encode.specs.declared.slots.Slot.TheVariants as slot

-- a number for each source: at most 4 inputs, and 3 results of each of 6 nodes
abbrev pub source_number : Src → ℕ
source_number (Input k) = k
source_number (Out node result) = 4 + 3 * node + result

-- a number for each slot: 280 for each line, of which 64 are kinds, 128 attributes and 88 arguments, and then the
-- results
abbrev pub slot_number : Slot → ℕ
slot_number (slot.Kind line op) = 280 * line + op
slot_number (slot.Attr line op place) = 280 * line + 64 + 2 * op + place
slot_number (slot.Arg line place source) = 280 * line + 192 + 22 * place + source_number source
slot_number (slot.Result place source) = 1680 + 22 * place + source_number source

-- an operation of the claim, by its number
abbrev pub IsOperationOf : Claim → ℕ → Operation → Type 0
IsOperationOf c op o = Contains c.ops op × (slice_get c.file.ops op ≡ Some o)

-- what may be named before a line, of a sort: an input of the goal, or a result that some operation of the claim has
abbrev pub IsSourceAt : Claim → ℕ → Sort → Src → Type 0
IsSourceAt c line s (Input k) = slice_get c.goal.args k ≡ Some s
IsSourceAt c line s (Out node result) =
    (node < line) × ((op : ℕ) × (o : Operation) × IsOperationOf c op o
    × ((t : _) × (slice_get o.results result ≡ Some t) × (sort_of c.file.pointer t ≡ Some s)))

-- a slot of the claim, and the sort of the input that it is
abbrev pub IsSlot : Claim → Slot → Sort → Type 0
IsSlot c (slot.Kind line op) s =
    (line < length c.ops) × Contains c.ops op × (s ≡ sort.Bool)
IsSlot c (slot.Attr line op place) s =
    (line < length c.ops) × ((o : Operation) × (w : ℕ) × IsOperationOf c op o × (slice_get o.attrs place ≡ Some w)
    × (s ≡ sort.Bits w))
IsSlot c (slot.Arg line place source) s =
    (line < length c.ops) × ((op : ℕ) × (o : Operation) × (t : Sort) × IsOperationOf c op o
    × (slice_get o.args place ≡ Some t) × IsSourceAt c line t source) × (s ≡ sort.Bool)
IsSlot c (slot.Result place source) s =
    ((t : _) × (u : Sort) × (slice_get c.goal.results place ≡ Some t) × (sort_of c.file.pointer t ≡ Some u)
    × IsSourceAt c (length c.ops) u source) × (s ≡ sort.Bool)
