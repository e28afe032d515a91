-- The pattern that choices are of, read off slot by slot.
use Rattle.std.specs.Prelude.{ℕ, List, [], ◌∷◌, length, map, Option, Some, None, slice_get, Bool, if◌then◌else◌}
use Rattle.std.specs.List.{range_with_len}
use Rattle.bv_terms.specs.declared.value.Sort.{Sort}
use Rattle.bv_terms.specs.declared.value.Value.{Value}
use Rattle.bv_terms.specs.declared.value.Value.TheVariants as val
use Rattle.isel_spec.specs.File.{Operation}
use Rattle.pattern_core.specs.Claim.{Claim}
use Rattle.pattern_core.specs.declared.pattern.Node.{Node}
use Rattle.pattern_core.specs.declared.pattern.Pattern.{Pattern}
use Rattle.pattern_core.specs.declared.pattern.Src.{Src}
use Rattle.pattern_core.specs.declared.pattern.Src.TheVariants.{Input}
use Rattle.loc_encode.specs.declared.slots.Slot.{Slot}
use Rattle.loc_encode.specs.declared.slots.Slot.TheVariants as slot
use Rattle.loc_encode.specs.Slots.{slot_number}
use Rattle.loc_encode.specs.Tests.{chosen}
use Rattle.loc_encode.specs.Layout.{kinds, size, slot_at, choices}

-- the first that passes a test, and else this
abbrev pub first_true : {X : Type 0} → (X → Bool) → List X → X → X
first_true p [] d = d
first_true p (x ∷ xs) d = if p x then x else first_true p xs d

-- the operation at a line, and the source in the place of a row
abbrev pub kind_at : Claim → (Slot → Bool) → ℕ → ℕ
kind_at c g line = first_true (λ op. g (slot.Kind line op)) (kinds c) 0

abbrev pub source_in : Claim → (Slot → Bool) → ℕ → ℕ → Src
source_in c g row place = first_true (λ s. g (slot_at c row place s)) (choices c row place) (Input 0)

abbrev pub number_in : Option Value → ℕ
number_in (Some (val.Bits w n)) = n
number_in _ = 0

abbrev pub sorts_in : Option Operation → List Sort
sorts_in None = []
sorts_in (Some o) = o.args

abbrev pub widths_in : Option Operation → List ℕ
widths_in None = []
widths_in (Some o) = o.attrs

abbrev pub attr_in : List Value → ℕ → ℕ → ℕ → ℕ
attr_in env line op place = number_in (slice_get env (slot_number (slot.Attr line op place)))

abbrev pub node_of : Claim → List Value → ℕ → ℕ → Node
node_of c env line op = record {
  op = op;
  attrs = map (attr_in env line op) (range_with_len 0 (length (widths_in (slice_get c.file.ops op))));
  args = map (source_in c (chosen env) line) (range_with_len 0 (length (sorts_in (slice_get c.file.ops op))));
}

abbrev pub node_at : Claim → List Value → ℕ → Node
node_at c env line = node_of c env line (kind_at c (chosen env) line)

-- the pattern at whose nodes these values stand
unfoldable pub pattern_of : Claim → List Value → Pattern
pattern_of c env = record {
  nodes = map (node_at c env) (range_with_len 0 (size c));
  results = map (source_in c (chosen env) (size c)) (range_with_len 0 (length c.goal.results));
}
