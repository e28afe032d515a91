-- What is read from the values of the formula's inputs, and the values that a pattern gives them.
use Rattle.std.specs.Prelude.{◌≡◌, ◌+◌, ℕ, List, Some, None, Option, Bool, false, Contains, length, slice_get}
use Rattle.std.specs.Prelude.{unwrap_or, nat_eq, if◌then◌else◌}
use Rattle.bv_terms.specs.declared.value.Sort.{Sort}
use Rattle.bv_terms.specs.declared.value.Value.{Value}
use Rattle.bv_terms.specs.declared.value.Value.TheVariants as val
use Rattle.isel_spec.specs.File.{File, Goal, Operation}
use Rattle.pattern_core.specs.declared.pattern.Node.{Node}
use Rattle.pattern_core.specs.declared.pattern.Pattern.{Pattern}
use Rattle.pattern_core.specs.declared.pattern.Src.{Src}
use Rattle.loc_encode.specs.Slots.{slot_number, source_number}
use Rattle.pattern_core.specs.Pattern.{source_sort, same_source}
use Rattle.loc_encode.specs.declared.slots.Slot.{Slot}
use Rattle.loc_encode.specs.declared.slots.Slot.TheVariants as slot
use Rattle.loc_encode.specs.Standing.{is_chosen}

-- ---- from values to a pattern

-- whether there is a truth value that is true
abbrev pub truth_in : Option Value → Bool
truth_in (Some (val.Bool b)) = b
truth_in _ = false

-- the number of a bit-vector
abbrev pub number_in : Option Value → ℕ
number_in (Some (val.Bits w a)) = a
number_in _ = 0

-- of the choices of an operation at a line this one alone is made
pub record IsChosenOp (env : List Value) (line : ℕ) (ops : List ℕ) (op : ℕ) : Type 0 where
  pub among : Contains ops op
  pub choices : (x : ℕ) → Contains ops x
      → slice_get env (slot_number (slot.Kind line x)) ≡ Some (val.Bool (nat_eq op x))

-- of the choices of a source of a sort this one alone is made; those of a place have numbers from the first on
pub record IsChosenSource (f : File) (g : Goal) (nodes : List Node) (t : Sort) (env : List Value) (first : ℕ) (s : Src)
    : Type 0 where
  pub sorted : source_sort f g nodes (length nodes) s ≡ Some t
  pub choices : (r : Src) → source_sort f g nodes (length nodes) r ≡ Some t
      → slice_get env (first + source_number r) ≡ Some (val.Bool (same_source s r))

-- ---- from a pattern to values

abbrev pub attr_number : Option Node → ℕ → ℕ → ℕ
attr_number None op place = 0
attr_number (Some n) op place = if nat_eq n.op op then unwrap_or (slice_get n.attrs place) 0 else 0

abbrev pub width_value : Option ℕ → ℕ → Value
width_value None a = val.Bool false
width_value (Some w) a = val.Bits w a

abbrev pub attr_value : Option Operation → Option Node → ℕ → ℕ → Value
attr_value None n op place = val.Bool false
attr_value (Some o) n op place = width_value (slice_get o.attrs place) (attr_number n op place)

-- the value of a slot's input: whether the choice is made; an attribute of another operation is 0
abbrev pub slot_value : File → Pattern → Slot → Value
slot_value f p (slot.Attr line op place) = attr_value (slice_get f.ops op) (slice_get p.nodes line) op place
slot_value f p x = val.Bool (is_chosen p x)
