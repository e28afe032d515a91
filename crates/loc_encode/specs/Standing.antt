-- When values of the formula's inputs stand for a pattern: they name its operations, attributes and sources.
use Rattle.std.specs.Prelude.{◌≡◌, ℕ, List, Bool, false, Option, Some, None, length, slice_get, nat_eq}
use Rattle.bv_terms.specs.declared.value.Sort.{Sort}
use Rattle.bv_terms.specs.declared.value.Sort.TheVariants as sort
use Rattle.bv_terms.specs.declared.value.Value.{Value}
use Rattle.bv_terms.specs.declared.value.Value.TheVariants as val
use Rattle.bv_terms.specs.Sorts.{HasSort}
use Rattle.isel_spec.specs.File.{Operation}
use Rattle.pattern_core.specs.Claim.{Claim}
use Rattle.pattern_core.specs.declared.pattern.Node.{Node}
use Rattle.pattern_core.specs.declared.pattern.Pattern.{Pattern}
use Rattle.pattern_core.specs.declared.pattern.Src.{Src}
use Rattle.pattern_core.specs.Pattern.{same_source}
use Rattle.loc_encode.specs.declared.slots.Slot.{Slot}
use Rattle.loc_encode.specs.declared.slots.Slot.TheVariants as slot
use Rattle.loc_encode.specs.Slots.{slot_number, IsSlot, IsOperationOf}

-- each slot of the claim has a value of its sort
abbrev pub Fits : Claim → List Value → Type 0
Fits c env = (x : Slot) (s : Sort) → IsSlot c x s
    → (v : Value) × (slice_get env (slot_number x) ≡ Some v) × HasSort s v

abbrev pub is_source : Option Src → Src → Bool
is_source None s = false
is_source (Some r) s = same_source r s

abbrev pub is_op : Option Node → ℕ → Bool
is_op None op = false
is_op (Some n) op = nat_eq n.op op

abbrev pub arg_at : Option Node → ℕ → Option Src
arg_at None place = None
arg_at (Some n) place = slice_get n.args place

-- whether the pattern makes the choice of a slot; an attribute is none
abbrev pub is_chosen : Pattern → Slot → Bool
is_chosen p (slot.Kind line op) = is_op (slice_get p.nodes line) op
is_chosen p (slot.Attr line op place) = false
is_chosen p (slot.Arg line place source) = is_source (arg_at (slice_get p.nodes line) place) source
is_chosen p (slot.Result place source) = is_source (slice_get p.results place) source

-- the values stand for the pattern: of the choices those that it makes are true and the others false, and its
-- attributes are the values of its nodes' operations; other attributes may have any value
pub record StandsFor (c : Claim) (env : List Value) (p : Pattern) : Type 0 where
  pub fits : Fits c env
  pub size : length p.nodes ≡ length c.ops
  pub choices : (x : Slot) → IsSlot c x sort.Bool → slice_get env (slot_number x) ≡ Some (val.Bool (is_chosen p x))
  pub attrs : (k place w a : ℕ) (n : Node) (o : Operation) → slice_get p.nodes k ≡ Some n → IsOperationOf c n.op o
      → slice_get o.attrs place ≡ Some w → slice_get n.attrs place ≡ Some a
      → slice_get env (slot_number (slot.Attr k n.op place)) ≡ Some (val.Bits w a)
