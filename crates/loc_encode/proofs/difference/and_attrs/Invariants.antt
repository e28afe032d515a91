use Rattle.std.proofs.Common.{◌≡◌, ◌<◌, ℕ, Some, length, slice_get}
use Rattle.bv_terms.specs.Table.{Extends}
use Rattle.bv_terms.specs.declared.value.Sort.TheVariants as sort
use Rattle.pattern_core.specs.Claim.{Claim}
use Rattle.loc_encode.specs.declared.slots.Slot.TheVariants as slot
use Rattle.loc_encode.specs.Slots.{IsSlot}
use Rattle.loc_encode.specs.Matching.{HaveAttrs}
use Rattle.loc_encode.specs.Condition.{IsBoth}
use Rattle.loc_encode.proofs.difference.and_attrs.Given as goal

abbrev pub invariant-loop-place : goal.invariant-loop-place
invariant-loop-place l =
    Extends l.initial.terms l.terms × (l.all.0 < length l.terms.nodes)
    × ((c : Claim) → ((k w : ℕ) → slice_get l.widths k ≡ Some w → IsSlot c (slot.Attr l.line l.op k) (sort.Bits w))
    → IsBoth c l.initial.terms l.fn.earlier l.terms l.all (HaveAttrs l.line l.op l.widths l.numbers l.place))
