use Rattle.std.proofs.Common.{◌≡◌, ◌<◌, ℕ, Some, length, slice_get}
use Rattle.bv_terms.specs.Table.{Extends}
use Rattle.bv_terms.specs.declared.value.Sort.TheVariants as sort
use Rattle.pattern_core.specs.Claim.{Claim}
use Rattle.pattern_core.specs.declared.pattern.Src.{Src}
use Rattle.loc_encode.specs.declared.slots.Slot.TheVariants as slot
use Rattle.loc_encode.specs.Slots.{IsSlot}
use Rattle.loc_encode.specs.Matching.{NameArgs}
use Rattle.loc_encode.specs.Condition.{IsBoth}
use Rattle.loc_encode.proofs.difference.and_args.Given as goal

abbrev pub invariant-loop-place : goal.invariant-loop-place
invariant-loop-place l =
    Extends l.initial.terms l.terms × (l.all.0 < length l.terms.nodes)
    × ((c : Claim) → ((k : ℕ) (s : Src) → slice_get l.args k ≡ Some s → IsSlot c (slot.Arg l.line k s) sort.Bool)
    → IsBoth c l.initial.terms l.fn.earlier l.terms l.all (NameArgs l.line l.args l.place))
