use Rattle.std.proofs.Common.{map}
use Rattle.loc_encode.specs.declared.slots.Slot.TheVariants as slot
use Rattle.loc_encode.specs.Layout.{kinds, all_below}
use Rattle.loc_encode.specs.Shape.{are_chosen}
use Rattle.loc_encode.specs.Claimed.{claim_in}
use Rattle.loc_encode.proofs.StepLemmas.{IsBuilding}
use Rattle.loc_encode.proofs.layout.Layout.have_kinds.Given as goal

abbrev pub invariant-loop-line : goal.invariant-loop-line
invariant-loop-line l =
    IsBuilding (claim_in l.self) l.fn.terms l.terms l.all
    (λ g. all_below (λ line. are_chosen g (map (slot.Kind line) (kinds (claim_in l.self))) 1) l.line)
