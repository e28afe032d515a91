use Rattle.std.proofs.Common.{take, ◌||◌, not}
use Rattle.std.specs.List.{list_all}
use Rattle.loc_encode.specs.declared.slots.Slot.TheVariants as slot
use Rattle.loc_encode.specs.Layout.{arg_sort}
use Rattle.loc_encode.specs.Shape.{has_source}
use Rattle.loc_encode.specs.Claimed.{claim_in}
use Rattle.loc_encode.proofs.StepLemmas.{IsBuilding}
use Rattle.loc_encode.proofs.layout.Layout.has_argument.Given as goal

abbrev pub invariant-loop-op : goal.invariant-loop-op
invariant-loop-op l =
    IsBuilding (claim_in l.self) l.fn.terms l.terms l.all
    (λ g. list_all (λ op. not (g (slot.Kind l.line op))
    || has_source (claim_in l.self) g l.line l.place (arg_sort (claim_in l.self) op l.place)) (take l.op-index l.kinds))
