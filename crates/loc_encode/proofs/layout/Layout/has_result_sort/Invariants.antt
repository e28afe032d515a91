use Rattle.std.proofs.Common.{take, ◌&&◌}
use Rattle.std.specs.List.{list_any}
use Rattle.loc_encode.specs.declared.slots.Slot.TheVariants as slot
use Rattle.loc_encode.specs.Layout.{is_sort, out_sort}
use Rattle.loc_encode.specs.Claimed.{claim_in}
use Rattle.loc_encode.proofs.StepLemmas.{IsBuilding}
use Rattle.loc_encode.proofs.layout.Layout.has_result_sort.Given as goal

abbrev pub invariant-loop-op : goal.invariant-loop-op
invariant-loop-op l =
    IsBuilding (claim_in l.self) l.fn.terms l.terms l.any
    (λ g. list_any (λ op. is_sort (out_sort (claim_in l.self) op l.place) l.sort && g (slot.Kind l.node op))
    (take l.op-index l.kinds))
