use Rattle.std.proofs.Common.{◌≡◌, take, false}
use Rattle.std.specs.List.{list_any}
use Rattle.loc_encode.specs.Layout.{is_sort, out_sort}
use Rattle.loc_encode.specs.Claimed.{claim_in}
use Rattle.loc_encode.proofs.layout.Layout.is_result_sort.Given as goal

abbrev pub invariant-loop-op : goal.invariant-loop-op
invariant-loop-op l =
    list_any (λ op. is_sort (out_sort (claim_in l.self) op l.place) l.sort) (take l.op-index l.op-items) ≡ false
