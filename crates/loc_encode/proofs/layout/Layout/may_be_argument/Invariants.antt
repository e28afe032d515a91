use Rattle.std.proofs.Common.{◌≡◌, take, false}
use Rattle.std.specs.List.{list_any}
use Rattle.loc_encode.specs.Layout.{may_have_wanted, arg_sort}
use Rattle.loc_encode.specs.Claimed.{claim_in}
use Rattle.loc_encode.proofs.layout.Layout.may_be_argument.Given as goal

abbrev pub invariant-loop-op : goal.invariant-loop-op
invariant-loop-op l =
    list_any (λ op. may_have_wanted (claim_in l.self) l.line l.source (arg_sort (claim_in l.self) op l.place))
    (take l.op-index l.op-items) ≡ false
