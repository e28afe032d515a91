use Rattle.std.proofs.Common.{take, nat_eq}
use Rattle.std.specs.Prelude.{count_by}
use Rattle.std.specs.List.{list_all}
use Rattle.loc_encode.specs.Shape.{are_chosen, kind_slots}
use Rattle.loc_encode.specs.Claimed.{claim_in}
use Rattle.loc_encode.proofs.StepLemmas.{IsBuilding}
use Rattle.loc_encode.proofs.layout.Layout.are_used_up.Given as goal

abbrev pub invariant-loop-op : goal.invariant-loop-op
invariant-loop-op l =
    IsBuilding (claim_in l.self) l.fn.terms l.terms l.all
    (λ g. list_all (λ op. are_chosen g (kind_slots (claim_in l.self) op) (count_by (nat_eq op) (claim_in l.self).ops))
    (take l.op-index l.kinds))
