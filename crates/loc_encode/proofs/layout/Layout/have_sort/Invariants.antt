use Rattle.std.proofs.Common.{take, ◌||◌, not}
use Rattle.std.specs.List.{list_all}
use Rattle.loc_encode.specs.Layout.{slot_at}
use Rattle.loc_encode.specs.Shape.{has_sort}
use Rattle.loc_encode.specs.Claimed.{claim_in}
use Rattle.loc_encode.proofs.StepLemmas.{IsBuilding}
use Rattle.loc_encode.proofs.layout.Layout.have_sort.Given as goal

abbrev pub invariant-loop-source : goal.invariant-loop-source
invariant-loop-source l =
    IsBuilding (claim_in l.self) l.fn.terms l.terms l.all
    (λ g. list_all (λ s. not (g (slot_at (claim_in l.self) l.row l.place s)) || has_sort (claim_in l.self) g l.sort s)
    (take l.source-index l.sources))
