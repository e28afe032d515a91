use Rattle.loc_encode.specs.Layout.{any_below}
use Rattle.loc_encode.specs.Shape.{names_node}
use Rattle.loc_encode.specs.Claimed.{claim_in}
use Rattle.loc_encode.proofs.StepLemmas.{IsBuilding}
use Rattle.loc_encode.proofs.layout.Layout.row_names.Given as goal

abbrev pub invariant-loop-place : goal.invariant-loop-place
invariant-loop-place l =
    IsBuilding (claim_in l.self) l.fn.terms l.terms l.any
    (λ g. any_below (names_node (claim_in l.self) g l.node l.row) l.place)
