use Rattle.loc_encode.specs.Layout.{all_below}
use Rattle.loc_encode.specs.Shape.{is_filled}
use Rattle.loc_encode.specs.Claimed.{claim_in}
use Rattle.loc_encode.proofs.StepLemmas.{IsBuilding}
use Rattle.loc_encode.proofs.layout.Layout.is_row_filled.Given as goal

abbrev pub invariant-loop-place : goal.invariant-loop-place
invariant-loop-place l =
    IsBuilding (claim_in l.self) l.fn.terms l.terms l.all
    (λ g. all_below (is_filled (claim_in l.self) g l.row) l.place)
