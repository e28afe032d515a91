use Rattle.loc_encode.specs.Layout.{all_below}
use Rattle.loc_encode.specs.Shape.{is_row_filled}
use Rattle.loc_encode.specs.Claimed.{claim_in}
use Rattle.loc_encode.proofs.StepLemmas.{IsBuilding}
use Rattle.loc_encode.proofs.layout.Layout.are_filled.Given as goal

abbrev pub invariant-loop-row : goal.invariant-loop-row
invariant-loop-row l =
    IsBuilding (claim_in l.self) l.fn.terms l.terms l.all
    (λ g. all_below (is_row_filled (claim_in l.self) g) l.row)
