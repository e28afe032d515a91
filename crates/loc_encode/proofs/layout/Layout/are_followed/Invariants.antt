use Rattle.loc_encode.specs.Layout.{all_below}
use Rattle.loc_encode.specs.Shape.{is_followed}
use Rattle.loc_encode.specs.Claimed.{claim_in}
use Rattle.loc_encode.proofs.StepLemmas.{IsBuilding}
use Rattle.loc_encode.proofs.layout.Layout.are_followed.Given as goal

abbrev pub invariant-loop-node : goal.invariant-loop-node
invariant-loop-node l =
    IsBuilding (claim_in l.self) l.fn.terms l.terms l.all
    (λ g. all_below (is_followed (claim_in l.self) g) l.node)
