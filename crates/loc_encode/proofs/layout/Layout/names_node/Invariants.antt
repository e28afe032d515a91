use Rattle.pattern_core.specs.declared.pattern.Src.TheVariants.{Out}
use Rattle.loc_encode.specs.Layout.{any_below}
use Rattle.loc_encode.specs.Shape.{names_source}
use Rattle.loc_encode.specs.Claimed.{claim_in}
use Rattle.loc_encode.proofs.StepLemmas.{IsBuilding}
use Rattle.loc_encode.proofs.layout.Layout.names_node.Given as goal

abbrev pub invariant-loop-result : goal.invariant-loop-result
invariant-loop-result l =
    IsBuilding (claim_in l.self) l.fn.terms l.terms l.any
    (λ g. any_below (λ r. names_source (claim_in l.self) g l.row l.place (Out l.node r)) l.result)
