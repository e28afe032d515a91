use Rattle.std.proofs.Common.{◌+◌}
use Rattle.loc_encode.specs.Layout.{any_below}
use Rattle.loc_encode.specs.Shape.{row_names}
use Rattle.loc_encode.specs.Claimed.{claim_in}
use Rattle.loc_encode.proofs.StepLemmas.{IsBuilding}
use Rattle.loc_encode.proofs.layout.Layout.is_used.Given as goal

abbrev pub invariant-loop-after : goal.invariant-loop-after
invariant-loop-after l =
    IsBuilding (claim_in l.self) l.fn.terms l.terms l.any
    (λ g. any_below (λ k. row_names (claim_in l.self) g l.node (l.node + 1 + k)) l.after)
