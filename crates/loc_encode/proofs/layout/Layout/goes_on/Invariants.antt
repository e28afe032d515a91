use Rattle.std.proofs.Common.{◌+◌, ◌&&◌}
use Rattle.loc_encode.specs.Tests.{IsTest}
use Rattle.loc_encode.specs.Layout.{any_below}
use Rattle.loc_encode.specs.Shape.{names_node, names_from}
use Rattle.loc_encode.specs.Claimed.{claim_in}
use Rattle.loc_encode.proofs.StepLemmas.{IsBuilding}
use Rattle.loc_encode.proofs.layout.Layout.goes_on.Given as goal

abbrev pub invariant-loop-place : goal.invariant-loop-place
invariant-loop-place l =
    record {
      any : IsBuilding (claim_in l.self) l.fn.terms l.terms l.any
          (λ g. any_below (λ place. any_below (names_node (claim_in l.self) g l.node l.row) place
          && names_from (claim_in l.self) g (l.node + 1) l.row place) l.place);
      named : IsTest (claim_in l.self) l.terms l.named
          (λ g. any_below (names_node (claim_in l.self) g l.node l.row) l.place);
    }
