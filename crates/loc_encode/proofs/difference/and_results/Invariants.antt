use Rattle.std.proofs.Common.{◌<◌, length}
use Rattle.bv_terms.specs.Table.{Extends}
use Rattle.pattern_core.specs.Claim.{Claim}
use Rattle.loc_encode.specs.Matching.{NameResults, AreResultSlots}
use Rattle.loc_encode.specs.Condition.{IsBoth}
use Rattle.loc_encode.proofs.difference.and_results.Given as goal

abbrev pub invariant-loop-place : goal.invariant-loop-place
invariant-loop-place l =
    Extends l.initial.terms l.terms × (l.all.0 < length l.terms.nodes)
    × ((c : Claim) → AreResultSlots c l.results
    → IsBoth c l.initial.terms l.fn.earlier l.terms l.all (NameResults l.results l.place))
