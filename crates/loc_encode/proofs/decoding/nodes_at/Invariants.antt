use Rattle.std.proofs.Common.{◌≡◌, length, take}
use Rattle.pattern_core.specs.Claim.{Claim, IsClaim, IsPatternOf}
use Rattle.pattern_core.specs.declared.pattern.Pattern.{Pattern}
use Rattle.loc_encode.specs.Standing.{StandsFor}
use Rattle.loc_encode.proofs.decoding.nodes_at.Given as goal

abbrev pub invariant-loop-line : goal.invariant-loop-line
invariant-loop-line l =
    (length l.nodes.items ≡ l.line)
    × ((c : Claim) (p : Pattern) → IsClaim l.spec l.goal l.ops c → IsPatternOf c p → StandsFor c l.values p
    → l.nodes.items ≡ take l.line p.nodes)
