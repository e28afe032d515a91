use Rattle.std.proofs.Common.{◌≡◌, ◌==◌, drop}
use Rattle.std.specs.List.{list_any}
use Rattle.pattern_text.specs.declared.claimed.Claimed.{Claimed}
use Rattle.pattern_text.proofs.claims.is_claimed.Given as goal

abbrev pub invariant-loop-claim : goal.invariant-loop-claim
invariant-loop-claim l =
    list_any (λ (c : Claimed). c.goal == l.goal) (drop l.claim-index l.claims)
    ≡ list_any (λ (c : Claimed). c.goal == l.goal) l.claims
