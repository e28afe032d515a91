use Rattle.std.proofs.Common.{◌≤◌, length}
use Rattle.std.specs.List.{flat_map, range_with_len}
use Rattle.multiset_rank.specs.Claims.{claims_of_size}
use Rattle.multiset_rank.proofs.plan.ClaimPlan.size_of.Given as goal

abbrev pub invariant-loop-size : goal.invariant-loop-size
invariant-loop-size l = length (flat_map (claims_of_size l.self) (range_with_len 0 l.size)) ≤ l.number
