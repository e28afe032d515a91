use Rattle.std.proofs.Common.{◌≡◌, ◌+◌, ◌-◌, ◌*◌, length, arith, subst, ap, ◌∙◌}
use Rattle.std.specs.List.{flat_map, range_with_len}
use Rattle.multiset_rank.specs.Claims.{Plan, claims_of_size}
use Rattle.multiset_rank.specs.Rising.{multichoose}
use Rattle.multiset_rank.proofs.NumberLemmas.{below_some, below_small}
use Rattle.multiset_rank.proofs.plan.ClaimPlan.claims_below.Goals as goal

pub returns-clause-value : goal.returns-clause-value
returns-clause-value c =
    let p : Plan = record { goals = c.self.inside.goals; kinds = c.self.inside.kinds; bound = c.self.inside.bound } in
    subst (λ q. c.from.result * c.multichoose.result
    ≡ length (flat_map (claims_of_size q) (range_with_len 0 c.args.size))) c.self.view_is
    ((λ i. c.from.ensures i * c.multichoose.ensures.value i) ∙ below_some p c.args.size (c.args.size - 1) (omega arith))

pub returns-clause-small : goal.returns-clause-small
returns-clause-small c =
    let p : Plan = record { goals = c.self.inside.goals; kinds = c.self.inside.kinds; bound = c.self.inside.bound } in
    let same : c.from.result * c.multichoose.result ≡ c.self.inside.goals * multichoose (c.self.inside.kinds + 1)
    (c.args.size - 1) = λ i. c.from.ensures i * c.multichoose.ensures.value i in
    let bound = ap (λ (q : Plan). q.bound) c.self.view_is in
    let within = c.requires in
    let small = below_small p (c.args.size - 1) c.self.invariant (omega (arith, bound, within)) in
    omega (arith, same, small)
