use Rattle.std.proofs.Common.{◌-◌, ◌/◌, ◌%◌, ◌<◌, ◌≤◌, length, Some, slice_get, ◌≡◌, arith, sym, subst}
use Rattle.multiset_rank.specs.Multisets.{multisets}
use Rattle.multiset_rank.specs.Claims.{Plan, IsPlan, claims}
use Rattle.multiset_rank.proofs.ClaimLemmas.{claim_once, claim_at}
use Rattle.multiset_rank.proofs.NumberLemmas.{IsSplit, IsSplit-seen, split_stands}
use Rattle.multiset_rank.proofs.plan.ClaimPlan.claim.Goals as goal

split : (c : goal.After-multichoose-multisets)
    → IsSplit c.args.self.now c.size_of-size.result c.args.number c.claims_below.result c.multichoose-multisets.result
split c =
    let q : Plan = record { goals = c.self.inside.goals; kinds = c.self.inside.kinds; bound = c.self.inside.bound } in
    IsSplit-seen q c.args.self.now c.size_of-size.result c.args.number c.claims_below.result
    c.multichoose-multisets.result c.self.view_is c.self.invariant
    c.claims_below.ensures.value c.size_of-size.ensures.from c.size_of-size.ensures.to
    c.multichoose-multisets.ensures.value

pub nonzero_div-goal : goal.nonzero_div-goal
nonzero_div-goal c = (split c).some

pub overflow_cast-result : goal.overflow_cast-result
overflow_cast-result c =
    let below : (c.args.number - c.claims_below.result) / c.multichoose-multisets.result < c.args.self.now.goals =
    (split c).goal in
    let most : c.args.self.now.goals ≤ 256 = (subst IsPlan c.self.view_is c.self.invariant).most_goals in
    omega (arith, below, most)

pub nonzero_rem-place : goal.nonzero_rem-place
nonzero_rem-place c = (split c).some

pub unrank-requires-clause-number : goal.unrank-requires-clause-number
unrank-requires-clause-number c =
    subst (λ (o : Plan). (c.args.number - c.claims_below.result) % c.multichoose-multisets.result < length
    (multisets o.kinds c.size_of-size.result)) (sym c.self.view_is) (split c).place

there : (c : goal.After-unrank)
    → slice_get (claims c.args.self.now) c.args.number
    ≡ Some ((c.args.number - c.claims_below.result) / c.multichoose-multisets.result, c.unrank.result)
there c =
    let p = c.args.self.now in
    let q : Plan = record { goals = c.self.inside.goals; kinds = c.self.inside.kinds; bound = c.self.inside.bound } in
    let size = c.size_of-size.result in
    let number = c.args.number in
    let before = c.claims_below.result in
    let each = c.multichoose-multisets.result in
    let parts = IsSplit-seen q p size number before each c.self.view_is c.self.invariant c.claims_below.ensures.value
    c.size_of-size.ensures.from c.size_of-size.ensures.to c.multichoose-multisets.ensures.value in
    split_stands q p size number before each c.unrank.result c.self.view_is parts c.size_of-size.ensures.bound
    c.claims_below.ensures.value c.unrank.ensures.place.there

pub returns-clause-place : goal.returns-clause-place
returns-clause-place c =
    claim_once c.args.self.now c.args.number (
      (c.args.number - c.claims_below.result) / c.multichoose-multisets.result,
      c.unrank.result,
    ) (there c)

pub returns-clause-in_plan : goal.returns-clause-in_plan
returns-clause-in_plan c =
    claim_at c.args.self.now c.args.number
    ((c.args.number - c.claims_below.result) / c.multichoose-multisets.result) c.unrank.result (there c)
