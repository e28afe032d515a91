use Rattle.std.proofs.Common.{◌≡◌, ◌+◌, ◌*◌, Some, arith, ap, subst, slice_get}
use Rattle.std.proofs.lemmas.Option.{slice_get_within}
use Rattle.multiset_rank.specs.Claims.{Plan, IsPlan, claims}
use Rattle.multiset_rank.proofs.ClaimLemmas.{claim_once}
use Rattle.multiset_rank.proofs.NumberLemmas.{number_stands, claim_fits}
use Rattle.multiset_rank.proofs.plan.ClaimPlan.number.Goals as goal

there : (c : goal.After-rank)
    → slice_get (claims c.args.self.now)
    (c.claims_below.result + c.from.result * c.multichoose-multisets.result + c.rank.result)
    ≡ Some (c.args.goal, c.args.multi.now)
there c =
    number_stands c.args.self.now c.self.inside.kinds c.args.goal c.claims_below.result c.from.result
    c.multichoose-multisets.result c.rank.result c.ops.result.now c.args.multi.now
    (ap (λ (q : Plan). q.kinds) c.self.view_is) c.ops.ensures.numbers c.requires.in_plan
    c.multichoose-multisets.ensures.value c.claims_below.ensures.value c.from.ensures c.rank.ensures.place.there

pub overflow_add-result-2 : goal.overflow_add-result-2
overflow_add-result-2 c =
    let fits = claim_fits c.args.self.now
    (c.claims_below.result + c.from.result * c.multichoose-multisets.result + c.rank.result)
    (c.args.goal, c.args.multi.now) (subst IsPlan c.self.view_is c.self.invariant) (there c) in
    omega (arith, fits)

pub returns-clause-place : goal.returns-clause-place
returns-clause-place c =
    claim_once c.args.self.now (c.claims_below.result + c.from.result * c.multichoose-multisets.result + c.rank.result)
    (c.args.goal, c.args.multi.now) (there c)

pub returns-clause-within : goal.returns-clause-within
returns-clause-within c =
    slice_get_within (claims c.args.self.now)
    (c.claims_below.result + c.from.result * c.multichoose-multisets.result + c.rank.result)
    (c.args.goal, c.args.multi.now) (there c)
