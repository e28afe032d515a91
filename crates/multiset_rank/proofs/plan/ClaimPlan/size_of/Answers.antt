use Rattle.std.proofs.Common.{◌<◌, ◌+◌, length, subst, sym, ap, ◌∙◌}
use Rattle.std.specs.List.{flat_map, range_with_len}
use Rattle.multiset_rank.specs.Claims.{Plan, claims_of_size}
use Rattle.multiset_rank.proofs.NumberLemmas.{length-claims}
use Rattle.multiset_rank.proofs.plan.ClaimPlan.size_of.Goals as goal

pub returns-clause-to : goal.returns-clause-to
returns-clause-to c =
    let p = c.args.self.now in
    subst (λ n. c.args.number < n)
    (length-claims p ∙ ap (λ b. length (flat_map (claims_of_size p) (range_with_len 0 (b + 1))))
    (sym (ap (λ (q : Plan). q.bound) c.self.view_is))) c.requires
