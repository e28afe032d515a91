use Rattle.std.proofs.Common.{◌≡◌, ◌+◌, length, sym, ◌∙◌, ap}
use Rattle.std.specs.List.{flat_map, range_with_len}
use Rattle.multiset_rank.specs.Claims.{claims_of_size}
use Rattle.multiset_rank.proofs.ClaimLemmas.{claims_law}
use Rattle.multiset_rank.proofs.NumberLemmas.{length-claims, claims-formula}
use Rattle.multiset_rank.proofs.plan.ClaimPlan.claims.Goals as goal

all : (c : goal.After-claims_below)
    → c.claims_below.result
    ≡ length (flat_map (claims_of_size c.args.self.now) (range_with_len 0 (c.args.self.now.bound + 1)))
all c = c.claims_below.ensures.value
    ∙ ap (λ b. length (flat_map (claims_of_size c.args.self.now) (range_with_len 0 (b + 1))))
    (ap (λ p. p.bound) c.self.view_is)

pub returns-clause-length : goal.returns-clause-length
returns-clause-length c = all c ∙ sym (length-claims c.args.self.now)

pub returns-clause-formula : goal.returns-clause-formula
returns-clause-formula c = all c ∙ claims-formula c.args.self.now

pub returns-clause-law : goal.returns-clause-law
returns-clause-law c = claims_law c.args.self.now

pub returns-clause-most : goal.returns-clause-most
returns-clause-most c = c.claims_below.ensures.small
