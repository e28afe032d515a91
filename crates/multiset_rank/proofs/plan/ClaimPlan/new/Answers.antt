use Rattle.std.proofs.Common.{◌≡◌, ℕ, ◌+◌, ◌*◌, ◌∙◌, arith, refl}
use Rattle.multiset_rank.specs.Binomial.{choose}
use Rattle.multiset_rank.proofs.NumberLemmas.{count-claims}
use Rattle.multiset_rank.proofs.plan.ClaimPlan.new.Goals as goal
use Rattle.multiset_rank.specs.Rising.{multichoose}

count : (goals kinds bound n w : ℕ) → n ≡ goals → w ≡ multichoose (kinds + 1) bound
    → n * w ≡ goals * choose (kinds + bound) bound
count goals kinds bound n w e g =
    (λ i. e i * g i) ∙ count-claims (record { goals = goals; kinds = kinds; bound = bound })

pub returns-then-claims-gt-MOST_CLAIMS-clause-too_many : goal.returns-then-claims-gt-MOST_CLAIMS-clause-too_many
returns-then-claims-gt-MOST_CLAIMS-clause-too_many c =
    let same = count c.args.goals c.args.kinds c.args.bound c.from.result c.multichoose.result c.from.ensures
    c.multichoose.ensures.value in
    (λ t. omega (arith, same), λ l. refl)

pub returns-then-claims-gt-MOST_CLAIMS-clause-claims : goal.returns-then-claims-gt-MOST_CLAIMS-clause-claims
returns-then-claims-gt-MOST_CLAIMS-clause-claims c =
    count c.args.goals c.args.kinds c.args.bound c.from.result c.multichoose.result c.from.ensures
    c.multichoose.ensures.value

pub invariant_of-result : goal.invariant_of-result
invariant_of-result c =
    let same = count c.args.goals c.args.kinds c.args.bound c.from.result c.multichoose.result c.from.ensures
    c.multichoose.ensures.value in
    record {
      some_goals = c.requires.some_goals;
      most_goals = c.requires.most_goals;
      some_kinds = c.requires.some_kinds;
      most_kinds = c.requires.most_kinds;
      most_bound = c.requires.bound;
      most_claims = omega (arith, same);
    }

pub returns-clause-too_many : goal.returns-clause-too_many
returns-clause-too_many c =
    let same = count c.args.goals c.args.kinds c.args.bound c.from.result c.multichoose.result c.from.ensures
    c.multichoose.ensures.value in
    (λ t. absurd (cc), λ l. absurd (omega (arith, same, l)))
