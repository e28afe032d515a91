use Rattle.std.proofs.Common.{◌≡◌, None, ◌<◌, ◌*◌, ◌^◌, arith, ap, subst, ◌∙◌}
use Rattle.std.proofs.Math.Nat.{mul_comm}
use Rattle.plain_search.specs.Trials.{factorial, in_64_bits}
use Rattle.plain_search.proofs.TrialLemmas.{product_is, choices_too_large, inputs_too_large, ordered_too_large}
use Rattle.plain_search.proofs.trial_count.product_of.Goals as goal

pub returns-in_default : goal.returns-in_default
returns-in_default c =
    choices_too_large c.args.count c.args.bits (c.args.sources ^ c.args.places)
    (subst (λ n. n ^ c.args.places < 2 ^ 64 → ⊥) c.from.ensures c.in_default.ensures)

pub returns-in_default-checked_pow : goal.returns-in_default-checked_pow
returns-in_default-checked_pow c =
    let choices = c.in-Some.ensures.1 ∙ ap (λ n. n ^ c.args.places) c.from.ensures in
    let some = c.if-choices-eq0.false in
    subst (λ n. None ≡ in_64_bits (factorial c.args.count * 2 ^ c.args.bits * n)) choices
    (inputs_too_large c.args.count c.args.bits c.in-Some.choices (omega (arith, some))
    c.in_default-checked_pow.ensures)

pub returns-in_default-checked_mul : goal.returns-in_default-checked_mul
returns-in_default-checked_mul c =
    let choices = c.in-Some.ensures.1 ∙ ap (λ n. n ^ c.args.places) c.from.ensures in
    let inputs = c.in-Some-checked_pow.ensures.1 in
    let some = c.if-choices-eq0.false in
    subst (λ n. None ≡ in_64_bits (factorial c.args.count * 2 ^ c.args.bits * n)) choices
    (ordered_too_large c.args.count c.args.bits c.in-Some.choices (omega (arith, some))
    (subst (λ n. n < 2 ^ 64 → ⊥) (λ i. inputs i * c.factorial.ensures i) c.in_default-checked_mul.ensures))

pub returns : goal.returns
returns c =
    let choices = c.in-Some.ensures.1 ∙ ap (λ n. n ^ c.args.places) c.from.ensures in
    let inputs = c.in-Some-checked_pow.ensures.1 in
    let ordered =
    c.in-Some-checked_mul.ensures.1 ∙ (λ i. inputs i * c.factorial.ensures i)
    ∙ mul_comm (2 ^ c.args.bits) (factorial c.args.count) in
    product_is c.checked_mul-2.result (c.in-Some-checked_mul.ordered * c.in-Some.choices)
    (factorial c.args.count * 2 ^ c.args.bits * c.args.sources ^ c.args.places) c.checked_mul-2.ensures
    (λ i. ordered i * choices i)
