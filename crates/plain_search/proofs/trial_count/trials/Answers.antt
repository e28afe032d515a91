use Rattle.std.proofs.Common.{List, ◌+◌, ◌≤◌, length, sum_by, arith, ap, sym, subst, ◌∙◌}
use Rattle.bv_terms.specs.Sorts.{width_of}
use Rattle.bv_terms.specs.declared.value.Sort.{Sort}
use Rattle.isel_spec.specs.declared.definitions.Kind.{Kind}
use Rattle.isel_spec.specs.File.{sorts_in}
use Rattle.isel_spec.specs.Spec.{file}
use Rattle.isel_spec.proofs.SpecLemmas.{IsSoundGoal_at}
use Rattle.plain_search.specs.Extent.{attribute_bits}
use Rattle.plain_search.specs.Trials.{results_of, arguments_of, in_64_bits}
use Rattle.plain_search.proofs.TrialLemmas.{trials_are}
use Rattle.plain_search.proofs.trial_count.trials.Goals as goal

pub value_bits-requires : goal.value_bits-requires
value_bits-requires c =
    let k = IsSoundGoal_at c.args.spec.now c.args.goal _ c.goal-definition.ensures.1 in
    subst (λ (args : List (Kind × Sort)). length args ≤ 4) (sym c.as_slice.ensures) k.few

pub overflow_cast-sources : goal.overflow_cast-sources
overflow_cast-sources c =
    let few = (IsSoundGoal_at c.args.spec.now c.args.goal _ c.goal-definition.ensures.1).few in
    let size = c.len.ensures in
    omega (arith, few, size)

pub overflow_add-sources : goal.overflow_add-sources
overflow_add-sources c =
    let few = (IsSoundGoal_at c.args.spec.now c.args.goal _ c.goal-definition.ensures.1).few in
    let size = c.len.ensures in
    let small = c.result_count.ensures.small in
    omega (arith, few, size, small)

pub overflow_cast-places : goal.overflow_cast-places
overflow_cast-places c =
    let few = (IsSoundGoal_at c.args.spec.now c.args.goal _ c.goal-definition.ensures.1).most in
    let size = c.len-2.ensures in
    omega (arith, few, size)

pub overflow_add-places : goal.overflow_add-places
overflow_add-places c =
    let few = (IsSoundGoal_at c.args.spec.now c.args.goal _ c.goal-definition.ensures.1).most in
    let size = c.len-2.ensures in
    let small = c.argument_count.ensures.small in
    omega (arith, few, size, small)

pub returns : goal.returns
returns c = λ g there.
    let f = file c.args.spec.now in
    let numbers = c.ops-ops.ensures.numbers in
    let bits =
    c.value_bits.ensures.value
    ∙ ap (λ (args : List (Kind × Sort)). sum_by width_of (sorts_in args)) c.as_slice.ensures in
    let attributes = c.attribute_bits.ensures.value ∙ ap (attribute_bits f) numbers in
    let results = c.result_count.ensures.value ∙ ap (sum_by (results_of f)) numbers in
    let arguments = c.argument_count.ensures.value ∙ ap (sum_by (arguments_of f)) numbers in
    c.product_of.ensures
    ∙ ap in_64_bits (trials_are c.args.spec.now c.args.goal _ _ g c.args.multi.now _ _ _ _ c.goal-definition.ensures.1
    there (c.requires.no_memory g there) (ap length numbers) (λ i. bits i + attributes i)
    (λ i. c.len.ensures i + results i) (λ i. arguments i + c.len-2.ensures i))
