use Rattle.std.proofs.Common.{List, ◌<◌, ◌≤◌, ◌*◌, ◌↔◌, length, sum_by, ap, sym, subst, ◌∙◌}
use Rattle.std.specs.Prelude.{IsTrue, nat_le}
use Rattle.bv_terms.specs.declared.value.Sort.{Sort}
use Rattle.bv_terms.specs.Sorts.{width_of}
use Rattle.isel_spec.specs.declared.definitions.Kind.{Kind}
use Rattle.isel_spec.specs.Spec.{file}
use Rattle.isel_spec.proofs.SpecLemmas.{IsSoundGoal_at}
use Rattle.plain_search.specs.Extent.{CanSearch}
use Rattle.plain_search.proofs.ExtentLemmas.{args_are, refused, no_search-memory, no_search-bits, search_decided}
use Rattle.plain_search.proofs.extent.can_search.Goals as goal

pub returns-then-not-has_no_memory : goal.returns-then-not-has_no_memory
returns-then-not-has_no_memory c = λ g there.
    refused (no_search-memory (file c.args.spec.now) g c.args.bound c.has_no_memory.result
    c.if-not-has_no_memory.true (c.has_no_memory.ensures g there))

pub value_bits-requires : goal.value_bits-requires
value_bits-requires c =
    let k = IsSoundGoal_at c.args.spec.now c.args.goal _ c.goal.ensures.1 in
    subst (λ (args : List (Kind × Sort)). length args ≤ 4) (sym c.as_slice-args.ensures) k.few

pub returns-then-value_bits-gt-MOST_BITS : goal.returns-then-value_bits-gt-MOST_BITS
returns-then-value_bits-gt-MOST_BITS c = λ g there.
    let args = args_are c.args.spec.now c.args.goal _ _ _ g c.goal.ensures.1 c.as_slice-args.ensures there in
    refused (no_search-bits (file c.args.spec.now) g c.args.bound
    (subst (λ n. 12 < n) (c.value_bits.ensures.value ∙ ap (sum_by width_of) args) c.if-value_bits-gt-MOST_BITS.true))

pub returns : goal.returns
returns c = λ g there.
    let args = args_are c.args.spec.now c.args.goal _ _ _ g c.goal.ensures.1 c.as_slice-args.ensures there in
    let decided =
    search_decided (file c.args.spec.now) g c.args.bound c.most_attribute_bits.result
    ((c.has_no_memory.ensures g there).0 c.if-not-has_no_memory.false)
    (subst (λ n. n ≤ 12) (c.value_bits.ensures.value ∙ ap (sum_by width_of) args) c.if-value_bits-gt-MOST_BITS.false)
    (record { above = c.most_attribute_bits.ensures.above; reached = c.most_attribute_bits.ensures.reached }) in
    subst (λ n. IsTrue (nat_le (n * c.most_attribute_bits.result) 12) ↔ CanSearch (file c.args.spec.now) g c.args.bound)
    (sym c.from.ensures) decided
