use Rattle.std.proofs.Common.{◌≡◌, ℕ, Bool, slice_get, Some, sym, ap, ◌∙◌}
use Rattle.isel_spec.specs.File.{sorts_in}
use Rattle.pattern_core.specs.declared.pattern.Src.TheVariants.{Input}
use Rattle.plain_search.specs.Patterns.{is_sort}
use Rattle.plain_search.proofs.RangeLemmas.{kept-yes, kept-no}
use Rattle.plain_search.proofs.SourceLemmas.{input_sorted}
use Rattle.plain_search.proofs.sources.add_inputs.Goals as goal
use Rattle.plain_search.proofs.sources.add_inputs.Goals.{then-is_same+in_ok-push, else-is_same}

pub loop-place-preserved : goal.loop-place-preserved
loop-place-preserved c =
    let test : ℕ → Bool = λ k. is_sort (Some c.args.wanted) (slice_get (sorts_in c.args.args.now) k) in
    let answer : test c.loop-place.place ≡ c.is_same.result =
    input_sorted c.args.wanted c.args.args.now c.loop-place.place _ c.loop-place-test.true ∙ sym c.is_same.ensures in
    elim c.if-is_same.branch [
      | then-is_same+in_ok-push w ↦
          ap (λ v. v.items) w.found-is ∙ w.in_ok-push.ensures.items
          ∙ kept-yes (λ k. Input k) test c.loop-place.place c.args.found.now.items c.loop-place.found.items
          (answer ∙ w.if-is_same.true) c.loop-place.invariant
      | else-is_same w ↦
          ap (λ v. v.items) w.found-is
          ∙ kept-no (λ k. Input k) test c.loop-place.place c.args.found.now.items c.loop-place.found.items
          (answer ∙ w.if-is_same.false) c.loop-place.invariant
    ]
