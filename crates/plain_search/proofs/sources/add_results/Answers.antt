use Rattle.std.proofs.Common.{◌≡◌, ℕ, Bool, map, slice_get, Some, sym, ap, ◌∙◌}
use Rattle.std.specs.Prelude.{option_and_then}
use Rattle.bv_terms.specs.WellSorted.{sort_of}
use Rattle.bv_terms.specs.Table.{term_at}
use Rattle.pattern_core.specs.declared.pattern.Src.TheVariants.{Out}
use Rattle.plain_search.specs.Patterns.{is_sort}
use Rattle.plain_search.proofs.RangeLemmas.{kept-yes, kept-no}
use Rattle.plain_search.proofs.SourceLemmas.{result_sorted}
use Rattle.plain_search.proofs.sources.add_results.Goals as goal
use Rattle.plain_search.proofs.sources.add_results.Goals.{then-is_same+in_ok-push, else-is_same}

pub loop-place-preserved : goal.loop-place-preserved
loop-place-preserved c =
    let terms = c.args.terms.now in
    let results = c.args.results.now in
    let test : ℕ → Bool =
    λ r. is_sort (Some c.args.wanted)
    (option_and_then (sort_of terms.pointer) (slice_get (map (term_at terms) results) r)) in
    let answer : test c.loop-place.place ≡ c.is_same.result =
    result_sorted terms c.args.wanted c.sort.result results c.loop-place.place _ c.loop-place-test.true c.sort.ensures
    ∙ sym c.is_same.ensures in
    elim c.if-is_same.branch [
      | then-is_same+in_ok-push w ↦
          ap (λ v. v.items) w.found-is ∙ w.in_ok-push.ensures.items
          ∙ kept-yes (λ r. Out c.args.node r) test c.loop-place.place c.args.found.now.items c.loop-place.found.items
          (answer ∙ w.if-is_same.true) c.loop-place.invariant
      | else-is_same w ↦
          ap (λ v. v.items) w.found-is
          ∙ kept-no (λ r. Out c.args.node r) test c.loop-place.place c.args.found.now.items c.loop-place.found.items
          (answer ∙ w.if-is_same.false) c.loop-place.invariant
    ]
