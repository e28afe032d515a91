-- The sorts of the goal's results.
use Rattle.std.proofs.Common.{◌≡◌, ℕ, ◌<◌, List, [], length, map, Some, slice_get, get_or, option_map, unwrap_or}
use Rattle.std.proofs.Common.{option_and_then, sym, ap, ◌∙◌}
use Rattle.std.proofs.lemmas.Option.{slice_get-map, slice_get-get_or}
use Rattle.bv_terms.specs.declared.op.TermId.{TermId}
use Rattle.bv_terms.specs.declared.value.Sort.{Sort}
use Rattle.bv_terms.specs.Term.{Term}
use Rattle.bv_terms.specs.WellSorted.{sort_of}
use Rattle.bv_terms.specs.Table.{term_in, terms_of, term_at}
use Rattle.isel_spec.specs.File.{Goal, goal}
use Rattle.isel_spec.specs.declared.definitions.GoalDef.{GoalDef}
use Rattle.isel_spec.specs.declared.spec.Spec.{Spec}
use Rattle.isel_spec.proofs.SpecLemmas.{goal_there, sort_in_file}
use Rattle.loc_encode.specs.Layout.{claim_of, wanted_sort}

pub wanted_sort-is : (s : Spec) (k : ℕ) (ops : List ℕ) (place j : ℕ) (name : List ℕ) (d : GoalDef)
    (results : List TermId) (r : TermId) (x : Sort) → j ≡ place → slice_get s.goals k ≡ Some (name, d)
    → results ≡ d.results → j < length results
    → sort_of s.terms.pointer (term_at s.terms (get_or results j r)) ≡ Some x
    → Some x ≡ wanted_sort (claim_of s k ops) place
unfolding claim_of
wanted_sort-is s k ops place j name d results r x q e as' l sorted =
    let term : TermId → Term = λ at. term_in (terms_of s.terms) at.0 in
    let there : slice_get d.results place ≡ Some (get_or results j r) =
    (λ i. slice_get (sym as' i) (sym q i)) ∙ slice_get-get_or results j r l in
    let found : slice_get (map term d.results) place ≡ Some (term_at s.terms (get_or results j r)) =
    slice_get-map term d.results place ∙ ap (option_map term) there in
    let here : (claim_of s k ops).goal ≡ goal s.terms (name, d) =
    ap (λ o. unwrap_or o (record { name = []; kinds = []; args = []; cost = 0; results = [] }))
    (goal_there s k name d e) in
    sym (ap (λ (g : Goal). option_and_then (sort_of s.pointer) (slice_get g.results place)) here
    ∙ ap (option_and_then (sort_of s.pointer)) found ∙ sort_in_file s (term_at s.terms (get_or results j r)) ∙ sorted)
