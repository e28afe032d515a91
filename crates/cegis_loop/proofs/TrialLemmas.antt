-- Cases one by one.
use Rattle.std.proofs.Common.{◌≡◌, ◌∙◌, ℕ, ◌+◌, ◌<◌, ◌≤◌, List, [], ◌∷◌, ◌++◌, length, map, take, get_or}
use Rattle.std.proofs.Common.{Some, slice_get, All}
use Rattle.std.proofs.Common.{sym, ap, subst, arith}
use Rattle.std.specs.Prelude.{IsTrue, ◌↔◌, Bool, false}
use Rattle.std.proofs.lemmas.List.{take_more, take_all, length-map}
use Rattle.std.proofs.lemmas.List.Elements.{All-more, All-map}
use Rattle.std.proofs.lemmas.Option.{slice_get-get_or, slice_get_within, get_or_from_slice_get}
use Rattle.bv_terms.specs.declared.value.Value.{Value}
use Rattle.bv_terms.specs.Sorts.{HaveSorts}
use Rattle.isel_spec.specs.File.{File, Goal}
use Rattle.list_lemmas.proofs.Bools.{not_by_test}
use Rattle.list_lemmas.proofs.Lists.{map-push}
use Rattle.list_lemmas.proofs.Lookups.{mapped_at}
use Rattle.pattern_core.specs.declared.pattern.Example.{Example}
use Rattle.pattern_core.specs.declared.pattern.Pattern.{Pattern}
use Rattle.pattern_core.specs.Claim.{Claim, Agrees}
use Rattle.pattern_core.specs.Rule.{goal_results, pattern_results}
use Rattle.claim_outcome.specs.Record.{AgreesAtAll}
use Rattle.cegis_loop.specs.declared.trial.TestCase.{TestCase}
use Rattle.cegis_loop.specs.Trial.{case_at, IsFirstDifference}

-- a case more
pub cases_more : (g : Goal) (xs : List Example) (i : ℕ) (d : Example) (old new : List TestCase) (made : TestCase)
    → old ≡ map (case_at g) (take i xs) → i < length xs → made.inputs ≡ (get_or xs i d).inputs
    → made.results ≡ goal_results g (get_or xs i d).inputs → new ≡ old ++ made ∷ []
    → new ≡ map (case_at g) (take (i + 1) xs)
cases_more g xs i d old new made h l inputs results e =
    let here : made ≡ case_at g (get_or xs i d) = λ j. record { inputs = inputs j; results = results j } in
    e ∙ (λ j. h j ++ here j ∷ []) ∙ sym (map-push (case_at g) (take i xs) (get_or xs i d))
    ∙ ap (map (case_at g)) (sym (take_more xs i d l))

-- the example of a case
pub record IsCaseAt (g : Goal) (xs : List Example) (i : ℕ) (t : TestCase) : Type 0 where
  pub example : Example
  pub stands : slice_get xs i ≡ Some example
  pub inputs : t.inputs ≡ example.inputs
  pub results : t.results ≡ goal_results g example.inputs

pub case_is : (g : Goal) (xs : List Example) (cases : List TestCase) (i : ℕ) (t : TestCase)
    → cases ≡ map (case_at g) xs → i < length cases → t ≡ get_or cases i t → IsCaseAt g xs i t
case_is g xs cases i t e l here =
    let found : slice_get (map (case_at g) xs) i ≡ Some t =
    ap (λ (ts : List TestCase). slice_get ts i) (sym e) ∙ slice_get-get_or cases i t l ∙ ap Some (sym here) in
    let at = mapped_at (case_at g) xs i t found in
    record {
      example = at.0;
      stands = at.1;
      inputs = ap (λ (t : TestCase). t.inputs) (sym at.2);
      results = ap (λ (t : TestCase). t.results) (sym at.2);
    }

-- what was compared at a case
pub record IsCompared (f : File) (p : Pattern) (t : TestCase) (b : Bool) : Type 0 where
  pub inputs : List Value
  pub wanted : List Value
  pub inputs_are : inputs ≡ t.inputs
  pub wanted_are : wanted ≡ t.results
  pub same : IsTrue b ↔ (pattern_results f p inputs ≡ wanted)

compared-agrees : (c : Claim) (p : Pattern) (xs : List Example) (i : ℕ) (t : TestCase) (b : Bool)
    → (at : IsCaseAt c.goal xs i t) → IsCompared c.file p t b → IsTrue b ↔ Agrees c p at.example.inputs
compared-agrees c p xs i t b at h =
    let inputs : h.inputs ≡ at.example.inputs = h.inputs_are ∙ at.inputs in
    let wanted : h.wanted ≡ goal_results c.goal at.example.inputs = h.wanted_are ∙ at.results in (
      λ yes. sym (ap (pattern_results c.file p) inputs) ∙ h.same.0 yes ∙ wanted,
      λ agrees. h.same.1 (ap (pattern_results c.file p) inputs ∙ agrees ∙ sym wanted),
    )

-- the pattern differs at a case, and agrees at all before it
pub first-differs : (c : Claim) (p : Pattern) (xs : List Example) (i : ℕ) (t : TestCase) (b : Bool)
    (copied : List Value) → IsCaseAt c.goal xs i t → IsCompared c.file p t b → b ≡ false → copied ≡ t.inputs
    → AgreesAtAll c (take i xs) p → IsFirstDifference c p xs (record { inputs = copied })
first-differs c p xs i t b copied at h is_false same before =
    let inputs : at.example.inputs ≡ copied = sym (same ∙ at.inputs) in
    record {
      place = i;
      stands = at.stands ∙ (λ j. Some (record { inputs = inputs j }));
      before = before;
      differs = λ agrees. not_by_test b is_false (compared-agrees c p xs i t b at h)
          (subst (λ (vs : List Value). Agrees c p vs) (sym inputs) agrees);
    }

-- it agrees at one more
pub agrees-more : (c : Claim) (p : Pattern) (xs : List Example) (i : ℕ) (t : TestCase) (b : Bool)
    → IsCaseAt c.goal xs i t → IsCompared c.file p t b → IsTrue b → AgreesAtAll c (take i xs) p
    → AgreesAtAll c (take (i + 1) xs) p
agrees-more c p xs i t b at h is_true before =
    let P : Example → Type 0 = λ x. Agrees c p x.inputs in
    let here : at.example ≡ get_or xs i at.example = sym (get_or_from_slice_get xs i at.example at.example at.stands) in
    All-more P xs i at.example (slice_get_within xs i at.example at.stands) before
    (subst P here ((compared-agrees c p xs i t b at h).0 is_true))

pub agrees-everywhere : (c : Claim) (p : Pattern) (xs : List Example) (cases : List TestCase) (i : ℕ)
    → cases ≡ map (case_at c.goal) xs → length cases ≤ i → AgreesAtAll c (take i xs) p → AgreesAtAll c xs p
agrees-everywhere c p xs cases i e l all =
    let long : length cases ≡ length xs = ap length e ∙ length-map xs (case_at c.goal) in
    subst (λ (ys : List Example). AgreesAtAll c ys p) (take_all i xs (omega (arith, long, l))) all

pub cases-sorted : (g : Goal) (xs : List Example) (cases : List TestCase) → cases ≡ map (case_at g) xs
    → All (λ (x : Example). HaveSorts g.args x.inputs) xs → All (λ (t : TestCase). HaveSorts g.args t.inputs) cases
cases-sorted g xs cases e all =
    subst (All (λ (t : TestCase). HaveSorts g.args t.inputs)) (sym e)
    (All-map (λ (t : TestCase). HaveSorts g.args t.inputs) (case_at g) xs all)
