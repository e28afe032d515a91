-- Results of operations that are kept by the numbers of their inputs.
use Rattle.std.specs.Prelude.{◌≡◌, ℕ, ◌+◌, ◌*◌, ◌^◌, ◌<◌, List, [], ◌∷◌, map, Option, Some, slice_get}
use Rattle.std.specs.Prelude.{if◌then◌else◌}
use Rattle.bv_terms.specs.declared.op.TermId.{TermId}
use Rattle.bv_terms.specs.declared.value.Value.{Value}
use Rattle.bv_terms.specs.declared.value.Value.TheVariants as val
use Rattle.bv_terms.specs.Term.{value}
use Rattle.bv_terms.specs.Table.{Table, term_at}
use Rattle.bv_terms.specs.Sorts.{HaveSorts}
use Rattle.isel_spec.specs.declared.definitions.OpDef.{OpDef}
use Rattle.isel_spec.specs.declared.spec.Spec.{Spec}
use Rattle.isel_spec.specs.File.{scope}
use Rattle.pattern_core.specs.declared.known.TheConstants.{MOST_NUMBERS}

abbrev pub width_of_value : Value → ℕ
width_of_value (val.Bool b) = 1
width_of_value (val.Bits w n) = w

abbrev pub number_of_value : Value → ℕ
number_of_value (val.Bool b) = if b then 1 else 0
number_of_value (val.Bits w n) = n

-- the number that values make together: the bits of the first are the lowest
abbrev pub number_of : List Value → ℕ
number_of [] = 0
number_of (v ∷ vs) = number_of vs * 2 ^ width_of_value v + number_of_value v

-- the place for the results of operation k at these values
abbrev pub IsPlaceOf : ℕ → List Value → ℕ → Type 0
IsPlaceOf k vs place = (place ≡ k * MOST_NUMBERS + number_of vs) × (number_of vs < MOST_NUMBERS)

-- the results of an operation at these values of its arguments and attributes
abbrev pub results_at : Table → OpDef → List Value → List Value
results_at table d vs = map (λ (at : TermId). value vs (term_at table at)) d.results

-- what is kept in an operation's places are its results
abbrev pub AreKnown : Spec → List (Option (List Value)) → Type 0
AreKnown s known =
    (k place : ℕ) (name : List ℕ) (d : OpDef) (vs results : List Value) → slice_get s.ops k ≡ Some (name, d)
    → HaveSorts (scope d) vs → IsPlaceOf k vs place → slice_get known place ≡ Some (Some results)
    → results ≡ results_at s.terms d vs
