-- What may stand at the lines of a claim, and what may be named there.
-- Components and locations: Gulwani, Jha, Tiwari, Venkatesan, PLDI 2011.
use Rattle.std.specs.Prelude.{ℕ, zero, suc, ◌+◌, ◌*◌, List, [], ◌∷◌, length, map, filter, Option, Some}
use Rattle.std.specs.Prelude.{None, slice_get, unwrap_or, Bool, true, false, ◌&&◌, ◌||◌, nat_lt, nat_eq}
use Rattle.std.specs.Prelude.{option_and_then, if◌then◌else◌}
use Rattle.std.specs.List.{list_any, range_with_len}
use Rattle.bv_terms.specs.declared.value.Sort.{Sort}
use Rattle.bv_terms.specs.Sorts.{same_sort}
use Rattle.bv_terms.specs.WellSorted.{sort_of}
use Rattle.isel_spec.specs.File.{Operation}
use Rattle.isel_spec.specs.Spec.{file}
use Rattle.isel_spec.specs.declared.spec.Spec.{Spec}
use Rattle.pattern_core.specs.Claim.{Claim}
use Rattle.pattern_core.specs.declared.pattern.Src.{Src}
use Rattle.pattern_core.specs.declared.pattern.Src.TheVariants.{Input, Out}
use Rattle.pattern_core.specs.Pattern.{operation_sort}
use Rattle.loc_encode.specs.declared.slots.Slot.{Slot}
use Rattle.loc_encode.specs.declared.slots.Slot.TheVariants as slot
use Rattle.loc_encode.specs.Numbers.{source_at}

-- each of these once; of equal ones the last one stays
abbrev pub different : List ℕ → List ℕ
different [] = []
different (x ∷ xs) = if list_any (nat_eq x) xs then different xs else x ∷ different xs

-- the operations of the claim, each once
abbrev pub kinds : Claim → List ℕ
kinds c = different c.ops

-- the claim of a goal of the file with these operations; where there is no such goal, one without arguments and results
unfoldable pub claim_of : Spec → ℕ → List ℕ → Claim
claim_of s goal ops = record {
  file = file s;
  goal = unwrap_or (slice_get (file s).goals goal)
      (record { name = []; kinds = []; args = []; cost = 0; results = [] });
  ops = ops;
}

-- how many lines there are
abbrev pub size : Claim → ℕ
size c = length c.ops

-- the sorts of an operation's arguments and results, and of the goal's results, and the widths of attributes
abbrev pub arg_sort : Claim → ℕ → ℕ → Option Sort
arg_sort c op place = option_and_then (λ (o : Operation). slice_get o.args place) (slice_get c.file.ops op)

abbrev pub attr_width : Claim → ℕ → ℕ → Option ℕ
attr_width c op place = option_and_then (λ (o : Operation). slice_get o.attrs place) (slice_get c.file.ops op)

abbrev pub out_sort : Claim → ℕ → ℕ → Option Sort
out_sort c op result = operation_sort c.file (slice_get c.file.ops op) result

abbrev pub wanted_sort : Claim → ℕ → Option Sort
wanted_sort c place = option_and_then (sort_of c.file.pointer) (slice_get c.goal.results place)

abbrev pub is_sort : Option Sort → Sort → Bool
is_sort None s = false
is_sort (Some t) s = same_sort t s

-- there is an operation whose result has the sort
abbrev pub is_result_sort : Claim → ℕ → Sort → Bool
is_result_sort c result s = list_any (λ op. is_sort (out_sort c op result) s) (kinds c)

-- a source that stands before a line may have the sort
abbrev pub may_have : Claim → ℕ → Src → Sort → Bool
may_have c line (Input k) s = is_sort (slice_get c.goal.args k) s
may_have c line (Out node result) s = nat_lt node line && is_result_sort c result s

abbrev pub may_have_wanted : Claim → ℕ → Src → Option Sort → Bool
may_have_wanted c line s None = false
may_have_wanted c line s (Some t) = may_have c line s t

-- a row of sources is the arguments at a line, or after all lines the results; the source in a place of it may be this
abbrev pub may_name : Claim → ℕ → ℕ → Src → Bool
may_name c row place s =
    if nat_lt row (size c)
    then list_any (λ op. may_have_wanted c row s (arg_sort c op place)) (kinds c)
    else may_have_wanted c row s (wanted_sort c place)

abbrev pub slot_at : Claim → ℕ → ℕ → Src → Slot
slot_at c row place s = if nat_lt row (size c) then slot.Arg row place s else slot.Result place s

-- what the source in a place of a row may be, and the slots that say so
abbrev pub choices : Claim → ℕ → ℕ → List Src
choices c row place = filter (may_name c row place) (map source_at (range_with_len 0 (4 + 3 * row)))

abbrev pub row_slots : Claim → ℕ → ℕ → List Slot
row_slots c row place = map (slot_at c row place) (choices c row place)

-- ---- tests of choices

abbrev pub all_below : (ℕ → Bool) → ℕ → Bool
all_below p zero = true
all_below p (suc n) = all_below p n && p n

abbrev pub any_below : (ℕ → Bool) → ℕ → Bool
any_below p zero = false
any_below p (suc n) = any_below p n || p n
