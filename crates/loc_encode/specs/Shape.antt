-- The shape of a claim as a test of choices: the choices are those that some pattern of the claim makes.
use Rattle.std.specs.Prelude.{ℕ, ◌+◌, ◌-◌, List, map, Option, Some, None, slice_get, Bool, not, ◌&&◌, ◌||◌}
use Rattle.std.specs.Prelude.{nat_eq, nat_lt, count_by, if◌then◌else◌}
use Rattle.std.specs.List.{list_any, list_all, range_with_len}
use Rattle.bv_terms.specs.declared.value.Sort.{Sort}
use Rattle.pattern_core.specs.Claim.{Claim}
use Rattle.pattern_core.specs.declared.pattern.Src.{Src}
use Rattle.pattern_core.specs.declared.pattern.Src.TheVariants.{Input, Out}
use Rattle.loc_encode.specs.declared.slots.Slot.{Slot}
use Rattle.loc_encode.specs.declared.slots.Slot.TheVariants as slot
use Rattle.loc_encode.specs.Layout.{kinds, size, arg_sort, out_sort, wanted_sort, is_sort, may_name, slot_at, choices}
use Rattle.loc_encode.specs.Layout.{row_slots, all_below, any_below}

-- so many of the slots are chosen
abbrev pub are_chosen : (Slot → Bool) → List Slot → ℕ → Bool
are_chosen g xs n = nat_eq (count_by g xs) n

-- ---- kinds

-- each line has one kind
abbrev pub have_kinds : Claim → (Slot → Bool) → Bool
have_kinds c g = all_below (λ line. are_chosen g (map (slot.Kind line) (kinds c)) 1) (size c)

-- each operation stands at as many lines as it stands in the multiset
abbrev pub kind_slots : Claim → ℕ → List Slot
kind_slots c op = map (λ line. slot.Kind line op) (range_with_len 0 (size c))

abbrev pub are_used_up : Claim → (Slot → Bool) → Bool
are_used_up c g = list_all (λ op. are_chosen g (kind_slots c op) (count_by (nat_eq op) c.ops)) (kinds c)

-- ---- sources

-- the source has the sort
abbrev pub has_sort : Claim → (Slot → Bool) → Sort → Src → Bool
has_sort c g t (Input k) = is_sort (slice_get c.goal.args k) t
has_sort c g t (Out node result) =
    list_any (λ op. is_sort (out_sort c op result) t && g (slot.Kind node op)) (kinds c)

-- each source that is chosen has the sort
abbrev pub have_sort : Claim → (Slot → Bool) → ℕ → ℕ → Sort → Bool
have_sort c g row place t =
    list_all (λ s. not (g (slot_at c row place s)) || has_sort c g t s) (choices c row place)

-- there is one source of the sort in the place of the row, or where no sort is wanted none
abbrev pub has_source : Claim → (Slot → Bool) → ℕ → ℕ → Option Sort → Bool
has_source c g row place None = are_chosen g (row_slots c row place) 0
has_source c g row place (Some t) = are_chosen g (row_slots c row place) 1 && have_sort c g row place t

-- the place of the row is filled as its operation, or the goal, wants it
abbrev pub has_argument : Claim → (Slot → Bool) → ℕ → ℕ → Bool
has_argument c g line place =
    list_all (λ op. not (g (slot.Kind line op)) || has_source c g line place (arg_sort c op place)) (kinds c)

abbrev pub is_filled : Claim → (Slot → Bool) → ℕ → ℕ → Bool
is_filled c g row place =
    if nat_lt row (size c) then has_argument c g row place else has_source c g row place (wanted_sort c place)

abbrev pub is_row_filled : Claim → (Slot → Bool) → ℕ → Bool
is_row_filled c g row = all_below (is_filled c g row) 4

abbrev pub are_filled : Claim → (Slot → Bool) → Bool
are_filled c g = all_below (is_row_filled c g) (size c + 1)

-- ---- uses

-- the source in the place of the row is this
abbrev pub names_source : Claim → (Slot → Bool) → ℕ → ℕ → Src → Bool
names_source c g row place s = may_name c row place s && g (slot_at c row place s)

-- it is a result of the node
abbrev pub names_node : Claim → (Slot → Bool) → ℕ → ℕ → ℕ → Bool
names_node c g node row place = any_below (λ r. names_source c g row place (Out node r)) 3

abbrev pub row_names : Claim → (Slot → Bool) → ℕ → ℕ → Bool
row_names c g node row = any_below (names_node c g node row) 4

-- a later row names the node
abbrev pub is_used : Claim → (Slot → Bool) → ℕ → Bool
is_used c g node = any_below (λ k. row_names c g node (node + 1 + k)) (size c - node)

abbrev pub are_used : Claim → (Slot → Bool) → Bool
are_used c g = all_below (is_used c g) (size c)

-- ---- order: of the order of a walk only that each node but the last is followed at once by a node over it, or by one
-- that a row names after it

-- the source in the place of the row is a result of a node from this one on
abbrev pub names_from : Claim → (Slot → Bool) → ℕ → ℕ → ℕ → Bool
names_from c g from row place = any_below (λ k. names_node c g (from + k) row place) (row - from)

-- the row names the node, and after it one that stands later
abbrev pub goes_on : Claim → (Slot → Bool) → ℕ → ℕ → Bool
goes_on c g node row =
    any_below (λ place. any_below (names_node c g node row) place && names_from c g (node + 1) row place) 4

abbrev pub some_goes_on : Claim → (Slot → Bool) → ℕ → Bool
some_goes_on c g node = any_below (λ k. goes_on c g node (node + 2 + k)) (size c - (node + 1))

abbrev pub is_followed : Claim → (Slot → Bool) → ℕ → Bool
is_followed c g node = row_names c g node (node + 1) || some_goes_on c g node

abbrev pub are_followed : Claim → (Slot → Bool) → Bool
are_followed c g = all_below (is_followed c g) (size c - 1)

-- ---- all

-- each line has one kind, and each operation stands as often as in the multiset
abbrev pub has_kinds : Claim → (Slot → Bool) → Bool
has_kinds c g = have_kinds c g && are_used_up c g

-- and each place of each row is filled
abbrev pub has_nodes : Claim → (Slot → Bool) → Bool
has_nodes c g = has_kinds c g && are_filled c g

-- and each node is named
abbrev pub has_uses : Claim → (Slot → Bool) → Bool
has_uses c g = has_nodes c g && are_used c g

abbrev pub has_shape : Claim → (Slot → Bool) → Bool
has_shape c g = has_uses c g && are_followed c g
