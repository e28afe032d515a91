-- When counts and sorts alone tell that a goal has no pattern with some operations. The conditions are this project's
-- own.
use Rattle.std.specs.Prelude.{ℕ, ◌+◌, List, [], length, sum_by, slice_get, Bool, false, not, ◌&&◌, ◌||◌}
use Rattle.std.specs.Prelude.{nat_lt, IsTrue}
use Rattle.std.specs.List.{list_any}
use Rattle.std.specs.Option.{option_map_or}
use Rattle.bv_terms.specs.declared.value.Sort.{Sort}
use Rattle.bv_terms.specs.declared.value.Sort.TheVariants as sort
use Rattle.bv_terms.specs.Term.{Term}
use Rattle.bv_terms.specs.Sorts.{same_sort}
use Rattle.bv_terms.specs.WellSorted.{sort_of}
use Rattle.isel_spec.specs.File.{File, Operation, Goal}

-- the sorts of the arguments of the operation with that number, and the terms of its results; none, where it is no
-- operation's
abbrev pub args_at : File → ℕ → List Sort
args_at f k = option_map_or (λ (o : Operation). o.args) (slice_get f.ops k) []

abbrev pub results_at : File → ℕ → List Term
results_at f k = option_map_or (λ (o : Operation). o.results) (slice_get f.ops k) []

abbrev pub is_among : List Sort → Sort → Bool
is_among sorts s = list_any (λ t. same_sort t s) sorts

-- a term of the sort
abbrev pub has_sort : File → Sort → Term → Bool
has_sort f s t = option_map_or (λ r. same_sort r s) (sort_of f.pointer t) false

-- an input or a result of one of the operations is of the sort, where the inputs are of these sorts
abbrev pub has_source : File → List Sort → List ℕ → Sort → Bool
has_source f inputs ops s = is_among inputs s || list_any (λ k. list_any (has_sort f s) (results_at f k)) ops

-- no source is of the term's sort
abbrev pub lacks_result : File → List Sort → List ℕ → Term → Bool
lacks_result f inputs ops t = not (option_map_or (has_source f inputs ops) (sort_of f.pointer t) false)

-- an argument of one of the operations, or a result of the goal, is of a sort of which there is no source
abbrev pub lacks_source : File → Goal → List ℕ → Bool
lacks_source f g ops =
    list_any (λ k. list_any (λ s. not (has_source f g.args ops s)) (args_at f k)) ops
    || list_any (lacks_result f g.args ops) g.results

-- one of the operations takes a memory, and the goal takes none
abbrev pub adds_memory : File → Goal → List ℕ → Bool
adds_memory f g ops = not (is_among g.args sort.Mem) && list_any (λ k. is_among (args_at f k) sort.Mem) ops

-- there are fewer places that name a result, the operations' arguments and the goal's results, than operations
abbrev pub has_spare_nodes : File → Goal → List ℕ → Bool
has_spare_nodes f g ops = nat_lt (sum_by (λ k. length (args_at f k)) ops + length g.results) (length ops)

abbrev pub is_hopeless : File → Goal → List ℕ → Bool
is_hopeless f g ops = lacks_source f g ops || adds_memory f g ops || has_spare_nodes f g ops

abbrev pub IsHopeless : File → Goal → List ℕ → Type 0
IsHopeless f g ops = IsTrue (is_hopeless f g ops)
