-- What the plain search takes: no memory, and few bits of inputs and of attributes.
use Rattle.std.specs.Prelude.{◌≡◌, ℕ, ◌≤◌, List, length, sum, sum_by, slice_get, Bool, not}
use Rattle.std.specs.Option.{option_map_or}
use Rattle.std.specs.List.{list_all}
use Rattle.bv_terms.specs.declared.value.Sort.{Sort}
use Rattle.bv_terms.specs.declared.value.Sort.TheVariants as sort
use Rattle.bv_terms.specs.Sorts.{width_of, same_sort}
use Rattle.isel_spec.specs.File.{File, Operation, Goal}
use Rattle.pattern_core.specs.Rule.{HasNoMemory}

-- the sort is no memory
abbrev pub is_value : Sort → Bool
is_value s = not (same_sort s sort.Mem)

-- no argument of the operation is a memory
abbrev pub takes_values : Operation → Bool
takes_values o = list_all is_value o.args

-- the bits of the attributes of the operation with that number; none, where it is no operation's
abbrev pub attribute_bits_of : File → ℕ → ℕ
attribute_bits_of f op = option_map_or (λ (o : Operation). sum o.attrs) (slice_get f.ops op) 0

-- the bits of the attributes of the operations with these numbers, with repeats
abbrev pub attribute_bits : File → List ℕ → ℕ
attribute_bits f ops = sum_by (attribute_bits_of f) ops

-- a goal that is tried for patterns of so many operations
pub record CanSearch (f : File) (g : Goal) (bound : ℕ) : Type 0 where
  pub no_memory : HasNoMemory f g
  pub inputs : sum_by width_of g.args ≤ 12
  pub attributes : (ops : List ℕ) → length ops ≡ bound → attribute_bits f ops ≤ 12
