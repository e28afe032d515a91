-- How many trials settle a multiset of operations for a goal, by trying patterns and inputs one by one.
use Rattle.std.specs.Prelude.{ℕ, zero, suc, ◌+◌, ◌*◌, ◌^◌, List, length, sum_by, slice_get, Option, Some, None, nat_lt}
use Rattle.std.specs.Prelude.{if◌then◌else◌}
use Rattle.std.specs.Option.{option_map_or}
use Rattle.bv_terms.specs.Sorts.{width_of}
use Rattle.isel_spec.specs.File.{File, Operation, Goal}
use Rattle.isel_spec.specs.Memory.{accessed_bytes}
use Rattle.plain_search.specs.Extent.{attribute_bits}

-- in how many orders that many operations stand
unfoldable pub factorial : ℕ → ℕ
factorial zero = 1
factorial (suc n) = suc n * factorial n

-- the bits of a goal's inputs: of its values, and of the bytes of memory that it accesses
abbrev pub input_bits : Goal → ℕ
input_bits g = sum_by width_of g.args + 8 * accessed_bytes g.results

-- how many results the operation with that number has
abbrev pub results_of : File → ℕ → ℕ
results_of f op = option_map_or (λ (o : Operation). length o.results) (slice_get f.ops op) 0

-- how many arguments the operation with that number has
abbrev pub arguments_of : File → ℕ → ℕ
arguments_of f op = option_map_or (λ (o : Operation). length o.args) (slice_get f.ops op) 0

-- how many sources there are: the goal's inputs, and the results of the operations
abbrev pub source_count : File → Goal → List ℕ → ℕ
source_count f g ops = length g.args + sum_by (results_of f) ops

-- how many places take a source: the arguments of the operations, and the goal's results
abbrev pub place_count : File → Goal → List ℕ → ℕ
place_count f g ops = sum_by (arguments_of f) ops + length g.results

-- each order of the operations, with each choice of inputs and attributes and each choice of a source for each place
abbrev pub trials_of : File → Goal → List ℕ → ℕ
trials_of f g ops =
    factorial (length ops) * 2 ^ (input_bits g + attribute_bits f ops) * source_count f g ops ^ place_count f g ops

-- the number, where it is below 2^64
abbrev pub in_64_bits : ℕ → Option ℕ
in_64_bits n = if nat_lt n (2 ^ 64) then Some n else None
