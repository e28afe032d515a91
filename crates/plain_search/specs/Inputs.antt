-- All inputs of some sorts, by numbers.
use Rattle.std.specs.Prelude.{ℕ, ◌/◌, ◌%◌, ◌^◌, List, [], ◌∷◌, false, ◌==◌}
use Rattle.bv_terms.specs.declared.value.Sort.{Sort}
use Rattle.bv_terms.specs.declared.value.Sort.TheVariants as sort
use Rattle.bv_terms.specs.declared.value.Value.{Value}
use Rattle.bv_terms.specs.declared.value.Value.TheVariants as val
use Rattle.bv_terms.specs.Sorts.{width_of}

-- the value of a sort that a number stands for
abbrev pub value_numbered : Sort → ℕ → Value
value_numbered sort.Bool n = val.Bool (n == 1)
value_numbered (sort.Bits w) n = val.Bits w n
value_numbered sort.Mem n = val.Bool false

-- the inputs of these sorts under a number, whose lowest bits are the first input's
abbrev pub inputs_numbered : List Sort → ℕ → List Value
inputs_numbered [] n = []
inputs_numbered (s ∷ ss) n = value_numbered s (n % 2 ^ width_of s) ∷ inputs_numbered ss (n / 2 ^ width_of s)
