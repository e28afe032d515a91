-- The values of inputs whose bits an assignment gives. A bit-vector's number is the sum of 2^k over its bits k that are
-- 1, as in SMT-LIB 2.6, theory FixedSizeBitVectors.
use Rattle.std.specs.Prelude.{ℕ, ◌+◌, ◌^◌, List, [], ◌∷◌, Bool, true, false, if◌then◌else◌, max, bit_or}
use Rattle.std.specs.Prelude.{slice_get, slice_set, unwrap_or, replicate}
use Rattle.bv_terms.specs.declared.value.Sort.{Sort}
use Rattle.bv_terms.specs.declared.value.Sort.TheVariants as sort
use Rattle.bv_terms.specs.declared.value.Value.{Value}
use Rattle.bv_terms.specs.declared.value.Value.TheVariants as val
use Rattle.cnf_core.specs.Clause.{assigned}

-- the value of a sort whose bits are all 0; a memory has none
abbrev pub zero_of : Sort → Value
zero_of sort.Bool = val.Bool false
zero_of (sort.Bits w) = val.Bits w 0
zero_of sort.Mem = val.Bool false

-- one more than the greatest number of an input, or 0 where there is none
abbrev pub room_for : List (ℕ × Sort) → ℕ
room_for [] = 0
room_for (i ∷ is) = max (i.0 + 1) (room_for is)

-- the values, with 0 in the place of each input
abbrev pub with_zeros : List Value → List (ℕ × Sort) → List Value
with_zeros vs [] = vs
with_zeros vs (i ∷ is) = with_zeros (slice_set vs i.0 (zero_of i.1)) is

-- 0 for each input, and false in the places between
abbrev pub zeros : List (ℕ × Sort) → List Value
zeros inputs = with_zeros (replicate (room_for inputs) (val.Bool false)) inputs

-- the value with that bit 1
abbrev pub with_bit : Value → ℕ → Value
with_bit (val.Bool b) k = val.Bool true
with_bit (val.Bits w n) k = val.Bits w (bit_or n (2 ^ k))

-- the value in a place, and false past the end
abbrev pub value_at : List Value → ℕ → Value
value_at vs number = unwrap_or (slice_get vs number) (val.Bool false)

-- the values with a bit 1 that is listed by the number of an input, the bit, and its variable
abbrev pub with_listed : List Value → ℕ × ℕ × ℕ → List Value
with_listed vs b = slice_set vs b.0 (with_bit (value_at vs b.0) b.1)

-- the values with those listed bits 1 whose variables are true
abbrev pub with_bits : (ℕ → Bool) → List Value → List (ℕ × ℕ × ℕ) → List Value
with_bits v vs [] = vs
with_bits v vs (b ∷ bs) = with_bits v (if v b.2 then with_listed vs b else vs) bs

-- the values of inputs whose bits are listed, where the variables have these values
abbrev pub values_of : List (ℕ × Sort) → List (ℕ × ℕ × ℕ) → List Bool → List Value
values_of inputs bits model = with_bits (assigned model) (zeros inputs) bits
