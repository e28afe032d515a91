-- Sorts, their widths, and which values are of a sort. Source: SMT-LIB 2.6, theories Core and FixedSizeBitVectors.
use Rattle.std.specs.Prelude.{◌≡◌, ℕ, ◌^◌, ◌<◌, ◌≤◌, List, [], ◌∷◌, Bool, true, false, ◌&&◌, ◌==◌, nat_le}
use Rattle.bv_terms.specs.declared.value.Sort.{Sort}
use Rattle.bv_terms.specs.declared.value.Sort.TheVariants as sort
use Rattle.bv_terms.specs.declared.value.Value.{Value}
use Rattle.bv_terms.specs.declared.value.Value.TheVariants as val

abbrev pub is_bits : Sort → Bool
is_bits sort.Bool = false
is_bits (sort.Bits w) = true
is_bits sort.Mem = false

abbrev pub same_sort : Sort → Sort → Bool
same_sort sort.Bool sort.Bool = true
same_sort (sort.Bits v) (sort.Bits w) = v == w
same_sort sort.Mem sort.Mem = true
same_sort _ _ = false

-- how many bits a value of the sort has; a memory is no number of bits
abbrev pub width_of : Sort → ℕ
width_of sort.Bool = 1
width_of (sort.Bits w) = w
width_of sort.Mem = 0

abbrev pub is_width : ℕ → Bool
is_width w = nat_le 1 w && nat_le w 64

-- a width, where there is one, from 1 to 64
abbrev pub IsSized : Sort → Type 0
IsSized sort.Bool = Unit {0}
IsSized (sort.Bits w) = (1 ≤ w) × (w ≤ 64)
IsSized sort.Mem = Unit {0}

abbrev pub AreSized : List Sort → Type 0
AreSized [] = Unit {0}
AreSized (s ∷ ss) = IsSized s × AreSized ss

-- a value of a sort
abbrev pub HasSort : Sort → Value → Type 0
HasSort sort.Bool (val.Bool b) = Unit {0}
HasSort sort.Bool (val.Bits w n) = ⊥
HasSort (sort.Bits w) (val.Bits v n) = (v ≡ w) × (n < 2 ^ w)
HasSort (sort.Bits w) (val.Bool b) = ⊥
HasSort sort.Mem v = ⊥

-- a value for each sort, in order
abbrev pub HaveSorts : List Sort → List Value → Type 0
HaveSorts [] [] = Unit {0}
HaveSorts (s ∷ ss) (v ∷ vs) = HasSort s v × HaveSorts ss vs
HaveSorts [] (v ∷ vs) = ⊥
HaveSorts (s ∷ ss) [] = ⊥
