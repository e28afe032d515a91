-- What reads and writes do to the objects that are handed in, and the causes of their faults.
use Rattle.std.specs.Prelude.{◌≡◌, ℕ, zero, suc, ◌+◌, ◌-◌, ◌^◌, ◌<◌, ◌≤◌, ◌↔◌, min, List, ◌++◌, length}
use Rattle.std.specs.Prelude.{take, drop, Option, option_map, Result, Ok, Err, IfOk}
use Rattle.isel_base.specs.declared.traits.Failed.{Failed}

-- A count of faults rose. One that stands at the greatest number of 64 bits counts as risen.
abbrev pub Rose : ℕ → ℕ → Type 0
Rose before now = min (before + 1) (2 ^ 64 - 1) ≤ now

-- the n bytes at the front of a buffer are those of the file from a place on; none is read only at the end
pub record IsReadAt (all : List ℕ) (place : ℕ) (buffer : List ℕ) (n : ℕ) : Type 0 where
  pub bytes : take n buffer ≡ take n (drop place all)
  pub end : 0 < length buffer → (n ≡ 0) ↔ (length all ≤ place)

-- how many bytes a put appended
abbrev pub count_of : Result ℕ Failed → ℕ
count_of (Ok n) = n
count_of (Err e) = 0

-- what is told of a sink after a put: what was told before, and the first bytes of the piece
abbrev pub IsAppended : Option (List ℕ) → List ℕ → Result ℕ Failed → Option (List ℕ) → Type 0
IsAppended old piece result new = new ≡ option_map (λ w. w ++ take (count_of result) piece) old

-- of a piece that is not empty nothing is appended only where the count of faults rose
abbrev pub NothingOnlyWhereRose : List ℕ → Result ℕ Failed → ℕ → ℕ → Type 0
NothingOnlyWhereRose piece result before now = 0 < length piece → count_of result ≡ 0 → Rose before now

-- a part of the bytes, and not all of them, was appended to what is told of a sink
abbrev pub HasPrefix : Option (List ℕ) → List ℕ → Option (List ℕ) → Type 0
HasPrefix old bytes new = (n : ℕ) × (n < length bytes) × (new ≡ option_map (λ w. w ++ take n bytes) old)

-- the bytes are the file's first ones
abbrev pub IsFront : List ℕ → List ℕ → Type 0
IsFront all bytes = bytes ≡ take (length bytes) all

-- after one more read they are still, and where none came they are all
abbrev pub GotMore : {E : Type 0} → List ℕ → List ℕ → Result ℕ E → List ℕ → Type 0
GotMore all old result new = IsFront all old → IfOk result (λ n. IsFront all new × (n ≡ 0 → new ≡ all))

module _ {S : Type 0} where
  -- the new source is what this many reads of a name may leave of the old one
  abbrev pub IsLeftBy : (S → List ℕ → S → Type 0) → List ℕ → ℕ → S → S → Type 0
  IsLeftBy leaves name zero old new = new ≡ old
  IsLeftBy leaves name (suc n) old new = (mid : S) × IsLeftBy leaves name n old mid × leaves mid name new

  -- nothing but this name was read
  abbrev pub ReadsOnly : (S → List ℕ → S → Type 0) → List ℕ → S → S → Type 0
  ReadsOnly leaves name old new = (n : ℕ) × IsLeftBy leaves name n old new
