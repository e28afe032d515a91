-- What the sources and sinks in memory are, and what one call makes of them.
use Rattle.std.specs.Prelude.{ℕ, ◌+◌, ◌-◌, ◌^◌, ◌==◌, ◌&&◌, List, ◌++◌, take, drop, min, Bool, not}
use Rattle.std.specs.Prelude.{Option, Some, None, Result, Ok, Err, option_map, is_some, find, nat_eq, nat_lt}
use Rattle.std.specs.Prelude.{if◌then◌else◌}
use Rattle.std.specs.List.{list_all, list_any}
use Rattle.std.specs.Cmp.Lexicographic.{pointwise}
use Rattle.isel_base.specs.declared.traits.Failed.{Failed}

-- files in memory, and how reads of them go
pub record MemoryFiles : Type 0 where
  -- names and bytes; of entries with one name the first counts
  pub files : List (List ℕ × List ℕ)
  -- the most bytes that one read gives
  pub step : ℕ
  -- the numbers of the reads that fail, counted from 0
  pub failing : List ℕ
  -- how many reads there were
  pub reads : ℕ
  -- how many reads of names that are there failed, and how many of other names
  pub faults : ℕ
  pub faults_elsewhere : ℕ

-- the bytes under a name
abbrev pub file_bytes : List (List ℕ × List ℕ) → List ℕ → Option (List ℕ)
file_bytes files name = option_map (λ e. e.1) (find (λ e. pointwise ◌==◌ e.0 name) files)

-- a counter of 64 bits that stays at its last value
abbrev pub next_count : ℕ → ℕ
next_count n = if nat_lt n (2 ^ 64 - 1) then n + 1 else n

abbrev pub counted : Bool → ℕ → ℕ
counted fails n = if fails then next_count n else n

-- how many reads of the name failed: one count for all names that are there, and one for all others
abbrev pub fault_count : MemoryFiles → List ℕ → ℕ
fault_count s name = if is_some (file_bytes s.files name) then s.faults else s.faults_elsewhere

-- whether the call of this number fails
abbrev pub is_failing : List ℕ → ℕ → Bool
is_failing failing number = list_any (nat_eq number) failing

-- what the next read gives, into that many bytes; none where it fails
abbrev pub read_gives : MemoryFiles → List ℕ → ℕ → ℕ → Option (List ℕ)
read_gives s name place size =
    if is_failing s.failing s.reads then None
    else option_map (λ all. take (min s.step size) (drop place all)) (file_bytes s.files name)

-- what the next read leaves
abbrev pub after_read : MemoryFiles → List ℕ → MemoryFiles
after_read s name = let here = is_some (file_bytes s.files name) in record {
  files = s.files;
  step = s.step;
  failing = s.failing;
  reads = next_count s.reads;
  faults = counted (here && is_failing s.failing s.reads) s.faults;
  faults_elsewhere = counted (not here) s.faults_elsewhere;
}

-- the name is there, and no read from now on has the number of one that fails
abbrev pub has_no_failing : MemoryFiles → List ℕ → Bool
has_no_failing s name = is_some (file_bytes s.files name) && list_all (λ n. nat_lt n s.reads) s.failing

-- a stream in memory, and how writes to it go
pub record MemoryStream : Type 0 where
  pub bytes : List ℕ
  -- the most bytes that one put takes
  pub step : ℕ
  -- the numbers of the puts that fail, counted from 0
  pub failing : List ℕ
  -- how many puts there were, and how many of them failed
  pub puts : ℕ
  pub faults : ℕ

-- what a put with this answer leaves
abbrev pub after_put : MemoryStream → List ℕ → Result ℕ Failed → MemoryStream
after_put s piece (Ok n) = record s { bytes = s.bytes ++ take n piece; puts = next_count s.puts }
after_put s piece (Err e) = record s { puts = next_count s.puts; faults = next_count s.faults }
