-- The value under a name in a list of pairs of a name's bytes and a value.
use Rattle.std.specs.Prelude.{ℕ, List, Option}
use Rattle.std.specs.Map.{lookup}
use Rattle.std.specs.Str.{bytes_eq}

-- the value under a name, the first that is there
abbrev pub named : {A : Type 0} → List (List ℕ × A) → List ℕ → Option A
named entries name = lookup (bytes_eq name) entries
