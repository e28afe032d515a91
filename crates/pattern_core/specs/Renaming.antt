-- Renamings of a pattern: its nodes under other numbers, in the order of these, with the sources that name them
-- renamed.
use Rattle.std.specs.Prelude.{◌≡◌, ℕ, zero, suc, ◌<◌, List, [], ◌∷◌, length, map, Some, slice_get, ◌==◌, if◌then◌else◌}
use Rattle.pattern_core.specs.declared.pattern.Src.{Src}
use Rattle.pattern_core.specs.declared.pattern.Src.TheVariants.{Input, Out}
use Rattle.pattern_core.specs.declared.pattern.Node.{Node}
use Rattle.pattern_core.specs.declared.pattern.Pattern.{Pattern}

-- a source with its node renamed
abbrev pub renamed_source : (ℕ → ℕ) → Src → Src
renamed_source to (Input k) = Input k
renamed_source to (Out node result) = Out (to node) result

abbrev pub renamed_sources : (ℕ → ℕ) → List Src → List Src
renamed_sources to sources = map (renamed_source to) sources

abbrev pub renamed_node : (ℕ → ℕ) → Node → Node
renamed_node to n = record n { args = renamed_sources to n.args }

-- the second pattern is the first with its nodes renumbered by a permutation of their numbers
pub record IsRenaming (p q : Pattern) : Type 0 where
  pub to : ℕ → ℕ
  pub from : ℕ → ℕ
  pub size : length q.nodes ≡ length p.nodes
  pub within : (k : ℕ) → k < length p.nodes → to k < length p.nodes
  pub back : (k : ℕ) → k < length p.nodes → from (to k) ≡ k
  pub from_within : (k : ℕ) → k < length p.nodes → from k < length p.nodes
  pub forth : (k : ℕ) → k < length p.nodes → to (from k) ≡ k
  pub nodes : (k : ℕ) (n : Node) → slice_get p.nodes k ≡ Some n → slice_get q.nodes (to k) ≡ Some (renamed_node to n)
  pub results : q.results ≡ renamed_sources to p.results

-- the first place of a number in a list; its length, where it is not there
abbrev pub place_of : List ℕ → ℕ → ℕ
place_of [] x = zero
place_of (y ∷ ys) x = if x == y then zero else suc (place_of ys x)
