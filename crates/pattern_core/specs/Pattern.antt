-- Which patterns are well-formed for a goal.
-- Patterns as programs over components: Gulwani, Jha, Tiwari, Venkatesan, PLDI 2011.
use Rattle.std.specs.Prelude.{◌≡◌, ℕ, ◌^◌, ◌<◌, ◌≤◌, List, [], ◌∷◌, ◌++◌, length, map, Option, Some, None, slice_get}
use Rattle.std.specs.Prelude.{Bool, false, ◌&&◌, ◌==◌, Contains, nat_lt, option_and_then, ◌⊎◌, if◌then◌else◌, count_by}
use Rattle.std.specs.List.{flat_map}
use Rattle.bv_terms.specs.declared.value.Sort.{Sort}
use Rattle.bv_terms.specs.declared.value.Sort.TheVariants as sort
use Rattle.bv_terms.specs.WellSorted.{sort_of}
use Rattle.isel_spec.specs.File.{File, Operation, Goal}
use Rattle.pattern_core.specs.declared.pattern.Src.{Src}
use Rattle.pattern_core.specs.declared.pattern.Src.TheVariants.{Input, Out}
use Rattle.pattern_core.specs.declared.pattern.Node.{Node}
use Rattle.pattern_core.specs.declared.pattern.Pattern.{Pattern}

-- the sort of an operation's result, where it has it
abbrev pub operation_sort : File → Option Operation → ℕ → Option Sort
operation_sort f None result = None
operation_sort f (Some o) result = option_and_then (sort_of f.pointer) (slice_get o.results result)

-- the sort of a source of a node or a result that stands after k nodes, where it has one
abbrev pub source_sort : File → Goal → List Node → ℕ → Src → Option Sort
source_sort f g nodes k (Input i) = slice_get g.args i
source_sort f g nodes k (Out node result) =
    if nat_lt node k
    then operation_sort f (option_and_then (λ (n : Node). slice_get f.ops n.op) (slice_get nodes node)) result
    else None

-- lists of one length, whose elements stand in a relation one by one
abbrev pub Pairwise : {A B : Type 0} → (A → B → Type 0) → List A → List B → Type 0
Pairwise R [] [] = Unit {0}
Pairwise R (x ∷ xs) (y ∷ ys) = R x y × Pairwise R xs ys
Pairwise R [] (y ∷ ys) = ⊥
Pairwise R (x ∷ xs) [] = ⊥

-- the k-th node: its operation is in the file, and its attributes and arguments fit
pub record IsFitting (f : File) (g : Goal) (nodes : List Node) (k : ℕ) (n : Node) : Type 0 where
  pub operation : Operation
  pub in_file : slice_get f.ops n.op ≡ Some operation
  pub attrs : Pairwise (λ w a. a < 2 ^ w) operation.attrs n.attrs
  pub args : map (source_sort f g nodes k) n.args ≡ map (λ s. Some s) operation.args

abbrev pub AreFitting : File → Goal → List Node → Type 0
AreFitting f g nodes = (k : ℕ) (n : Node) → slice_get nodes k ≡ Some n → IsFitting f g nodes k n

abbrev pub args_of : Option Node → List Src
args_of None = []
args_of (Some n) = n.args

-- a result of node k
abbrev pub IsOf : ℕ → Src → Type 0
IsOf k s = (result : ℕ) × (s ≡ Out k result)

-- one of the sources is a result of node k
abbrev pub IsAmong : ℕ → List Src → Type 0
IsAmong k sources = (result : ℕ) × Contains sources (Out k result)

-- a later node or a result uses node k
abbrev pub IsUsed : Pattern → ℕ → Type 0
IsUsed p k =
    (result : ℕ)
    × (Contains p.results (Out k result)
    ⊎ ((j : ℕ) × Contains (args_of (slice_get p.nodes j)) (Out k result)))

abbrev pub same_source : Src → Src → Bool
same_source (Input i) (Input k) = i == k
same_source (Out m q) (Out n r) = m == n && q == r
same_source _ _ = false

-- all sources that a pattern names: those of the nodes' arguments, and then of the results
abbrev pub named_sources : Pattern → List Src
named_sources p = flat_map (λ (n : Node). n.args) p.nodes ++ p.results

-- how often a pattern names a source
abbrev pub times_named : Pattern → Src → ℕ
times_named p s = count_by (same_source s) (named_sources p)

-- a source that is a memory is named exactly once
abbrev pub IsLinearAt : File → Goal → Pattern → Src → Type 0
IsLinearAt f g p s = source_sort f g p.nodes (length p.nodes) s ≡ Some sort.Mem → times_named p s ≡ 1

-- what is a pattern for a goal
pub record IsWellFormed (f : File) (g : Goal) (p : Pattern) : Type 0 where
  pub size : length p.nodes ≤ 6
  pub nodes : AreFitting f g p.nodes
  pub results : map (source_sort f g p.nodes (length p.nodes)) p.results ≡ map (sort_of f.pointer) g.results
  pub used : (k : ℕ) → k < length p.nodes → IsUsed p k
  -- a memory, an input or a node's result, is named exactly once
  pub linear : (s : Src) → source_sort f g p.nodes (length p.nodes) s ≡ Some sort.Mem → times_named p s ≡ 1
