-- The walk of a pattern: from the results in order, through the arguments of each node from left to right. A node is
-- entered once, and left after its arguments. A depth-first postorder, as in the textbooks on graphs.
use Rattle.std.specs.Prelude.{◌≡◌, ℕ, zero, suc, ◌<◌, List, [], ◌∷◌, ◌++◌, length, slice_get, nat_eq, fold}
use Rattle.std.specs.Prelude.{if◌then◌else◌, Option, Some, None, All}
use Rattle.std.specs.List.{list_any}
use Rattle.pattern_core.specs.declared.pattern.Src.{Src}
use Rattle.pattern_core.specs.declared.pattern.Src.TheVariants.{Input, Out}
use Rattle.pattern_core.specs.declared.pattern.Node.{Node}
use Rattle.pattern_core.specs.declared.pattern.Pattern.{Pattern}
use Rattle.pattern_core.specs.Pattern.{args_of}

-- the nodes that the walk from a source has left, after those that it had left before; at most that many nodes deep
unfoldable pub walk : ℕ → List Node → List ℕ → Src → List ℕ
walk deep nodes left (Input k) = left
walk zero nodes left (Out node result) = left
walk (suc deep) nodes left (Out node result) =
    if list_any (nat_eq node) left then left
    else fold (walk deep nodes) left (args_of (slice_get nodes node)) ++ node ∷ []

-- the numbers below n, rising
abbrev pub below : ℕ → List ℕ
below zero = []
below (suc n) = below n ++ n ∷ []

-- the nodes stand in the order in which the walk from the results leaves them, none missing
abbrev pub IsCanonical : Pattern → Type 0
IsCanonical p = fold (walk (length p.nodes) p.nodes) [] p.results ≡ below (length p.nodes)

-- a source names no node from the k-th on
abbrev pub IsBefore : ℕ → Src → Type 0
IsBefore k (Input i) = Unit {0}
IsBefore k (Out node result) = node < k

-- each node is over earlier ones
abbrev pub AreForward : List Node → Type 0
AreForward nodes = (k : ℕ) (n : Node) → slice_get nodes k ≡ Some n → All (IsBefore k) n.args

-- each node is over earlier ones, and the results name nodes that are there
pub record IsForward (p : Pattern) : Type 0 where
  pub nodes : AreForward p.nodes
  pub results : All (IsBefore (length p.nodes)) p.results

-- the nodes left so far are those below a count, or they are not those below any
abbrev pub IsCounted : List ℕ → Option ℕ → Type 0
IsCounted left None = (n : ℕ) → left ≡ below n → ⊥
IsCounted left (Some n) = left ≡ below n
