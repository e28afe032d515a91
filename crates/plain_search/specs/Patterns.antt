-- The patterns of a multiset of operations for a goal, in their order, as the search goes through them: node by node by
-- operation, attributes and arguments, and then by results.
use Rattle.std.specs.Prelude.{◌≡◌, ℕ, zero, suc, ◌+◌, ◌^◌, ◌↔◌, List, [], ◌∷◌, ◌++◌, length, map, filter}
use Rattle.std.specs.Prelude.{◌⊎◌, Contains, Option, Some, None, slice_get, nat_eq, if◌then◌else◌, Bool, false}
use Rattle.std.specs.List.{flat_map, list_any, range_with_len}
use Rattle.bv_terms.specs.declared.value.Sort.{Sort}
use Rattle.bv_terms.specs.Term.{Term}
use Rattle.bv_terms.specs.Sorts.{same_sort}
use Rattle.bv_terms.specs.WellSorted.{sort_of}
use Rattle.isel_spec.specs.File.{File, Operation, Goal}
use Rattle.pattern_core.specs.declared.pattern.Src.{Src}
use Rattle.pattern_core.specs.declared.pattern.Src.TheVariants.{Input, Out}
use Rattle.pattern_core.specs.declared.pattern.Node.{Node}
use Rattle.pattern_core.specs.declared.pattern.Pattern.{Pattern}
use Rattle.pattern_core.specs.Pattern.{source_sort, IsWellFormed}
use Rattle.pattern_core.specs.Walk.{IsCanonical}
use Rattle.pattern_core.specs.Order.{pattern_cmp, multiset, IsRising}

-- all lists of one element of each of these lists, in lexicographic order
abbrev pub choices : {A : Type 0} → List (List A) → List (List A)
choices [] = [] ∷ []
choices (xs ∷ xss) = flat_map (λ x. map (λ ys. x ∷ ys) (choices xss)) xs

-- how many results an operation has
abbrev pub result_count : Option Operation → ℕ
result_count None = 0
result_count (Some o) = length o.results

-- the results of these nodes, the first of which is the k-th
abbrev pub outs_of : File → ℕ → List Node → List Src
outs_of f k [] = []
outs_of f k (n ∷ ns) = map (Out k) (range_with_len 0 (result_count (slice_get f.ops n.op))) ++ outs_of f (k + 1) ns

-- what may be named after these nodes, by rising source number: the inputs, and the results node by node
abbrev pub sources : File → Goal → List Node → List Src
sources f g nodes = map Input (range_with_len 0 (length g.args)) ++ outs_of f 0 nodes

abbrev pub is_sort : Option Sort → Option Sort → Bool
is_sort (Some s) (Some t) = same_sort s t
is_sort _ _ = false

-- those of a sort
abbrev pub sources_of : File → Goal → List Node → Option Sort → List Src
sources_of f g nodes s = filter (λ source. is_sort s (source_sort f g nodes (length nodes) source)) (sources f g nodes)

-- the numbers of so many bits
abbrev pub numbers : ℕ → List ℕ
numbers width = range_with_len 0 (2 ^ width)

-- the nodes of an operation that may stand after these, in order
abbrev pub nodes_after : File → Goal → List Node → ℕ → Option Operation → List Node
nodes_after f g nodes op None = []
nodes_after f g nodes op (Some o) =
    flat_map (λ attrs. map (λ args. record { op = op; attrs = attrs; args = args })
    (choices (map (λ s. sources_of f g nodes (Some s)) o.args))) (choices (map numbers o.attrs))

-- each of these once; in a rising list it is the last one that stays
abbrev pub different : List ℕ → List ℕ
different [] = []
different (x ∷ xs) = if list_any (nat_eq x) xs then different xs else x ∷ different xs

-- without the first of these that is x
abbrev pub without : ℕ → List ℕ → List ℕ
without x [] = []
without x (y ∷ ys) = if nat_eq x y then ys else y ∷ without x ys

-- the nodes, and after them one more of each of the next n operations, in every order
unfoldable pub node_lists : File → Goal → ℕ → List Node → List ℕ → List (List Node)
node_lists f g zero nodes ops = nodes ∷ []
node_lists f g (suc n) nodes ops =
    flat_map (λ op. flat_map (λ node. node_lists f g n (nodes ++ node ∷ []) (without op ops))
    (nodes_after f g nodes op (slice_get f.ops op))) (different ops)

-- these nodes, and sources of the goal's results in every choice
abbrev pub patterns_of : File → Goal → List Node → List Pattern
patterns_of f g nodes =
    map (λ results. record { nodes = nodes; results = results })
    (choices (map (λ (t : Term). sources_of f g nodes (sort_of f.pointer t)) g.results))

-- what the search looks at for a multiset: whatever fits, also what is not canonical or leaves a node unused
abbrev pub candidates : File → Goal → List ℕ → List Pattern
candidates f g ops = flat_map (patterns_of f g) (node_lists f g (length ops) [] ops)

-- the canonical patterns for a goal with this multiset of operations, each once, in order
pub record ArePatterns (f : File) (g : Goal) (ops : List ℕ) (ps : List Pattern) : Type 0 where
  pub rising : IsRising pattern_cmp ps
  pub members : (p : Pattern)
      → Contains ps p ↔ (IsWellFormed f g p × IsCanonical p × (multiset p.nodes ≡ ops))

-- these are, of the others, those that are kept, in their order
abbrev pub AreKept : {A : Type 0} → (A → Type 0) → List A → List A → Type 0
AreKept Keep [] ks = ks ≡ []
AreKept Keep (x ∷ xs) ks =
    (Keep x × ((rest : List _) × (ks ≡ x ∷ rest) × AreKept Keep xs rest)) ⊎ ((Keep x → ⊥) × AreKept Keep xs ks)
