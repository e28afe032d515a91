-- In a pattern that is well-formed for a goal whose results have sorts, each node is over earlier ones, and the results
-- name nodes that are there.
use Rattle.std.proofs.Common.{◌≡◌, ℕ, List, [], ◌∷◌, length, map, Option, Some, None, slice_get, All}
use Rattle.std.specs.Prelude.{IsSome}
use Rattle.std.proofs.lemmas.Bool.{false≢true}
use Rattle.std.proofs.lemmas.List.Elements.{All-nil, All-cons}
use Rattle.bv_terms.specs.declared.value.Sort.{Sort}
use Rattle.bv_terms.specs.WellSorted.{sort_of}
use Rattle.bv_terms.specs.Table.{IsTable}
use Rattle.isel_spec.specs.declared.spec.Spec.{Spec}
use Rattle.isel_spec.specs.File.{File, Goal}
use Rattle.isel_spec.specs.Spec.{file}
use Rattle.pattern_core.specs.declared.pattern.Src.{Src}
use Rattle.pattern_core.specs.declared.pattern.Src.TheVariants.{Input, Out}
use Rattle.pattern_core.specs.declared.pattern.Node.{Node}
use Rattle.pattern_core.specs.declared.pattern.Pattern.{Pattern}
use Rattle.pattern_core.specs.Pattern.{source_sort, IsWellFormed}
use Rattle.pattern_core.specs.Walk.{IsBefore, IsForward}
use Rattle.pattern_core.proofs.SourceLemmas.{earlier_node}
use Rattle.pattern_core.proofs.TotalLemmas.{IsLimited, IsLimited-from_spec, all_some, some_of}
use Rattle.list_lemmas.proofs.Lists.{Each}

is_before : (f : File) (g : Goal) (nodes : List Node) (k : ℕ) (s : Src) (t : Sort)
    → source_sort f g nodes k s ≡ Some t → IsBefore k s
is_before f g nodes k (Input i) t e = tt
is_before f g nodes k (Out node r) t e = earlier_node f g nodes k node r t e

are_before : (f : File) (g : Goal) (nodes : List Node) (k : ℕ) (xs : List Src) (os : List (Option Sort))
    → map (source_sort f g nodes k) xs ≡ os → Each (λ (o : Option Sort). IsSome o) os → All (IsBefore k) xs
are_before f g nodes k [] os e all = All-nil (IsBefore k)
are_before f g nodes k (x ∷ xs) [] e all = absurd (cc)
are_before f g nodes k (x ∷ xs) (None ∷ os) e all = absurd (false≢true all.0)
are_before f g nodes k (x ∷ xs) (Some t ∷ os) e all =
    let first : source_sort f g nodes k x ≡ Some t = cc in
    let rest : map (source_sort f g nodes k) xs ≡ os = cc in
    All-cons (IsBefore k) x xs (is_before f g nodes k x t first) (are_before f g nodes k xs os rest all.1)

IsForward-from_limits : (f : File) (g : Goal) → IsLimited f g → (p : Pattern) → IsWellFormed f g p → IsForward p
IsForward-from_limits f g limits p w = record {
  nodes =
      λ k n e. let fit = w.nodes k n e in
      are_before f g p.nodes k n.args (map (λ s. Some s) fit.operation.args) fit.args (all_some fit.operation.args);
  results =
      are_before f g p.nodes (length p.nodes) p.results (map (sort_of f.pointer) g.results) w.results
      (some_of f.pointer g.results limits.sorted);
}

pub IsForward-from_spec : (s : Spec) (k : ℕ) (g : Goal) → IsTable s.terms → slice_get (file s).goals k ≡ Some g
    → (p : Pattern) → IsWellFormed (file s) g p → IsForward p
IsForward-from_spec s k g table e p w = IsForward-from_limits (file s) g (IsLimited-from_spec s k g table e) p w
