-- The list of a multiset's patterns: it rises, it has exactly the patterns that fit, and what is kept of it are the
-- canonical patterns of the multiset.
use Rattle.std.proofs.Common.{◌≡◌, ℕ, List, [], ◌∷◌, length, map, Option, refl, sym, ap, ◌∙◌, subst}
use Rattle.std.proofs.Common.{Contains, ◌↔◌}
use Rattle.std.specs.Prelude.{IsSome}
use Rattle.std.specs.Cmp.Lexicographic.{slice_cmp}
use Rattle.std.specs.Ordering.{nat_cmp, ordering_then}
use Rattle.std.specs.declared.cmp.Ordering.{Ordering}
use Rattle.std.specs.declared.cmp.Ordering.TheVariants.{Less}
use Rattle.bv_terms.specs.declared.value.Sort.{Sort}
use Rattle.bv_terms.specs.Term.{Term}
use Rattle.bv_terms.specs.WellSorted.{sort_of}
use Rattle.isel_spec.specs.File.{File, Goal}
use Rattle.list_lemmas.proofs.Lists.{Each}
use Rattle.list_lemmas.proofs.Members.{In, In-map, In_of_map, In-flat_map, In_of_flat_map, Contains-from_In}
use Rattle.list_lemmas.proofs.Members.{In-from_Contains}
use Rattle.list_lemmas.proofs.Options.{the_some}
use Rattle.list_lemmas.proofs.Orders.{IsOrdered, IsOrdered-flat_map, IsOrdered-map, IsOrdered-within, nat_cmp-same}
use Rattle.list_lemmas.proofs.Orders.{slice_cmp-same}
use Rattle.pattern_core.specs.declared.pattern.Src.{Src}
use Rattle.pattern_core.specs.declared.pattern.Node.{Node}
use Rattle.pattern_core.specs.declared.pattern.Pattern.{Pattern}
use Rattle.pattern_core.specs.Pattern.{source_sort, Pairwise, AreFitting, IsWellFormed}
use Rattle.pattern_core.specs.Walk.{IsCanonical}
use Rattle.pattern_core.specs.Order.{source_cmp, node_cmp, multiset, pattern_cmp, IsRising}
use Rattle.pattern_core.proofs.TotalLemmas.{IsLimited}
use Rattle.plain_search.specs.Patterns.{choices, sources_of, node_lists, patterns_of, candidates, AreKept, ArePatterns}
use Rattle.plain_search.proofs.ListLemmas.{IsRising-from_ordered}
use Rattle.plain_search.proofs.OrderingLemmas.{Lower, then_less, then_equal, lists-same, Each-map}
use Rattle.plain_search.proofs.ChoiceLemmas.{maps-from_pairs, pairs-from_maps, In-choices, In_of_choices}
use Rattle.plain_search.proofs.ChoiceLemmas.{Pairwise-within, IsOrdered-choices}
use Rattle.plain_search.proofs.TakenLemmas.{NeverFalls}
use Rattle.plain_search.proofs.NamedLemmas.{IsOrdered-sources_of, In_of_sources_of, In-sources_of}
use Rattle.plain_search.proofs.FollowLemmas.{source_cmp-same, node_cmp-same, AreFitting-from_follow}
use Rattle.plain_search.proofs.FollowLemmas.{follow-from_fitting}
use Rattle.plain_search.proofs.GrownLemmas.{IsOfMultiset, of_multiset-from_in, in-from_of_multiset}
use Rattle.plain_search.proofs.GrownLemmas.{IsOrdered-node_lists, length-multiset}
use Rattle.plain_search.proofs.KeptLemmas.{In_of_kept, In-kept, IsOrdered-kept}

-- the pattern of these nodes and results
abbrev with_results : List Node → List Src → Pattern
with_results nodes results = record { nodes = nodes; results = results }

-- the choices of results
abbrev result_choices : File → Goal → List Node → List (List Src)
result_choices f g nodes = choices (map (λ (t : Term). sources_of f g nodes (sort_of f.pointer t)) g.results)

-- ---- the order

-- patterns of one multiset stand as their nodes and then their results do
pattern_cmp-parts : (p q : Pattern) → multiset p.nodes ≡ multiset q.nodes
    → ordering_then (slice_cmp node_cmp p.nodes q.nodes) (slice_cmp source_cmp p.results q.results) ≡ pattern_cmp p q
pattern_cmp-parts p q same =
    let last : Ordering =
    ordering_then (slice_cmp node_cmp p.nodes q.nodes) (slice_cmp source_cmp p.results q.results) in
    let sizes : length q.nodes ≡ length p.nodes =
    sym (length-multiset q.nodes) ∙ ap length (sym same) ∙ length-multiset p.nodes in
    sym (then_equal (nat_cmp (length p.nodes) (length q.nodes))
    (ordering_then (slice_cmp nat_cmp (multiset p.nodes) (multiset q.nodes)) last) last
    (ap (nat_cmp (length p.nodes)) sizes ∙ nat_cmp-same (length p.nodes))
    (then_equal (slice_cmp nat_cmp (multiset p.nodes) (multiset q.nodes)) last last
    (ap (slice_cmp nat_cmp (multiset p.nodes)) (sym same) ∙ slice_cmp-same (multiset p.nodes)) refl))

IsOrdered-patterns_of : (f : File) (g : Goal) → IsLimited f g → (nodes : List Node)
    → IsOrdered (Lower pattern_cmp) (patterns_of f g nodes)
IsOrdered-patterns_of f g limits nodes =
    IsOrdered-map (Lower (slice_cmp source_cmp)) (Lower pattern_cmp) (with_results nodes)
    (λ a b l. sym (pattern_cmp-parts (with_results nodes a) (with_results nodes b) refl)
    ∙ then_equal (slice_cmp node_cmp nodes nodes) (slice_cmp source_cmp a b) Less
    (lists-same node_cmp node_cmp-same nodes) l) (result_choices f g nodes)
    (IsOrdered-choices source_cmp source_cmp-same
    (map (λ (t : Term). sources_of f g nodes (sort_of f.pointer t)) g.results)
    (Each-map (IsOrdered (Lower source_cmp)) (λ (t : Term). sources_of f g nodes (sort_of f.pointer t))
    (λ t. IsOrdered-sources_of f g nodes (sort_of f.pointer t) limits.args limits.results) g.results))

-- lists of nodes of one multiset, the first of which comes before the second
abbrev IsEarlier : List Node → List Node → Type 0
IsEarlier a b = (multiset a ≡ multiset b) × Lower (slice_cmp node_cmp) a b

lower_by_nodes : (f : File) (g : Goal) (a b : List Node) (p q : Pattern) → IsEarlier a b → In (patterns_of f g a) p
    → In (patterns_of f g b) q → Lower pattern_cmp p q
lower_by_nodes f g a b p q earlier i j =
    let left = In_of_map (with_results a) (result_choices f g a) p i in
    let right = In_of_map (with_results b) (result_choices f g b) q j in
    (λ k. pattern_cmp (sym left.2 k) (sym right.2 k))
    ∙ sym (pattern_cmp-parts (with_results a left.0) (with_results b right.0) earlier.0)
    ∙ then_less (slice_cmp node_cmp a b) (slice_cmp source_cmp left.0 right.0) earlier.1

IsOrdered-candidates : (f : File) (g : Goal) (ops : List ℕ) → IsLimited f g → NeverFalls ops
    → IsOrdered (Lower pattern_cmp) (candidates f g ops)
IsOrdered-candidates f g ops limits falls =
    let lists : List (List Node) = node_lists f g (length ops) [] ops in
    IsOrdered-flat_map IsEarlier (Lower pattern_cmp) (patterns_of f g) (IsOrdered-patterns_of f g limits)
    (lower_by_nodes f g) lists
    (IsOrdered-within (Lower (slice_cmp node_cmp)) IsEarlier lists
    (λ a b i j l. (of_multiset_both a b i j, l))
    (IsOrdered-node_lists f g (length ops) [] ops limits.args limits.results falls))
  where
    of_multiset_both : (a b : List Node) → In (node_lists f g (length ops) [] ops) a
        → In (node_lists f g (length ops) [] ops) b → multiset a ≡ multiset b
    of_multiset_both a b i j =
        let left = of_multiset-from_in f g ops a falls i in
        let right = of_multiset-from_in f g ops b falls j in
        left.multiset ∙ sym right.multiset

pub candidates-rise : (f : File) (g : Goal) (ops : List ℕ) → IsLimited f g → NeverFalls ops
    → IsRising pattern_cmp (candidates f g ops)
candidates-rise f g ops limits falls =
    IsRising-from_ordered pattern_cmp (candidates f g ops) (IsOrdered-candidates f g ops limits falls)

-- ---- which patterns there are

-- the results have the sorts of the goal's
abbrev pub HaveResultSorts : File → Goal → Pattern → Type 0
HaveResultSorts f g p = map (source_sort f g p.nodes (length p.nodes)) p.results ≡ map (sort_of f.pointer) g.results

In_of_patterns_of : (f : File) (g : Goal) (nodes : List Node) (p : Pattern) → In (patterns_of f g nodes) p
    → (nodes ≡ p.nodes) × HaveResultSorts f g p
In_of_patterns_of f g nodes p i =
    let r = In_of_map (with_results nodes) (result_choices f g nodes) p i in
    let sorted : HaveResultSorts f g (with_results nodes r.0) =
    maps-from_pairs (sort_of f.pointer) (source_sort f g nodes (length nodes)) g.results r.0
    (Pairwise-within (λ t x. In (sources_of f g nodes (sort_of f.pointer t)) x)
    (λ t x. source_sort f g nodes (length nodes) x ≡ sort_of f.pointer t)
    (λ t x. In_of_sources_of f g nodes (sort_of f.pointer t) x) g.results r.0
    (In_of_choices (λ (t : Term). sources_of f g nodes (sort_of f.pointer t)) g.results r.0 r.1)) in
    (ap (λ (q : Pattern). q.nodes) r.2, subst (HaveResultSorts f g) r.2 sorted)

in_sorted : (f : File) (g : Goal) (nodes : List Node) (ts : List Term) (xs : List Src)
    → Each (λ (t : Term). IsSome (sort_of f.pointer t)) ts
    → Pairwise (λ t x. source_sort f g nodes (length nodes) x ≡ sort_of f.pointer t) ts xs
    → Pairwise (λ (t : Term) (x : Src). In (sources_of f g nodes (sort_of f.pointer t)) x) ts xs
in_sorted f g nodes [] [] sorted pairs = tt
in_sorted f g nodes [] (x ∷ xs) sorted pairs = absurd pairs
in_sorted f g nodes (t ∷ ts) [] sorted pairs = absurd pairs
in_sorted f g nodes (t ∷ ts) (x ∷ xs) sorted pairs =
    let s = the_some (sort_of f.pointer t) sorted.0 in (
      subst (λ (o : Option Sort). In (sources_of f g nodes o) x) (sym s.1)
          (In-sources_of f g nodes s.0 x (pairs.0 ∙ s.1)),
      in_sorted f g nodes ts xs sorted.1 pairs.1,
    )

In-patterns_of : (f : File) (g : Goal) (p : Pattern) → IsLimited f g → HaveResultSorts f g p
    → In (patterns_of f g p.nodes) p
In-patterns_of f g p limits sorted =
    In-map (with_results p.nodes) (result_choices f g p.nodes) p.results
    (In-choices (λ (t : Term). sources_of f g p.nodes (sort_of f.pointer t)) g.results p.results
    (in_sorted f g p.nodes g.results p.results limits.sorted
    (pairs-from_maps (sort_of f.pointer) (source_sort f g p.nodes (length p.nodes)) g.results p.results sorted)))

-- what is a candidate
pub record IsCandidate (f : File) (g : Goal) (ops : List ℕ) (p : Pattern) : Type 0 where
  pub nodes : AreFitting f g p.nodes
  pub results : map (source_sort f g p.nodes (length p.nodes)) p.results ≡ map (sort_of f.pointer) g.results
  pub multiset : multiset p.nodes ≡ ops

candidate-from_in : (f : File) (g : Goal) (ops : List ℕ) (p : Pattern) → NeverFalls ops → In (candidates f g ops) p
    → IsCandidate f g ops p
candidate-from_in f g ops p falls i =
    let r = In_of_flat_map (patterns_of f g) (node_lists f g (length ops) [] ops) p i in
    let is = In_of_patterns_of f g r.0 p r.2 in
    let of = of_multiset-from_in f g ops p.nodes falls
    (subst (In (node_lists f g (length ops) [] ops)) is.0 r.1) in
    record {
      nodes = AreFitting-from_follow f g p.nodes of.follow;
      results = is.1;
      multiset = of.multiset;
    }

in-from_candidate : (f : File) (g : Goal) (ops : List ℕ) (p : Pattern) → IsLimited f g → IsCandidate f g ops p
    → In (candidates f g ops) p
in-from_candidate f g ops p limits is =
    let of : IsOfMultiset f g ops p.nodes =
    record { follow = follow-from_fitting f g p.nodes is.nodes; multiset = is.multiset } in
    In-flat_map (patterns_of f g) (node_lists f g (length ops) [] ops) p.nodes p
    (in-from_of_multiset f g ops p.nodes of) (In-patterns_of f g p limits is.results)

pub candidates-have : (f : File) (g : Goal) (ops : List ℕ) → IsLimited f g → NeverFalls ops → (p : Pattern)
    → Contains (candidates f g ops) p
    ↔ (AreFitting f g p.nodes
    × (map (source_sort f g p.nodes (length p.nodes)) p.results ≡ map (sort_of f.pointer) g.results)
    × (multiset p.nodes ≡ ops))
candidates-have f g ops limits falls p = (
  λ c. let is = candidate-from_in f g ops p falls (In-from_Contains (candidates f g ops) p c) in
      (is.nodes, is.results, is.multiset),
  λ h. Contains-from_In (candidates f g ops) p
      (in-from_candidate f g ops p limits (record { nodes = h.0; results = h.1; multiset = h.2 })),
)

-- ---- what is kept

pub kept-are-patterns : (f : File) (g : Goal) (ops : List ℕ) (ps : List Pattern) → IsLimited f g → NeverFalls ops
    → AreKept (λ (p : Pattern). IsWellFormed f g p × IsCanonical p) (candidates f g ops) ps → ArePatterns f g ops ps
kept-are-patterns f g ops ps limits falls kept = record {
  rising = IsRising-from_ordered pattern_cmp ps
      (IsOrdered-kept (Lower pattern_cmp) Keep (candidates f g ops) ps kept
      (IsOrdered-candidates f g ops limits falls));
  members = λ p. (
    λ c. of p (In_of_kept Keep (candidates f g ops) ps kept p (In-from_Contains ps p c)),
    λ h. Contains-from_In ps p (In-kept Keep (candidates f g ops) ps kept p
        (in-from_candidate f g ops p limits
        (record { nodes = h.0.nodes; results = h.0.results; multiset = h.2 })) (h.0, h.1)),
  );
}
  where
    Keep : Pattern → Type 0
    Keep p = IsWellFormed f g p × IsCanonical p

    of : (p : Pattern) → (In (candidates f g ops) p × (IsWellFormed f g p × IsCanonical p))
        → IsWellFormed f g p × IsCanonical p × (multiset p.nodes ≡ ops)
    of p r = let is = candidate-from_in f g ops p falls r.0 in (r.1.0, r.1.1, is.multiset)
