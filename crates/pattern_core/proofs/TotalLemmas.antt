-- The order of patterns is total, and only equal patterns of a goal are `Equal`.
use Rattle.std.proofs.Common.{◌≡◌, ℕ, ◌<◌, ◌≤◌, true, ◌&&◌, List, [], ◌∷◌, length, map}
use Rattle.std.proofs.Common.{Option, Some, None, refl, sym, ap, ◌∙◌, subst, arith, slice_get}
use Rattle.std.specs.Prelude.{nat_lt, IsSome}
use Rattle.std.specs.Cmp.{IsTotalOrder, nat_cmp_total, on_total, then_total}
use Rattle.std.specs.Cmp.Lexicographic.{lists_total, nat_list_cmp_total, slice_cmp}
use Rattle.std.specs.FinMap.{nat_cmp-IsAntisymmetric, slice_cmp-IsAntisymmetric}
use Rattle.std.specs.Ordering.{nat_cmp, ordering_then}
use Rattle.std.specs.declared.cmp.Ordering.TheVariants.{Equal}
use Rattle.std.proofs.lemmas.Bool.{and_parts, ltb-true, false≢true}
use Rattle.std.proofs.lemmas.List.{length-map}
use Rattle.std.proofs.lemmas.Option.{slice_get-get_or, unwrap_or-slice_get}
use Rattle.bv_terms.specs.declared.op.TermId.{TermId}
use Rattle.bv_terms.specs.declared.value.Sort.{Sort}
use Rattle.bv_terms.specs.Term.{Term}
use Rattle.bv_terms.specs.WellSorted.{sort_of}
use Rattle.bv_terms.specs.Table.{Table, IsTable, terms_of, term_in}
use Rattle.isel_spec.specs.declared.definitions.GoalDef.{GoalDef}
use Rattle.isel_spec.specs.declared.spec.Spec.{Spec}
use Rattle.isel_spec.specs.File.{File, Operation, Goal, goal, are_sound, stays_in}
use Rattle.isel_spec.specs.Spec.{file}
use Rattle.pattern_core.specs.declared.pattern.Src.{Src}
use Rattle.pattern_core.specs.declared.pattern.Src.TheVariants.{Input, Out}
use Rattle.pattern_core.specs.declared.pattern.Node.{Node}
use Rattle.pattern_core.specs.declared.pattern.Pattern.{Pattern}
use Rattle.isel_spec.proofs.SpecLemmas.{pointer_is, IsSoundGoal, IsSoundGoal_at}
use Rattle.pattern_core.specs.Pattern.{source_sort, IsWellFormed}
use Rattle.pattern_core.specs.Order.{source_number, source_cmp, node_cmp, multiset, pattern_cmp, IsTotalOrderOf}
use Rattle.pattern_core.proofs.SourceLemmas.{IsSmall, small_source, few_results}
use Rattle.bv_terms.proofs.TableLemmas.{length-terms_of}
use Rattle.list_lemmas.proofs.Lists.{Each}
use Rattle.list_lemmas.proofs.Lookups.{each_from_places, mapped_at}
use Rattle.list_lemmas.proofs.Orders.{same_lists, then_first, then_second}

-- ---- total and transitive

source_total : IsTotalOrder source_cmp
source_total = on_total source_number nat_cmp_total

node_total : IsTotalOrder node_cmp
node_total =
    then_total (on_total (λ (n : Node). n.op) nat_cmp_total)
    (then_total (on_total (λ (n : Node). n.attrs) nat_list_cmp_total)
    (on_total (λ (n : Node). n.args) (lists_total source_total)))

pattern_total : IsTotalOrder pattern_cmp
pattern_total =
    then_total (on_total (λ (p : Pattern). length p.nodes) nat_cmp_total)
    (then_total (on_total (λ (p : Pattern). multiset p.nodes) nat_list_cmp_total)
    (then_total (on_total (λ (p : Pattern). p.nodes) (lists_total node_total))
    (on_total (λ (p : Pattern). p.results) (lists_total source_total))))

-- ---- what is `Equal`

same_numbered : (s t : Src) → IsSmall s → IsSmall t → source_cmp s t ≡ Equal → s ≡ t
same_numbered (Input j) (Input k) a b e = ap (λ n. Input n) (nat_cmp-IsAntisymmetric j k e)
same_numbered (Input j) (Out m r) a b e =
    let same = nat_cmp-IsAntisymmetric j (source_number (Out m r)) e in
    absurd (omega (arith, a, same))
same_numbered (Out n q) (Input k) a b e =
    let same = nat_cmp-IsAntisymmetric (source_number (Out n q)) k e in
    absurd (omega (arith, b, same))
same_numbered (Out n q) (Out m r) a b e =
    let same = nat_cmp-IsAntisymmetric (source_number (Out n q)) (source_number (Out m r)) e in
    let nodes : n ≡ m = omega (arith, a, b, same) in
    let results : q ≡ r = omega (arith, a, b, same) in
    λ i. Out (nodes i) (results i)

HasSmall : Node → Type 0
HasSmall n = Each IsSmall n.args

same_node : (m n : Node) → HasSmall m → HasSmall n → node_cmp m n ≡ Equal → m ≡ n
unfolding HasSmall
same_node m n a b e =
    let by_op = nat_cmp m.op n.op in
    let by_attrs = slice_cmp nat_cmp m.attrs n.attrs in
    let by_args = slice_cmp source_cmp m.args n.args in
    let later = then_second by_op (ordering_then by_attrs by_args) e in
    let ops = nat_cmp-IsAntisymmetric m.op n.op (then_first by_op (ordering_then by_attrs by_args) e) in
    let attrs = slice_cmp-IsAntisymmetric nat_cmp-IsAntisymmetric m.attrs n.attrs (then_first by_attrs by_args later) in
    let args = same_lists IsSmall source_cmp same_numbered m.args n.args a b (then_second by_attrs by_args later) in
    λ i. record { op = ops i; attrs = attrs i; args = args i }

record IsSmallPattern (p : Pattern) : Type 0 where
  nodes : Each HasSmall p.nodes
  results : Each IsSmall p.results

same_pattern : (p q : Pattern) → IsSmallPattern p → IsSmallPattern q → pattern_cmp p q ≡ Equal → p ≡ q
same_pattern p q a b e =
    let by_size = nat_cmp (length p.nodes) (length q.nodes) in
    let by_multiset = slice_cmp nat_cmp (multiset p.nodes) (multiset q.nodes) in
    let by_nodes = slice_cmp node_cmp p.nodes q.nodes in
    let by_results = slice_cmp source_cmp p.results q.results in
    let second = then_second by_size (ordering_then by_multiset (ordering_then by_nodes by_results)) e in
    let third = then_second by_multiset (ordering_then by_nodes by_results) second in
    let nodes =
    same_lists HasSmall node_cmp same_node p.nodes q.nodes a.nodes b.nodes (then_first by_nodes by_results third) in
    let results =
    same_lists IsSmall source_cmp same_numbered p.results q.results a.results b.results
    (then_second by_nodes by_results third) in
    λ i. record { nodes = nodes i; results = results i }

-- ---- the sources of a well-formed pattern

-- a goal of at most four arguments and results that have sorts, and operations of at most three results
pub record IsLimited (f : File) (g : Goal) : Type 0 where
  pub args : length g.args ≤ 4
  pub sorted : Each (λ (t : Term). IsSome (sort_of f.pointer t)) g.results
  pub results : (k : ℕ) (o : Operation) → slice_get f.ops k ≡ Some o → length o.results ≤ 3

small_sources : (f : File) (g : Goal) → IsLimited f g
    → (nodes : List Node) (k : ℕ) (xs : List Src) (os : List (Option Sort))
    → map (source_sort f g nodes k) xs ≡ os → Each (λ (o : Option Sort). IsSome o) os → Each IsSmall xs
small_sources f g limits nodes k [] os e all = tt
small_sources f g limits nodes k (x ∷ xs) [] e all = absurd (cc)
small_sources f g limits nodes k (x ∷ xs) (None ∷ os) e all = absurd (false≢true all.0)
small_sources f g limits nodes k (x ∷ xs) (Some t ∷ os) e all =
    let first : source_sort f g nodes k x ≡ Some t = cc in
    let rest : map (source_sort f g nodes k) xs ≡ os = cc in
    (small_source f g limits.args limits.results nodes k x t first, small_sources f g limits nodes k xs os rest all.1)

pub all_some : (ss : List Sort) → Each (λ (o : Option Sort). IsSome o) (map (λ s. Some s) ss)
all_some [] = tt
all_some (s ∷ ss) = (refl, all_some ss)

pub some_of : (p : ℕ) (ts : List Term) → Each (λ (t : Term). IsSome (sort_of p t)) ts
    → Each (λ (o : Option Sort). IsSome o) (map (sort_of p) ts)
some_of p [] all = tt
some_of p (t ∷ ts) all = (all.0, some_of p ts all.1)

small_pattern : (f : File) (g : Goal) → IsLimited f g → (p : Pattern) → IsWellFormed f g p → IsSmallPattern p
unfolding HasSmall
small_pattern f g limits p wf = record {
  nodes = each_from_places HasSmall p.nodes (λ k n e.
      let fit = wf.nodes k n e in
      small_sources f g limits p.nodes k n.args (map (λ s. Some s) fit.operation.args) fit.args
      (all_some fit.operation.args));
  results =
      small_sources f g limits p.nodes (length p.nodes) p.results (map (sort_of f.pointer) g.results) wf.results
      (some_of f.pointer g.results limits.sorted);
}

pub is_total_order : (f : File) (g : Goal) → IsLimited f g → IsTotalOrderOf (IsWellFormed f g) pattern_cmp
is_total_order f g limits = record {
  total = λ p q _ _. let t = pattern_total in t.antisymm p q;
  antisymmetric = λ p q a b. same_pattern p q (small_pattern f g limits p a) (small_pattern f g limits q b);
  transitive = λ p q r _ _ _. let t = pattern_total in t.trans p q r;
}

-- ---- what a `Spec` keeps

term_there : (ts : List Term) (k : ℕ) → k < length ts → slice_get ts k ≡ Some (term_in ts k)
term_there ts k l =
    slice_get-get_or ts k (term_in [] 0) l ∙ ap (λ t. Some t) (sym (unwrap_or-slice_get ts k (term_in [] 0)))

-- results that stand in a table have sorts
sorted_results : (table : Table) → IsTable table → (ss : List Sort) (ats : List TermId)
    → are_sound table ss ats ≡ true
    → Each (λ (t : Term). IsSome (sort_of table.pointer t)) (map (λ (a : TermId). term_in (terms_of table) a.0) ats)
sorted_results table is ss [] h = tt
sorted_results table is ss (at ∷ ats) h =
    let there = nat_lt at.0 (length table.nodes) in
    let stays = stays_in ss (term_in (terms_of table) at.0) in
    let both = and_parts (there && stays) (are_sound table ss ats) h in
    let within = ltb-true at.0 (length table.nodes) (and_parts there stays both.0).0 in
    let long = length-terms_of table in
    let first =
    is.well_sorted at.0 (term_in (terms_of table) at.0)
    (term_there (terms_of table) at.0 (omega (arith, within, long))) in
    (first, sorted_results table is ss ats both.1)

limited_goal : (table : Table) → IsTable table → (e : List ℕ × GoalDef) → IsSoundGoal table e
    → (length (goal table e).args ≤ 4) × Each (λ (t : Term). IsSome (sort_of table.pointer t)) (goal table e).results
limited_goal table is e sound = (
  subst (λ n. n ≤ 4) (sym (length-map e.1.args (λ a. a.1))) sound.few,
  sorted_results table is (map (λ a. a.1) e.1.args) e.1.results sound.results,
)

pub IsLimited-from_spec : (s : Spec) (k : ℕ) (g : Goal) → IsTable s.terms → slice_get (file s).goals k ≡ Some g
    → IsLimited (file s) g
IsLimited-from_spec s k g table e =
    let at = mapped_at (goal s.terms) s.goals k g e in
    let limits = limited_goal s.terms table at.0 (IsSoundGoal_at s k at.0 at.1) in
    record {
      args = subst (λ (x : Goal). length x.args ≤ 4) at.2 limits.0;
      sorted =
          subst (λ (p : ℕ). Each (λ (t : Term). IsSome (sort_of p t)) g.results) (sym (pointer_is s))
          (subst (λ (x : Goal). Each (λ (t : Term). IsSome (sort_of s.terms.pointer t)) x.results) at.2 limits.1);
      results = few_results s;
    }
