-- A renaming of a well-formed pattern in which each node comes after its arguments is well-formed again.
use Rattle.std.proofs.Common.{◌≡◌, ℕ, ◌+◌, ◌<◌, ◌≤◌, Bool, cond, List, [], ◌∷◌, length, map}
use Rattle.std.proofs.Common.{refl, sym, ap, ◌∙◌, subst, arith, inl, inr, slice_get, Option, Some, None, option_map}
use Rattle.std.specs.Prelude.{nat_lt, ◌&&◌, ◌==◌, option_and_then, count_by, Contains, sum_by}
use Rattle.std.specs.List.{flat_map}
use Rattle.std.specs.List.Sorted.{IsPermutation}
use Rattle.std.proofs.lemmas.List.{length-map}
use Rattle.std.proofs.lemmas.List.Elements.{All-contains}
use Rattle.std.proofs.lemmas.List.Sorted.{IsPermutation-map, sum_by-IsPermutation}
use Rattle.std.proofs.lemmas.List.Sums.{sum_by-append, sum_by-cons}
use Rattle.std.proofs.lemmas.Option.{same_Some, slice_get_within, slice_get-map}
use Rattle.bv_terms.specs.declared.value.Sort.TheVariants as sort
use Rattle.isel_spec.specs.File.{File, Goal, Operation}
use Rattle.pattern_core.specs.declared.pattern.Src.{Src}
use Rattle.pattern_core.specs.declared.pattern.Src.TheVariants.{Input, Out}
use Rattle.pattern_core.specs.declared.pattern.Node.{Node}
use Rattle.pattern_core.specs.declared.pattern.Pattern.{Pattern}
use Rattle.pattern_core.specs.Pattern.{operation_sort, source_sort, IsFitting, AreFitting, args_of, IsUsed, same_source}
use Rattle.pattern_core.specs.Pattern.{times_named, IsWellFormed}
use Rattle.pattern_core.specs.Walk.{below, IsBefore, AreForward, IsForward}
use Rattle.pattern_core.specs.Renaming.{renamed_source, renamed_sources, renamed_node, place_of, IsRenaming}
use Rattle.pattern_core.proofs.SourceLemmas.{earlier_node}
use Rattle.pattern_core.proofs.PlaceLemmas.{below-at}
use Rattle.pattern_core.proofs.OrderOfWalk.{args-before, args-there, order_of, IsOrder}
use Rattle.pattern_core.proofs.RenamingLemmas.{IsPlaced, IsRenaming-placed, same_number, same_by_places, args-renamed}
use Rattle.pattern_core.proofs.WalkLemmas.{length-below, IsBefore-more}
use Rattle.list_lemmas.proofs.Bools.{lt-true}
use Rattle.list_lemmas.proofs.Lookups.{some_at, map-contains, Contains-slice_get}
use Rattle.list_lemmas.proofs.Members.{In, In-from_Contains, Contains-from_In}

-- ---- sorts

-- a source that has its sort at both places: a renamed node that is before the one place is before the other
sort-renamed : (f : File) (g : Goal) (p q : Pattern) (h : IsRenaming p q) (k j : ℕ) (s : Src)
    → ((a r : ℕ) → s ≡ Out a r → (a < length p.nodes) × (nat_lt (h.to a) j ≡ nat_lt a k))
    → source_sort f g q.nodes j (renamed_source h.to s) ≡ source_sort f g p.nodes k s
sort-renamed f g p q h k j (Input i) there = refl
sort-renamed f g p q h k j (Out a r) there =
    let here = there a r refl in
    let at = some_at p.nodes a here.0 in
    let op_at : Option Node → Option Operation = option_and_then (λ (n : Node). slice_get f.ops n.op) in
    let same : op_at (slice_get q.nodes (h.to a)) ≡ op_at (slice_get p.nodes a) =
    ap op_at (h.nodes a at.0 at.1) ∙ ap op_at (sym at.1) in
    λ i. cond (here.1 i) (operation_sort f (same i) r) None

sorts-renamed : (f : File) (g : Goal) (p q : Pattern) (h : IsRenaming p q) (k j : ℕ) (ss : List Src)
    → ((a r : ℕ) → In ss (Out a r) → (a < length p.nodes) × (nat_lt (h.to a) j ≡ nat_lt a k))
    → map (source_sort f g q.nodes j) (renamed_sources h.to ss) ≡ map (source_sort f g p.nodes k) ss
sorts-renamed f g p q h k j [] there = refl
sorts-renamed f g p q h k j (s ∷ ss) there = λ i.
    sort-renamed f g p q h k j s (λ a r e. there a r (inl e)) i
    ∷ sorts-renamed f g p q h k j ss (λ a r m. there a r (inr m)) i

both_before : (a k b j : ℕ) → a < k → b < j → nat_lt b j ≡ nat_lt a k
both_before a k b j l m = lt-true b j m ∙ sym (lt-true a k l)

-- ---- what goes over a renaming

-- each node comes after its arguments
abbrev KeepsOrder : (p q : Pattern) → IsRenaming p q → Type 0
KeepsOrder p q h =
    (k a r : ℕ) → k < length p.nodes → In (args_of (slice_get p.nodes k)) (Out a r) → h.to a < h.to k

fitting-at : (f : File) (g : Goal) (p q : Pattern) (h : IsRenaming p q) → AreForward p.nodes → KeepsOrder p q h
    → (k : ℕ) (n : Node) → slice_get p.nodes k ≡ Some n → IsFitting f g p.nodes k n
    → IsFitting f g q.nodes (h.to k) (renamed_node h.to n)
fitting-at f g p q h forward keeps k n e fit = record {
  operation = fit.operation;
  in_file = fit.in_file;
  attrs = fit.attrs;
  args = sorts-renamed f g p q h k (h.to k) n.args there ∙ fit.args;
}
  where
    there : (a r : ℕ) → In n.args (Out a r) → (a < length p.nodes) × (nat_lt (h.to a) (h.to k) ≡ nat_lt a k)
    there a r i =
        let arg : In (args_of (slice_get p.nodes k)) (Out a r) = subst (λ o. In (args_of o) (Out a r)) (sym e) i in
        let inside : k < length p.nodes = slice_get_within p.nodes k n e in
        let before : a < k = args-before p.nodes forward k (Out a r) arg in
        (omega (arith, before, inside), both_before a k (h.to a) (h.to k) before (keeps k a r inside arg))

fitting-renamed : (f : File) (g : Goal) (p q : Pattern) (h : IsRenaming p q) → AreForward p.nodes → KeepsOrder p q h
    → AreFitting f g p.nodes → AreFitting f g q.nodes
fitting-renamed f g p q h forward keeps fit j m e =
    let inside : j < length p.nodes = subst (λ n. j < n) h.size (slice_get_within q.nodes j m e) in
    let k : ℕ = h.from j in
    let at = some_at p.nodes k (h.from_within j inside) in
    let back : h.to k ≡ j = h.forth j inside in
    let same : renamed_node h.to at.0 ≡ m =
    same_Some (renamed_node h.to at.0) m (sym (h.nodes k at.0 at.1) ∙ ap (slice_get q.nodes) back ∙ e) in
    subst (λ i. IsFitting f g q.nodes i m) back
    (subst (IsFitting f g q.nodes (h.to k)) same
    (fitting-at f g p q h forward keeps k at.0 at.1 (fit k at.0 at.1)))

used-from : (p q : Pattern) (h : IsRenaming p q) (k : ℕ) → IsUsed p k → IsUsed q (h.to k)
used-from p q h k u = (
  u.0,
  elim u.1 [
    | inl c ↦ inl (subst (λ ss. Contains ss (Out (h.to k) u.0)) (sym h.results)
        (map-contains (renamed_source h.to) p.results (Out k u.0) c))
    | inr c ↦ inr (h.to c.0, by_node c.0 c.1)
  ],
)
  where
    by_node : (j : ℕ) → Contains (args_of (slice_get p.nodes j)) (Out k u.0)
        → Contains (args_of (slice_get q.nodes (h.to j))) (Out (h.to k) u.0)
    by_node j c =
        let there = args-there p.nodes j (Out k u.0) (In-from_Contains (args_of (slice_get p.nodes j)) (Out k u.0) c) in
        subst (λ ss. Contains ss (Out (h.to k) u.0)) (sym (args-renamed p q h j there))
        (map-contains (renamed_source h.to) (args_of (slice_get p.nodes j)) (Out k u.0) c)

used-renamed : (p q : Pattern) (h : IsRenaming p q) → ((k : ℕ) → k < length p.nodes → IsUsed p k) → (j : ℕ)
    → j < length q.nodes → IsUsed q j
used-renamed p q h used j l =
    let inside : j < length p.nodes = subst (λ n. j < n) h.size l in
    subst (IsUsed q) (h.forth j inside) (used-from p q h (h.from j) (used (h.from j) (h.from_within j inside)))

-- ---- how often a source is named

abbrev IsThere : Pattern → Src → Type 0
IsThere p s = IsBefore (length p.nodes) s

same-renamed : (p q : Pattern) (h : IsRenaming p q) (s t : Src) → IsThere p s → IsThere p t
    → same_source (renamed_source h.to s) (renamed_source h.to t) ≡ same_source s t
same-renamed p q h (Input i) (Input k) l m = refl
same-renamed p q h (Input i) (Out b r) l m = refl
same-renamed p q h (Out a q') (Input k) l m = refl
same-renamed p q h (Out a q') (Out b r) l m = ap (λ x. x && (q' == r)) (same_number p q h a b l m)

sum-mapped : {X Y : Type 0} (f : X → ℕ) (g : Y → ℕ) (m : X → Y) (xs : List X) → ((x : X) → In xs x → g (m x) ≡ f x)
    → sum_by g (map m xs) ≡ sum_by f xs
sum-mapped f g m [] same = refl
sum-mapped f g m (x ∷ xs) same =
    sum_by-cons g (m x) (map m xs) ∙ (λ i. same x (inl refl) i + sum-mapped f g m xs (λ y j. same y (inr j)) i)
    ∙ sym (sum_by-cons f x xs)

count-renamed : (p q : Pattern) (h : IsRenaming p q) (s : Src) → IsThere p s → (ss : List Src)
    → ((t : Src) → In ss t → IsThere p t)
    → count_by (same_source (renamed_source h.to s)) (renamed_sources h.to ss) ≡ count_by (same_source s) ss
count-renamed p q h s l ss there =
    sum-mapped (λ t. cond (same_source s t) 1 0) (λ t. cond (same_source (renamed_source h.to s) t) 1 0)
    (renamed_source h.to) ss (λ t m. ap (λ b. cond b 1 0) (same-renamed p q h s t l (there t m)))

count-nodes : (test : Src → Bool) (ns : List Node)
    → count_by test (flat_map (λ (n : Node). n.args) ns) ≡ sum_by (λ (n : Node). count_by test n.args) ns
count-nodes test [] = refl
count-nodes test (n ∷ ns) =
    sum_by-append (λ x. cond (test x) 1 0) n.args (flat_map (λ (m : Node). m.args) ns)
    ∙ ap (λ c. count_by test n.args + c) (count-nodes test ns)
    ∙ sym (sum_by-cons (λ (m : Node). count_by test m.args) n ns)

-- how often an optional node names a source
abbrev count_in : (Src → Bool) → Option Node → ℕ
count_in test None = 0
count_in test (Some n) = count_by test n.args

sum-some : (test : Src → Bool) (ns : List Node)
    → sum_by (λ (n : Node). count_by test n.args) ns ≡ sum_by (count_in test) (map (λ (n : Node). Some n) ns)
sum-some test ns =
    sym (sum-mapped (λ (n : Node). count_by test n.args) (count_in test) (λ (n : Node). Some n) ns (λ n i. refl))

sum-same : (p q : Pattern) (h : IsRenaming p q) (s : Src) → IsThere p s → (ns : List Node)
    → ((n : Node) (t : Src) → In ns n → In n.args t → IsThere p t)
    → sum_by (count_in (same_source (renamed_source h.to s))) (map (λ (n : Node). Some (renamed_node h.to n)) ns)
    ≡ sum_by (λ (n : Node). count_by (same_source s) n.args) ns
sum-same p q h s l ns there =
    sum-mapped (λ (n : Node). count_by (same_source s) n.args) (count_in (same_source (renamed_source h.to s)))
    (λ (n : Node). Some (renamed_node h.to n)) ns (λ n i. count-renamed p q h s l n.args (λ t m. there n t i m))

-- what all nodes are read as, in the order of their numbers
read_all : (G : Option Node → Option Node) (ns : List Node)
    → map (λ k. G (slice_get ns k)) (below (length ns)) ≡ map (λ (n : Node). G (Some n)) ns
read_all G ns =
    same_by_places (map F (below (length ns))) (map (λ (n : Node). G (Some n)) ns)
    (length-map (below (length ns)) F ∙ length-below (length ns) ∙ sym (length-map ns (λ (n : Node). G (Some n)))) at
  where
    F : ℕ → Option Node
    F k = G (slice_get ns k)

    at : (k : ℕ) → k < length (map F (below (length ns)))
        → slice_get (map F (below (length ns))) k ≡ slice_get (map (λ (n : Node). G (Some n)) ns) k
    at k l =
        let long = length-map (below (length ns)) F ∙ length-below (length ns) in
        let inside : k < length ns = subst (λ n. k < n) long l in
        let x = some_at ns k inside in
        slice_get-map F (below (length ns)) k ∙ ap (option_map F) (below-at (length ns) k inside)
        ∙ ap (λ o. Some (G o)) x.1 ∙ ap (option_map (λ (n : Node). G (Some n))) (sym x.1)
        ∙ sym (slice_get-map (λ (n : Node). G (Some n)) ns k)

nodes-permuted : (p q : Pattern) (o : IsOrder p (order_of p)) (placed : IsPlaced p (order_of p) q)
    → IsPermutation (map (λ (n : Node). Some (renamed_node (IsRenaming-placed p (order_of p) q o placed).to n)) p.nodes)
    (map (λ (n : Node). Some n) q.nodes)
unfolding IsRenaming-placed
nodes-permuted p q o placed =
    let G : Option Node → Option Node = option_map (renamed_node (place_of (order_of p))) in
    let F : ℕ → Option Node = λ k. G (slice_get p.nodes k) in
    subst (λ ns. IsPermutation ns (map (λ (n : Node). Some n) q.nodes)) (read_all G p.nodes)
    (subst (IsPermutation (map F (below (length p.nodes)))) (sym placed.nodes)
    (IsPermutation-map F (below (length p.nodes)) (order_of p) o.permuted))

args_there : (p : Pattern) → IsForward p → (n : Node) (t : Src) → In p.nodes n → In n.args t → IsThere p t
args_there p forward n t i m =
    let c = Contains-slice_get p.nodes n (Contains-from_In p.nodes n i) in
    let inside = slice_get_within p.nodes c.0 n c.1 in
    IsBefore-more c.0 (length p.nodes) t (omega (arith, inside))
    (All-contains (IsBefore c.0) n.args t (forward.nodes c.0 n c.1) (Contains-from_In n.args t m))

times-renamed : (p q : Pattern) → IsForward p → (o : IsOrder p (order_of p)) (placed : IsPlaced p (order_of p) q)
    → (s : Src) → IsThere p s
    → times_named q (renamed_source (IsRenaming-placed p (order_of p) q o placed).to s) ≡ times_named p s
times-renamed p q forward o placed s l =
    let h : IsRenaming p q = IsRenaming-placed p (order_of p) q o placed in
    let test : Src → Bool = same_source s in
    let new : Src → Bool = same_source (renamed_source h.to s) in
    let args : List Node → List Src = flat_map (λ (n : Node). n.args) in
    let split : times_named q (renamed_source h.to s) ≡ count_by new (args q.nodes) + count_by new q.results =
    sum_by-append (λ x. cond (new x) 1 0) (args q.nodes) q.results in
    let join : times_named p s ≡ count_by test (args p.nodes) + count_by test p.results =
    sum_by-append (λ x. cond (test x) 1 0) (args p.nodes) p.results in
    let of_nodes : count_by new (args q.nodes) ≡ count_by test (args p.nodes) =
    count-nodes new q.nodes ∙ sum-some new q.nodes
    ∙ sum_by-IsPermutation (count_in new) (map (λ (n : Node). Some (renamed_node h.to n)) p.nodes)
    (map (λ (n : Node). Some n) q.nodes) (nodes-permuted p q o placed)
    ∙ sum-same p q h s l p.nodes (args_there p forward) ∙ sym (count-nodes test p.nodes) in
    let of_results : count_by new q.results ≡ count_by test p.results =
    ap (count_by new) h.results
    ∙ count-renamed p q h s l p.results
    (λ t i. All-contains (IsBefore (length p.nodes)) p.results t forward.results (Contains-from_In p.results t i)) in
    split ∙ (λ i. of_nodes i + of_results i) ∙ sym join

-- ---- the whole

there_at_end : (p q : Pattern) (h : IsRenaming p q) (a : ℕ) → a < length p.nodes
    → (a < length p.nodes) × (nat_lt (h.to a) (length q.nodes) ≡ nat_lt a (length p.nodes))
there_at_end p q h a l =
    let to_within : h.to a < length q.nodes = subst (λ n. h.to a < n) (sym h.size) (h.within a l) in
    (l, both_before a (length p.nodes) (h.to a) (length q.nodes) l to_within)

linear-at : (f : File) (g : Goal) (p q : Pattern) → IsForward p → (o : IsOrder p (order_of p))
    (placed : IsPlaced p (order_of p) q) → IsWellFormed f g p → (s : Src) → IsThere p s
    → source_sort f g q.nodes (length q.nodes)
    (renamed_source (IsRenaming-placed p (order_of p) q o placed).to s) ≡ Some sort.Mem
    → times_named q (renamed_source (IsRenaming-placed p (order_of p) q o placed).to s) ≡ 1
linear-at f g p q forward o placed w s l e =
    let h : IsRenaming p q = IsRenaming-placed p (order_of p) q o placed in
    times-renamed p q forward o placed s l
    ∙ w.linear s (sym (sort-renamed f g p q h (length p.nodes) (length q.nodes) s
    (λ a r is. there_at_end p q h a (subst (IsThere p) is l))) ∙ e)

linear-renamed : (f : File) (g : Goal) (p q : Pattern) → IsForward p → IsOrder p (order_of p)
    → IsPlaced p (order_of p) q → IsWellFormed f g p → (s : Src)
    → source_sort f g q.nodes (length q.nodes) s ≡ Some sort.Mem → times_named q s ≡ 1
linear-renamed f g p q forward o placed w (Input i) e = linear-at f g p q forward o placed w (Input i) tt e
linear-renamed f g p q forward o placed w (Out m r) e =
    let h : IsRenaming p q = IsRenaming-placed p (order_of p) q o placed in
    let inside : m < length p.nodes =
    subst (λ n. m < n) h.size (earlier_node f g q.nodes (length q.nodes) m r sort.Mem e) in
    subst (λ k. source_sort f g q.nodes (length q.nodes) (Out k r) ≡ Some sort.Mem → times_named q (Out k r) ≡ 1)
    (h.forth m inside) (linear-at f g p q forward o placed w (Out (h.from m) r) (h.from_within m inside)) e

keeps_order : (p q : Pattern) (o : IsOrder p (order_of p)) (placed : IsPlaced p (order_of p) q)
    → KeepsOrder p q (IsRenaming-placed p (order_of p) q o placed)
unfolding IsRenaming-placed
keeps_order p q o placed k a r l i = (o.walked.over k a r (o.all k l) i).1

pub IsWellFormed-placed : (f : File) (g : Goal) (p q : Pattern) → IsForward p → IsOrder p (order_of p)
    → IsPlaced p (order_of p) q → IsWellFormed f g p → IsWellFormed f g q
IsWellFormed-placed f g p q forward o placed w =
    let h : IsRenaming p q = IsRenaming-placed p (order_of p) q o placed in
    record {
      size = subst (λ n. n ≤ 6) (sym h.size) w.size;
      nodes = fitting-renamed f g p q h forward.nodes (keeps_order p q o placed) w.nodes;
      results =
          ap (map (source_sort f g q.nodes (length q.nodes))) h.results
          ∙ sorts-renamed f g p q h (length p.nodes) (length q.nodes) p.results
          (λ a r i. there_at_end p q h a (All-contains (IsBefore (length p.nodes)) p.results (Out a r) forward.results
          (Contains-from_In p.results (Out a r) i)))
          ∙ w.results;
      used = used-renamed p q h w.used;
      linear = linear-renamed f g p q forward o placed w;
    }
