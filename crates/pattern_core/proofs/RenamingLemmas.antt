-- The walk of a renamed pattern is the renamed walk, so that what `canonical` makes is canonical and nothing else is.
use Rattle.std.proofs.Common.{◌≡◌, ℕ, zero, suc, ◌+◌, ◌<◌, ◌≤◌, Bool, true, false, cond, List, [], ◌∷◌, ◌++◌, length}
use Rattle.std.proofs.Common.{map}
use Rattle.std.proofs.Common.{get_or, refl, sym, ap, ◌∙◌, subst, arith, inl, inr, slice_get, Option, Some, None}
use Rattle.std.proofs.Common.{option_map, take}
use Rattle.std.specs.Prelude.{nat_eq, fold, ◌||◌}
use Rattle.std.specs.List.{list_any}
use Rattle.std.proofs.lemmas.Bool.{eqb-true, eq-eqb}
use Rattle.std.proofs.lemmas.List.{length-map, map-append, map_push, map_more}
use Rattle.std.proofs.lemmas.List.Elements.{All-contains}
use Rattle.std.proofs.lemmas.Option.{same_Some, slice_get_within, slice_get-map, slice_get-get_or}
use Rattle.std.proofs.lemmas.Option.{get_or_from_slice_get}
use Rattle.pattern_core.specs.declared.pattern.Src.{Src}
use Rattle.pattern_core.specs.declared.pattern.Src.TheVariants.{Input, Out}
use Rattle.pattern_core.specs.declared.pattern.Node.{Node}
use Rattle.pattern_core.specs.declared.pattern.Pattern.{Pattern}
use Rattle.pattern_core.specs.Pattern.{args_of}
use Rattle.pattern_core.specs.Walk.{walk, below, IsBefore, AreForward, IsForward, IsCanonical}
use Rattle.pattern_core.specs.Renaming.{renamed_source, renamed_sources, renamed_node, place_of, IsRenaming}
use Rattle.pattern_core.proofs.PlaceLemmas.{place_of-there, place_of-at, places-rise, length-permuted}
use Rattle.pattern_core.proofs.OrderOfWalk.{args-before, order_of, IsOrder, IsWalked, walk-walks, no_walk}
use Rattle.list_lemmas.proofs.Bools.{same_test}
use Rattle.list_lemmas.proofs.Lists.{heads, tails}
use Rattle.list_lemmas.proofs.Lookups.{some_at}
use Rattle.list_lemmas.proofs.Members.{In, In-get_or, In-slice_get, Contains-from_In}

-- ---- a renaming to places in an order

-- nodes in this order, with their sources renamed to places there
pub record IsPlaced (p : Pattern) (order : List ℕ) (q : Pattern) : Type 0 where
  pub nodes : map (λ (n : Node). Some n) q.nodes
      ≡ map (λ k. option_map (renamed_node (place_of order)) (slice_get p.nodes k)) order
  pub results : q.results ≡ renamed_sources (place_of order) p.results

pub placed_more : (F : ℕ → Option Node) (order : List ℕ) (i : ℕ) (made : List Node) (m : Node) → i < length order
    → map (λ (n : Node). Some n) made ≡ map F (take i order) → F (get_or order i 0) ≡ Some m
    → map (λ (n : Node). Some n) (made ++ m ∷ []) ≡ map F (take (i + 1) order)
placed_more F order i made m l e at =
    map_push (λ (n : Node). Some n) made m ∙ (λ j. e j ++ sym at j ∷ []) ∙ sym (map_more F order i 0 l)

-- from the parts that `canonical` makes
pub IsPlaced-from_parts : (p : Pattern) (order : List ℕ) (nodes : List Node) (sources : List Src) (q : Pattern)
    → order ≡ order_of p → nodes ≡ p.nodes → sources ≡ p.results
    → map (λ (n : Node). Some n) q.nodes
    ≡ map (λ k. option_map (renamed_node (place_of order)) (slice_get nodes k)) order
    → q.results ≡ renamed_sources (place_of order) sources → IsPlaced p (order_of p) q
IsPlaced-from_parts p order nodes sources q e f g made results = record {
  nodes =
      made ∙ (λ i. map (λ k. option_map (renamed_node (place_of (e i))) (slice_get (f i) k)) (e i));
  results = results ∙ (λ i. renamed_sources (place_of (e i)) (g i));
}

unwrapped : (o : Option Node) (m : Node) → option_map (λ (n : Node). Some n) o ≡ Some (Some m) → o ≡ Some m
unwrapped None m e = absurd (cc)
unwrapped (Some n) m e = same_Some (Some n) (Some m) e

pub placed-node : (p : Pattern) (order : List ℕ) (q : Pattern) → IsOrder p order → IsPlaced p order q
    → (k : ℕ) (n : Node) → slice_get p.nodes k ≡ Some n
    → slice_get q.nodes (place_of order k) ≡ Some (renamed_node (place_of order) n)
placed-node p order q o h k n e =
    let F : ℕ → Option Node = λ j. option_map (renamed_node (place_of order)) (slice_get p.nodes j) in
    let i : ℕ = place_of order k in
    let at : slice_get order i ≡ Some k = place_of-there order k (o.all k (slice_get_within p.nodes k n e)) in
    unwrapped (slice_get q.nodes i) (renamed_node (place_of order) n)
    (sym (slice_get-map (λ (m : Node). Some m) q.nodes i) ∙ ap (λ ms. slice_get ms i) h.nodes
    ∙ slice_get-map F order i ∙ ap (option_map F) at
    ∙ ap (λ m. Some (option_map (renamed_node (place_of order)) m)) e)

unfoldable pub IsRenaming-placed : (p : Pattern) (order : List ℕ) (q : Pattern) → IsOrder p order → IsPlaced p order q
    → IsRenaming p q
IsRenaming-placed p order q o h =
    let n : ℕ = length p.nodes in
    let F : ℕ → Option Node = λ j. option_map (renamed_node (place_of order)) (slice_get p.nodes j) in
    let long : length order ≡ n = length-permuted n order o.permuted in
    let at : (k : ℕ) → k < n → slice_get order (place_of order k) ≡ Some k =
    λ k l. place_of-there order k (o.all k l) in
    let inside : (k : ℕ) → k < n → k < length order = λ k l. omega (arith, l, long) in
    record {
      to = place_of order;
      from = λ i. get_or order i 0;
      size = sym (length-map q.nodes (λ (m : Node). Some m)) ∙ ap length h.nodes ∙ length-map order F ∙ long;
      within = λ k l. subst (λ m. place_of order k < m) long (slice_get_within order (place_of order k) k (at k l));
      back = λ k l. get_or_from_slice_get order (place_of order k) k 0 (at k l);
      from_within = λ k l. o.walked.within (get_or order k 0) (In-get_or order k 0 (inside k l));
      forth =
          λ k l. place_of-at order o.walked.once k (get_or order k 0) (slice_get-get_or order k 0 (inside k l));
      nodes = placed-node p order q o h;
      results = h.results;
    }

-- the order of the walk has no more numbers than the pattern has nodes, each of one
pub order-short : (p : Pattern) (order : List ℕ) → order ≡ order_of p → IsOrder p (order_of p)
    → length order ≡ length p.nodes
order-short p order e o = ap length e ∙ length-permuted (length p.nodes) (order_of p) o.permuted

pub order-within : (p : Pattern) (order : List ℕ) (nodes : List Node) → order ≡ order_of p → nodes ≡ p.nodes
    → IsOrder p (order_of p) → (i k : ℕ) → slice_get order i ≡ Some k → k < length nodes
order-within p order nodes e f o i k at =
    subst (λ (ns : List Node). k < length ns) (sym f)
    (o.walked.within k (In-slice_get (order_of p) i k (subst (λ ks. slice_get ks i ≡ Some k) e at)))

-- ---- the walk of a renamed pattern

same_again : (p q : Pattern) (h : IsRenaming p q) (a b : ℕ) → a < length p.nodes → b < length p.nodes
    → h.to a ≡ h.to b → a ≡ b
same_again p q h a b l m e = sym (h.back a l) ∙ ap h.from e ∙ h.back b m

pub same_number : (p q : Pattern) (h : IsRenaming p q) (a b : ℕ) → a < length p.nodes → b < length p.nodes
    → nat_eq (h.to a) (h.to b) ≡ nat_eq a b
same_number p q h a b l m =
    same_test (nat_eq (h.to a) (h.to b)) (nat_eq a b)
    (λ t. eq-eqb a b (same_again p q h a b l m (eqb-true (h.to a) (h.to b) t)))
    (λ t. eq-eqb (h.to a) (h.to b) (ap h.to (eqb-true a b t)))

any-renamed : (p q : Pattern) (h : IsRenaming p q) (a : ℕ) → a < length p.nodes → (xs : List ℕ)
    → ((k : ℕ) → In xs k → k < length p.nodes)
    → list_any (nat_eq (h.to a)) (map h.to xs) ≡ list_any (nat_eq a) xs
any-renamed p q h a l [] within = refl
any-renamed p q h a l (x ∷ xs) within = λ i.
    same_number p q h a x l (within x (inl refl)) i || any-renamed p q h a l xs (λ k m. within k (inr m)) i

pub args-renamed : (p q : Pattern) (h : IsRenaming p q) (k : ℕ) → k < length p.nodes
    → args_of (slice_get q.nodes (h.to k)) ≡ renamed_sources h.to (args_of (slice_get p.nodes k))
args-renamed p q h k l =
    let at = some_at p.nodes k l in
    ap args_of (h.nodes k at.0 at.1) ∙ ap (λ o. renamed_sources h.to (args_of o)) (sym at.1)

fold-renamed : (p q : Pattern) (h : IsRenaming p q) (bound : ℕ) (f g : List ℕ → Src → List ℕ)
    → ((left : List ℕ) (s : Src) → IsBefore bound s → IsWalked p.nodes left
    → g (map h.to left) (renamed_source h.to s) ≡ map h.to (f left s))
    → ((left : List ℕ) (s : Src) → IsBefore bound s → IsWalked p.nodes left → IsWalked p.nodes (f left s))
    → (ss : List Src) (left : List ℕ) → ((s : Src) → In ss s → IsBefore bound s) → IsWalked p.nodes left
    → fold g (map h.to left) (renamed_sources h.to ss) ≡ map h.to (fold f left ss)
fold-renamed p q h bound f g same next [] left before w = refl
fold-renamed p q h bound f g same next (s ∷ ss) left before w =
    ap (λ xs. fold g xs (renamed_sources h.to ss)) (same left s (before s (inl refl)) w)
    ∙ fold-renamed p q h bound f g same next ss (f left s) (λ t i. before t (inr i))
    (next left s (before s (inl refl)) w)

walk-renamed : (p q : Pattern) (h : IsRenaming p q) → AreForward p.nodes → (deep bound : ℕ) → bound ≤ deep
    → bound ≤ length p.nodes → (left : List ℕ) (s : Src) → IsBefore bound s → IsWalked p.nodes left
    → walk deep q.nodes (map h.to left) (renamed_source h.to s) ≡ map h.to (walk deep p.nodes left s)
unfolding walk
walk-renamed p q h forward zero bound d m left (Input k) b w = refl
walk-renamed p q h forward (suc deep) bound d m left (Input k) b w = refl
walk-renamed p q h forward zero bound d m left (Out node r) b w = absurd (omega (arith, b, d))
walk-renamed p q h forward (suc deep) bound d m left (Out node r) b w =
    let l : node < length p.nodes = omega (arith, b, m) in
    let e : node ≤ deep = omega (arith, b, d) in
    let few : node ≤ length p.nodes = omega (arith, l) in
    let args : List Src = args_of (slice_get p.nodes node) in
    let more : List ℕ = fold (walk deep p.nodes) left args in
    let test = any-renamed p q h node l left w.within in
    let rest : fold (walk deep q.nodes) (map h.to left) (args_of (slice_get q.nodes (h.to node))) ++ h.to node ∷ []
    ≡ map h.to (more ++ node ∷ []) =
    ap (λ ss. fold (walk deep q.nodes) (map h.to left) ss ++ h.to node ∷ []) (args-renamed p q h node l)
    ∙ ap (λ xs. xs ++ h.to node ∷ [])
    (fold-renamed p q h node (walk deep p.nodes) (walk deep q.nodes)
    (λ left' s c v. walk-renamed p q h forward deep node e few left' s c v)
    (λ left' s c v. (walk-walks deep p.nodes forward node e few s c left' v).walked)
    args left (λ s i. args-before p.nodes forward node s i) w)
    ∙ sym (map-append h.to more (node ∷ [])) in
    (λ i. cond (test i) (map h.to left) (rest i)) ∙ moved (list_any (nat_eq node) left) h.to left (more ++ node ∷ [])
  where
    moved : (b : Bool) (f : ℕ → ℕ) (xs ys : List ℕ) → cond b (map f xs) (map f ys) ≡ map f (cond b xs ys)
    moved true f xs ys = refl
    moved false f xs ys = refl

pub order-renamed : (p q : Pattern) (h : IsRenaming p q) → IsForward p → order_of q ≡ map h.to (order_of p)
order-renamed p q h forward =
    let n : ℕ = length p.nodes in
    (λ i. fold (walk (h.size i) q.nodes) [] (h.results i))
    ∙ fold-renamed p q h n (walk n p.nodes) (walk n q.nodes)
    (λ left s b w. walk-renamed p q h forward.nodes n n (omega arith) (omega arith) left s b w)
    (λ left s b w. (walk-walks n p.nodes forward.nodes n (omega arith) (omega arith) s b left w).walked)
    p.results [] (λ s i. All-contains (IsBefore n) p.results s forward.results (Contains-from_In p.results s i))
    (no_walk p.nodes)

-- ---- what is canonical

pub IsCanonical-placed : (p q : Pattern) → IsForward p → IsOrder p (order_of p) → IsPlaced p (order_of p) q
    → IsCanonical q
unfolding IsRenaming-placed
IsCanonical-placed p q forward o placed =
    let h = IsRenaming-placed p (order_of p) q o placed in
    order-renamed p q h forward ∙ places-rise (order_of p) o.walked.once
    ∙ ap below (length-permuted (length p.nodes) (order_of p) o.permuted ∙ sym h.size)

agree_in : (f g : ℕ → ℕ) (xs : List ℕ) → map f xs ≡ map g xs → (k : ℕ) → In xs k → f k ≡ g k
agree_in f g [] e k i = absurd i
agree_in f g (x ∷ xs) e k (inl same) =
    ap f (sym same) ∙ heads (f x) (g x) (map f xs) (map g xs) e ∙ ap g same
agree_in f g (x ∷ xs) e k (inr i) = agree_in f g xs (tails (f x) (g x) (map f xs) (map g xs) e) k i

-- two canonical renamings of a pattern have the same numbers
same_numbers : (p q r : Pattern) (h : IsRenaming p q) (k : IsRenaming p r) → IsForward p → IsOrder p (order_of p)
    → IsCanonical q → IsCanonical r → (a : ℕ) → a < length p.nodes → k.to a ≡ h.to a
same_numbers p q r h k forward o cq cr a l =
    agree_in k.to h.to (order_of p)
    (sym (order-renamed p r k forward) ∙ cr ∙ ap below (k.size ∙ sym h.size) ∙ sym cq ∙ order-renamed p q h forward)
    a (o.all a l)

sources-agree : (f g : ℕ → ℕ) (ss : List Src) → ((a r : ℕ) → In ss (Out a r) → f a ≡ g a)
    → renamed_sources f ss ≡ renamed_sources g ss
sources-agree f g [] same = refl
sources-agree f g (Input k ∷ ss) same = λ i. Input k ∷ sources-agree f g ss (λ a r j. same a r (inr j)) i
sources-agree f g (Out a r ∷ ss) same = λ i.
    Out (same a r (inl refl) i) r ∷ sources-agree f g ss (λ b q j. same b q (inr j)) i

pub same_by_places : {A : Type 0} (xs ys : List A) → length xs ≡ length ys
    → ((k : ℕ) → k < length xs → slice_get xs k ≡ slice_get ys k) → xs ≡ ys
same_by_places [] [] e same = refl
same_by_places [] (y ∷ ys) e same = absurd (omega (arith, e))
same_by_places (x ∷ xs) [] e same = absurd (omega (arith, e))
same_by_places (x ∷ xs) (y ∷ ys) e same =
    let first : x ≡ y = same_Some x y (same 0 (omega arith)) in
    let rest : xs ≡ ys = same_by_places xs ys (omega (arith, e)) (λ k l. same (suc k) (omega (arith, l))) in
    λ i. first i ∷ rest i

pub only_one : (p q r : Pattern) → IsRenaming p q → IsRenaming p r → IsForward p → IsOrder p (order_of p)
    → IsCanonical q → IsCanonical r → r ≡ q
only_one p q r h k forward o cq cr =
    let same = same_numbers p q r h k forward o cq cr in
    let results : r.results ≡ q.results =
    k.results
    ∙ sources-agree k.to h.to p.results
    (λ a q' i. same a (All-contains (IsBefore (length p.nodes)) p.results (Out a q') forward.results
    (Contains-from_In p.results (Out a q') i)))
    ∙ sym h.results in
    let nodes : r.nodes ≡ q.nodes = same_by_places r.nodes q.nodes (k.size ∙ sym h.size) at in
    λ i. record { nodes = nodes i; results = results i }
  where
    at : (i : ℕ) → i < length r.nodes → slice_get r.nodes i ≡ slice_get q.nodes i
    at i l =
        let same = same_numbers p q r h k forward o cq cr in
        let inside : i < length p.nodes = subst (λ n. i < n) k.size l in
        let j : ℕ = h.from i in
        let there : j < length p.nodes = h.from_within i inside in
        let node = some_at p.nodes j there in
        let m : Node = node.0 in
        let args : renamed_sources k.to m.args ≡ renamed_sources h.to m.args =
        sources-agree k.to h.to m.args
        (λ a s c. let before : a < j = args-before p.nodes forward.nodes j (Out a s)
        (subst (λ o. In (args_of o) (Out a s)) (sym node.1) c) in
        same a (omega (arith, before, there))) in
        ap (slice_get r.nodes) (sym (same j there ∙ h.forth i inside)) ∙ k.nodes j m node.1
        ∙ (λ t. Some (record m { args = args t })) ∙ sym (h.nodes j m node.1)
        ∙ ap (slice_get q.nodes) (h.forth i inside)
