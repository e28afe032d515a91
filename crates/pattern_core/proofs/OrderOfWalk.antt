-- What the walk leaves: each node once, after its arguments; from the results of a well-formed pattern, every node.
use Rattle.std.proofs.Common.{◌≡◌, ℕ, zero, suc, ◌+◌, ◌<◌, ◌≤◌, Bool, true, false, cond, List, [], ◌∷◌, ◌++◌, length}
use Rattle.std.proofs.Common.{drop, get_or, refl, sym, ap, ◌∙◌, subst, arith, ◌⊎◌, inl, inr, slice_get, Option, Some}
use Rattle.std.proofs.Common.{None}
use Rattle.std.proofs.Common.{All}
use Rattle.std.specs.Prelude.{nat_eq, fold}
use Rattle.std.specs.List.{list_any}
use Rattle.std.specs.List.Sorted.{IsPermutation}
use Rattle.std.proofs.lemmas.Bool.{false≢true}
use Rattle.std.proofs.lemmas.List.{at_drop_more, at_drop_all}
use Rattle.std.proofs.lemmas.List.Elements.{All-contains, All-get_or}
use Rattle.std.proofs.lemmas.Option.{slice_get_within}
use Rattle.pattern_core.specs.declared.pattern.Src.{Src}
use Rattle.pattern_core.specs.declared.pattern.Src.TheVariants.{Input, Out}
use Rattle.pattern_core.specs.declared.pattern.Node.{Node}
use Rattle.pattern_core.specs.declared.pattern.Pattern.{Pattern}
use Rattle.pattern_core.specs.Pattern.{args_of, IsUsed}
use Rattle.pattern_core.specs.Walk.{walk, below, IsBefore, AreForward, IsForward}
use Rattle.pattern_core.specs.Renaming.{place_of}
use Rattle.pattern_core.proofs.WalkLemmas.{IsBefore-more}
use Rattle.pattern_core.proofs.PlaceLemmas.{IsOnce, In-push_cases, IsOnce-push, In-from_any, any-from_In}
use Rattle.pattern_core.proofs.PlaceLemmas.{place_of-there}
use Rattle.pattern_core.proofs.PlaceLemmas.{place_of-front, place_of-new, below-permuted}
use Rattle.list_lemmas.proofs.Members.{In, In-append_left, In-append_right, In-from_Contains, Contains-from_In}

-- ---- a walk from some sources, so far

-- the walk from the rest, after what it has left so far, leaves what the walk from all the sources does
pub record HasLeft (nodes : List Node) (bound : ℕ) (start left : List ℕ) (sources rest : List Src) : Type 0 where
  pub so_far : (deep : ℕ) → bound ≤ deep → fold (walk deep nodes) left rest ≡ fold (walk deep nodes) start sources

pub HasLeft-start : (nodes : List Node) (bound : ℕ) (start : List ℕ) (xs : List Src)
    → HasLeft nodes bound start start xs (drop 0 xs)
HasLeft-start nodes bound start xs = record { so_far = λ deep l. refl }

pub HasLeft-more : (nodes : List Node) (bound : ℕ) (start left more : List ℕ) (xs : List Src) (i : ℕ) (d : Src)
    → HasLeft nodes bound start left xs (drop i xs) → i < length xs → All (IsBefore bound) xs
    → ((deep : ℕ) → IsBefore deep (get_or xs i d) → more ≡ walk deep nodes left (get_or xs i d))
    → HasLeft nodes bound start more xs (drop (i + 1) xs)
HasLeft-more nodes bound start left more xs i d h l before step = record {
  so_far = λ deep b.
      ap (λ first. fold (walk deep nodes) first (drop (i + 1) xs))
      (step deep (IsBefore-more bound deep (get_or xs i d) b (All-get_or (IsBefore bound) xs i d l before)))
      ∙ sym (at_drop_more (fold (walk deep nodes) left) xs i d l) ∙ h.so_far deep b;
}

pub HasLeft-end : (nodes : List Node) (bound : ℕ) (start left : List ℕ) (xs : List Src) (i : ℕ)
    → HasLeft nodes bound start left xs (drop i xs) → length xs ≤ i → (deep : ℕ) → bound ≤ deep
    → left ≡ fold (walk deep nodes) start xs
HasLeft-end nodes bound start left xs i h l deep b =
    sym (at_drop_all (fold (walk deep nodes) left) xs i l) ∙ h.so_far deep b

-- ---- what one node's walk leaves

input-leaves : (deep : ℕ) (nodes : List Node) (left : List ℕ) (k : ℕ) → walk deep nodes left (Input k) ≡ left
unfolding walk
input-leaves zero nodes left k = refl
input-leaves (suc deep) nodes left k = refl

pub left-input : (nodes : List Node) (left : List ℕ) (k : ℕ) (source : Src) → source ≡ Input k → (deep : ℕ)
    → left ≡ walk deep nodes left source
left-input nodes left k source is deep = sym (ap (walk deep nodes left) is ∙ input-leaves deep nodes left k)

left_before : (deep : ℕ) (nodes : List Node) (left : List ℕ) (node r : ℕ) → node < deep
    → list_any (nat_eq node) left ≡ true → walk deep nodes left (Out node r) ≡ left
unfolding walk
left_before zero nodes left node r l seen = absurd (omega (arith, l))
left_before (suc deep) nodes left node r l seen =
    ap (λ b. cond b left (fold (walk deep nodes) left (args_of (slice_get nodes node)) ++ node ∷ [])) seen

entered : (deep : ℕ) (nodes : List Node) (left : List ℕ) (node r : ℕ) → list_any (nat_eq node) left ≡ false
    → walk (suc deep) nodes left (Out node r)
    ≡ fold (walk deep nodes) left (args_of (slice_get nodes node)) ++ node ∷ []
unfolding walk
entered deep nodes left node r new =
    ap (λ b. cond b left (fold (walk deep nodes) left (args_of (slice_get nodes node)) ++ node ∷ [])) new

pub left-seen : (nodes : List Node) (left : List ℕ) (node r : ℕ) (source : Src) → source ≡ Out node r
    → list_any (nat_eq node) left ≡ true → (deep : ℕ) → IsBefore deep source → left ≡ walk deep nodes left source
left-seen nodes left node r source is seen deep b =
    sym (ap (walk deep nodes left) is ∙ left_before deep nodes left node r (subst (IsBefore deep) is b) seen)

pub left-new : (nodes : List Node) (left more : List ℕ) (node r : ℕ) (source : Src) (args : List Src)
    → source ≡ Out node r → list_any (nat_eq node) left ≡ false → args_of (slice_get nodes node) ≡ args
    → ((d : ℕ) → node ≤ d → more ≡ fold (walk d nodes) left args)
    → (deep : ℕ) → IsBefore deep source → more ++ node ∷ [] ≡ walk deep nodes left source
left-new nodes left more node r source args is new same done zero b =
    let fresh : node < zero = subst (IsBefore zero) is b in absurd (omega (arith, fresh))
left-new nodes left more node r source args is new same done (suc d) b =
    let before : node < suc d = subst (IsBefore (suc d)) is b in
    ap (λ xs. xs ++ node ∷ []) (done d (omega arith) ∙ ap (fold (walk d nodes) left) (sym same))
    ∙ sym (ap (walk (suc d) nodes left) is ∙ entered d nodes left node r new)

-- ---- each node once, after its arguments

pub record IsWalked (nodes : List Node) (left : List ℕ) : Type 0 where
  pub within : (k : ℕ) → In left k → k < length nodes
  pub once : IsOnce left
  pub over : (k a r : ℕ) → In left k → In (args_of (slice_get nodes k)) (Out a r)
      → In left a × (place_of left a < place_of left k)

pub no_walk : (nodes : List Node) → IsWalked nodes []
no_walk nodes = record { within = λ k i. absurd i; once = tt; over = λ k a r i. absurd i }

-- what the walk from sources before a bound adds to what it had left
pub record Walks (nodes : List Node) (bound : ℕ) (sources : List Src) (left more : List ℕ) : Type 0 where
  pub walked : IsWalked nodes more
  pub kept : (k : ℕ) → In left k → In more k
  pub named : (a r : ℕ) → In sources (Out a r) → In more a
  pub new : (k : ℕ) → In more k → In left k ⊎ (k < bound)

pub Walks-all : (nodes : List Node) (bound : ℕ) (f : List ℕ → Src → List ℕ)
    → ((left : List ℕ) (s : Src) → IsBefore bound s → IsWalked nodes left → Walks nodes bound (s ∷ []) left (f left s))
    → (ss : List Src) (left : List ℕ) → ((s : Src) → In ss s → IsBefore bound s) → IsWalked nodes left
    → Walks nodes bound ss left (fold f left ss)
Walks-all nodes bound f step [] left before h =
    record { walked = h; kept = λ k i. i; named = λ a r i. absurd i; new = λ k i. inl i }
Walks-all nodes bound f step (s ∷ ss) left before h =
    let one = step left s (before s (inl refl)) h in
    let rest = Walks-all nodes bound f step ss (f left s) (λ t i. before t (inr i)) one.walked in
    record {
      walked = rest.walked;
      kept = λ k i. rest.kept k (one.kept k i);
      named = λ a r i. elim i [ inl e ↦ rest.kept a (one.named a r (inl e)) | inr j ↦ rest.named a r j ];
      new = λ k i. elim (rest.new k i) [ inl j ↦ one.new k j | inr l ↦ inr l ];
    }

-- a node's arguments are before it
pub args-before : (nodes : List Node) → AreForward nodes → (node : ℕ) (s : Src)
    → In (args_of (slice_get nodes node)) s → IsBefore node s
args-before nodes forward node s = by (slice_get nodes node) refl
  where
    by : (o : Option Node) → slice_get nodes node ≡ o → In (args_of o) s → IsBefore node s
    by None e i = absurd i
    by (Some n) e i = All-contains (IsBefore node) n.args s (forward node n e) (Contains-from_In n.args s i)

pub args-there : (nodes : List Node) (node : ℕ) (s : Src) → In (args_of (slice_get nodes node)) s → node < length nodes
args-there nodes node s = by (slice_get nodes node) refl
  where
    by : (o : Option Node) → slice_get nodes node ≡ o → In (args_of o) s → node < length nodes
    by None e i = absurd i
    by (Some n) e i = slice_get_within nodes node n e

older : (nodes : List Node) (left : List ℕ) (node : ℕ) → IsWalked nodes left → (k a r : ℕ) → In left k
    → In (args_of (slice_get nodes k)) (Out a r)
    → In (left ++ node ∷ []) a × (place_of (left ++ node ∷ []) a < place_of (left ++ node ∷ []) k)
older nodes left node h k a r i arg =
    let o = h.over k a r i arg in
    let less : place_of left a < place_of left k = o.1 in
    let one = place_of-front left (node ∷ []) a o.0 in
    let two = place_of-front left (node ∷ []) k i in
    (In-append_left left (node ∷ []) a o.0, omega (arith, less, one, two))

newest : (nodes : List Node) (left : List ℕ) (node : ℕ) → (In left node → ⊥)
    → ((a r : ℕ) → In (args_of (slice_get nodes node)) (Out a r) → In left a) → (k a r : ℕ) → node ≡ k
    → In (args_of (slice_get nodes k)) (Out a r)
    → In (left ++ node ∷ []) a × (place_of (left ++ node ∷ []) a < place_of (left ++ node ∷ []) k)
newest nodes left node fresh args k a r same arg =
    let i : In left a = args a r (subst (λ j. In (args_of (slice_get nodes j)) (Out a r)) (sym same) arg) in
    let one = place_of-front left (node ∷ []) a i in
    let within = slice_get_within left (place_of left a) a (place_of-there left a i) in
    let two : place_of (left ++ node ∷ []) k ≡ length left =
    ap (place_of (left ++ node ∷ [])) (sym same) ∙ place_of-new left node fresh in
    (In-append_left left (node ∷ []) a i, omega (arith, one, within, two))

IsWalked-push : (nodes : List Node) (left : List ℕ) (node : ℕ) → IsWalked nodes left → node < length nodes
    → (In left node → ⊥) → ((a r : ℕ) → In (args_of (slice_get nodes node)) (Out a r) → In left a)
    → IsWalked nodes (left ++ node ∷ [])
IsWalked-push nodes left node h there fresh args = record {
  within = λ k i. elim (In-push_cases left node k i) [
    | inl j ↦ h.within k j
    | inr e ↦ subst (λ m. m < length nodes) e there
  ];
  once = IsOnce-push left node h.once fresh;
  over = λ k a r i arg. elim (In-push_cases left node k i) [
    | inl j ↦ older nodes left node h k a r j arg
    | inr e ↦ newest nodes left node fresh args k a r e arg
  ];
}

stays : (nodes : List Node) (bound : ℕ) (s : Src) (left : List ℕ) → IsWalked nodes left
    → ((a r : ℕ) → s ≡ Out a r → In left a) → Walks nodes bound (s ∷ []) left left
stays nodes bound s left h named = record {
  walked = h;
  kept = λ k i. i;
  named = λ a r i. elim i [ inl e ↦ named a r e | inr none ↦ absurd none ];
  new = λ k i. inl i;
}

goes : (nodes : List Node) (bound node r : ℕ) (left more : List ℕ) → node < bound → bound ≤ length nodes
    → list_any (nat_eq node) left ≡ false → Walks nodes node (args_of (slice_get nodes node)) left more
    → Walks nodes bound (Out node r ∷ []) left (more ++ node ∷ [])
goes nodes bound node r left more l m unseen w =
    let fresh : In more node → ⊥ = λ i. elim (w.new node i) [
      | inl j ↦ false≢true (sym unseen ∙ any-from_In node left j)
      | inr below_itself ↦ omega (arith, below_itself)
    ] in
    record {
      walked = IsWalked-push nodes more node w.walked (omega (arith, l, m)) fresh w.named;
      kept = λ k i. In-append_left more (node ∷ []) k (w.kept k i);
      named = λ a q i. elim i [
        | inl e ↦ (let same : node ≡ a = cc in In-append_right more (node ∷ []) a (inl same))
        | inr none ↦ absurd none
      ];
      new = λ k i. elim (In-push_cases more node k i) [
        | inl j ↦ elim (w.new k j) [ inl old ↦ inl old | inr less ↦ inr (omega (arith, less, l)) ]
        | inr e ↦ inr (omega (arith, e, l))
      ];
    }

either : (nodes : List Node) (bound node r : ℕ) (left more : List ℕ) → IsWalked nodes left → node < bound
    → bound ≤ length nodes → Walks nodes node (args_of (slice_get nodes node)) left more → (b : Bool)
    → list_any (nat_eq node) left ≡ b → Walks nodes bound (Out node r ∷ []) left (cond b left (more ++ node ∷ []))
either nodes bound node r left more h l m w true seen =
    stays nodes bound (Out node r) left h (λ a q e. let same : node ≡ a = cc in subst (In left) same
    (In-from_any node left seen))
either nodes bound node r left more h l m w false unseen = goes nodes bound node r left more l m unseen w

pub walk-walks : (deep : ℕ) (nodes : List Node) → AreForward nodes → (bound : ℕ) → bound ≤ deep → bound ≤ length nodes
    → (s : Src) → IsBefore bound s → (left : List ℕ) → IsWalked nodes left
    → Walks nodes bound (s ∷ []) left (walk deep nodes left s)
unfolding walk
walk-walks zero nodes forward bound d m (Input k) b left h = stays nodes bound (Input k) left h (λ a r e. absurd (cc))
walk-walks (suc deep) nodes forward bound d m (Input k) b left h =
    stays nodes bound (Input k) left h (λ a r e. absurd (cc))
walk-walks zero nodes forward bound d m (Out node r) b left h = absurd (omega (arith, b, d))
walk-walks (suc deep) nodes forward bound d m (Out node r) b left h =
    let args : List Src = args_of (slice_get nodes node) in
    let e : node ≤ deep = omega (arith, b, d) in
    let n : node ≤ length nodes = omega (arith, b, m) in
    let w = Walks-all nodes node (walk deep nodes)
    (λ more s c walked. walk-walks deep nodes forward node e n s c more walked) args left
    (λ s i. args-before nodes forward node s i) h in
    either nodes bound node r left (fold (walk deep nodes) left args) h b m w (list_any (nat_eq node) left) refl

-- ---- the walk of a pattern

-- the order in which the walk leaves the nodes of a pattern
abbrev pub order_of : Pattern → List ℕ
order_of p = fold (walk (length p.nodes) p.nodes) [] p.results

pub pattern-walks : (p : Pattern) → IsForward p → Walks p.nodes (length p.nodes) p.results [] (order_of p)
pattern-walks p h =
    let n : ℕ = length p.nodes in
    Walks-all p.nodes n (walk n p.nodes)
    (λ left s b walked. walk-walks n p.nodes h.nodes n (omega arith) (omega arith) s b left walked) p.results []
    (λ s i. All-contains (IsBefore n) p.results s h.results (Contains-from_In p.results s i)) (no_walk p.nodes)

every_node : (p : Pattern) → IsForward p → ((k : ℕ) → k < length p.nodes → IsUsed p k) → (more k : ℕ)
    → k < length p.nodes → length p.nodes ≤ k + more → In (order_of p) k
every_node p h used zero k l m = absurd (omega (arith, l, m))
every_node p h used (suc more) k l m =
    let w = pattern-walks p h in
    let u = used k l in
    elim u.1 [
      | inl named ↦ w.named k u.0 (In-from_Contains p.results (Out k u.0) named)
      | inr by_node ↦ over_it by_node.0 (In-from_Contains (args_of (slice_get p.nodes by_node.0)) (Out k u.0) by_node.1)
          (every_node p h used more by_node.0)
    ]
  where
    over_it : (j : ℕ) → In (args_of (slice_get p.nodes j)) (Out k (used k l).0)
        → (j < length p.nodes → length p.nodes ≤ j + more → In (order_of p) j) → In (order_of p) k
    over_it j arg later =
        let before : k < j = args-before p.nodes h.nodes j (Out k (used k l).0) arg in
        let there : j < length p.nodes = args-there p.nodes j (Out k (used k l).0) arg in
        let i : In (order_of p) j = later there (omega (arith, before, m)) in
        ((pattern-walks p h).walked.over j k (used k l).0 i arg).0

-- an order that names each node once, after its arguments, and none other
pub record IsOrder (p : Pattern) (order : List ℕ) : Type 0 where
  pub walked : IsWalked p.nodes order
  pub all : (k : ℕ) → k < length p.nodes → In order k
  pub permuted : IsPermutation (below (length p.nodes)) order

pub IsOrder-of_walk : (p : Pattern) → IsForward p → ((k : ℕ) → k < length p.nodes → IsUsed p k)
    → IsOrder p (order_of p)
IsOrder-of_walk p h used =
    let walked = (pattern-walks p h).walked in
    let all : (k : ℕ) → k < length p.nodes → In (order_of p) k =
    λ k l. every_node p h used (length p.nodes) k l (omega arith) in
    record {
      walked = walked;
      all = all;
      permuted = below-permuted (length p.nodes) (order_of p) walked.once walked.within all;
    }
