-- The walk adds nodes at the end, so that once they are out of turn they stay so.
use Rattle.std.proofs.Common.{◌≡◌, ℕ, zero, suc, ◌+◌, ◌<◌, ◌≤◌, Bool, true, false, cond, List, [], ◌∷◌, ◌++◌, length}
use Rattle.std.proofs.Common.{take, drop, get_or, refl, sym, ap, ◌∙◌, subst, arith, append_assoc, length-append, ◌↔◌}
use Rattle.std.proofs.Common.{◌⊎◌, inl, inr, slice_get, All, Some, None}
use Rattle.std.specs.Prelude.{nat_eq, fold, ◌||◌}
use Rattle.std.specs.List.{list_any}
use Rattle.std.proofs.lemmas.Bool.{cases_lt, eqb-true, eq-eqb}
use Rattle.std.proofs.lemmas.Bool.Decides.{nat_tests}
use Rattle.std.proofs.lemmas.List.{append-nil, take-append-le, take_all, same_from_push, at_drop_more, at_drop_all}
use Rattle.std.proofs.Math.Seq.{take-append_seam}
use Rattle.std.proofs.lemmas.List.Folds.{list_any-append}
use Rattle.std.proofs.lemmas.List.Elements.{All-get_or}
use Rattle.std.proofs.lemmas.Option.{slice_get-get_or}
use Rattle.pattern_core.specs.declared.pattern.Src.{Src}
use Rattle.pattern_core.specs.declared.pattern.Src.TheVariants.{Input, Out}
use Rattle.pattern_core.specs.declared.pattern.Node.{Node}
use Rattle.pattern_core.specs.declared.pattern.Pattern.{Pattern}
use Rattle.pattern_core.specs.Pattern.{args_of}
use Rattle.pattern_core.specs.Walk.{walk, below, IsBefore, AreForward, IsCounted, IsForward, IsCanonical}

-- ---- the numbers below a count

pub length-below : (n : ℕ) → length (below n) ≡ n
length-below zero = refl
length-below (suc n) = let e = length-below n in omega (arith, length-append (below n) (n ∷ []))

take-below : (k n : ℕ) → k ≤ n → take k (below n) ≡ below k
take-below zero n h = refl
take-below (suc k) zero h = absurd (omega (arith, h))
take-below (suc k) (suc n) h = by (cases_lt k n) (λ l. take-below (suc k) n l)
  where
    by : (k < n) ⊎ (n ≤ k) → (suc k ≤ n → take (suc k) (below n) ≡ below (suc k))
        → take (suc k) (below n ++ n ∷ []) ≡ below (suc k)
    by (inl l) ih = let e = length-below n in take-append-le (suc k) (below n) (n ∷ []) (omega arith) ∙ ih (omega arith)
    by (inr l) ih =
        let same : n ≡ k = omega arith in
        let e = length-below (suc n) in
        take_all (suc k) (below n ++ n ∷ []) (omega arith) ∙ ap (λ m. below (suc m)) same

-- a front of the numbers below a count is the numbers below its length
front_of_below : (n : ℕ) (xs ys : List ℕ) → xs ++ ys ≡ below n → xs ≡ below (length xs)
front_of_below n xs ys e =
    let sizes = ap length e in
    let size = length-below n in
    sym (take-append_seam xs ys) ∙ ap (take (length xs)) e
    ∙ take-below (length xs) n (omega (arith, length-append xs ys))

same_count : (m n : ℕ) → below m ≡ below n → m ≡ n
same_count m n e = sym (length-below m) ∙ ap length e ∙ length-below n

or-true : (b : Bool) → (b || (true || false)) ≡ true
or-true true = refl
or-true false = refl

any_below : (n node : ℕ) → node < n → list_any (nat_eq node) (below n) ≡ true
any_below zero node h = absurd (omega (arith, h))
any_below (suc n) node h =
    list_any-append (nat_eq node) (below n) (n ∷ []) ∙ by (cases_lt node n) (λ l. any_below n node l)
  where
    by : (node < n) ⊎ (n ≤ node) → (node < n → list_any (nat_eq node) (below n) ≡ true)
        → (list_any (nat_eq node) (below n) || (nat_eq node n || false)) ≡ true
    by (inl l) ih = ap (λ b. b || (nat_eq node n || false)) (ih l)
    by (inr l) ih = let t : nat_eq node n ≡ true =
        eq-eqb node n (omega arith) in
        ap (λ b. list_any (nat_eq node) (below n) || (b || false)) t ∙ or-true (list_any (nat_eq node) (below n))

none_below : (n node : ℕ) → n ≤ node → list_any (nat_eq node) (below n) ≡ false
none_below zero node h = refl
none_below (suc n) node h =
    let t : nat_eq node n ≡ false = grind (arith, nat_tests) in
    list_any-append (nat_eq node) (below n) (n ∷ []) ∙ (λ i. none_below n node (omega arith) i || (t i || false))

next-below : (n : ℕ) → below n ++ n ∷ [] ≡ below (n + 1)
next-below n = let e : suc n ≡ n + 1 = omega arith in ap below e

-- ---- the walk

abbrev Extends : List ℕ → List ℕ → Type 0
Extends left more = (extra : List ℕ) × (more ≡ left ++ extra)

Extends-itself : (left : List ℕ) → Extends left left
Extends-itself left = ([], sym (append-nil left))

Extends-trans : (a b c : List ℕ) → Extends a b → Extends b c → Extends a c
Extends-trans a b c h k = (h.0 ++ k.0, k.1 ∙ ap (λ x. x ++ k.0) h.1 ∙ append_assoc a h.0 k.0)

fold-extends : (f : List ℕ → Src → List ℕ) → ((left : List ℕ) (s : Src) → Extends left (f left s))
    → (ss : List Src) (left : List ℕ) → Extends left (fold f left ss)
fold-extends f h [] left = Extends-itself left
fold-extends f h (s ∷ ss) left =
    Extends-trans left (f left s) (fold f (f left s) ss) (h left s) (fold-extends f h ss (f left s))

Extends-cond : (b : Bool) (left more : List ℕ) (node : ℕ) → Extends left more
    → Extends left (cond b left (more ++ node ∷ []))
Extends-cond true left more node h = Extends-itself left
Extends-cond false left more node h = Extends-trans left more (more ++ node ∷ []) h (node ∷ [], refl)

walk-extends : (deep : ℕ) (nodes : List Node) (left : List ℕ) (s : Src) → Extends left (walk deep nodes left s)
unfolding walk
walk-extends zero nodes left (Input k) = Extends-itself left
walk-extends (suc deep) nodes left (Input k) = Extends-itself left
walk-extends zero nodes left (Out node r) = Extends-itself left
walk-extends (suc deep) nodes left (Out node r) =
    Extends-cond (list_any (nat_eq node) left) left (fold (walk deep nodes) left (args_of (slice_get nodes node))) node
    (fold-extends (walk deep nodes) (λ l s. walk-extends deep nodes l s) (args_of (slice_get nodes node)) left)

stays_out : (left more : List ℕ) → Extends left more → IsCounted left None → IsCounted more None
stays_out left more h none n e = none (length left) (front_of_below n left h.0 (sym h.1 ∙ e))

walk-input : (deep : ℕ) (nodes : List Node) (left : List ℕ) (k : ℕ) → walk deep nodes left (Input k) ≡ left
unfolding walk
walk-input zero nodes left k = refl
walk-input (suc deep) nodes left k = refl

walk-seen : (deep : ℕ) (nodes : List Node) (count node r : ℕ) → node < deep → node < count
    → walk deep nodes (below count) (Out node r) ≡ below count
unfolding walk
walk-seen zero nodes count node r l h = absurd (omega (arith, l))
walk-seen (suc deep) nodes count node r l h =
    ap (λ b. cond b (below count) (fold (walk deep nodes) (below count) (args_of (slice_get nodes node)) ++ node ∷ []))
    (any_below count node h)

walk-new : (deep : ℕ) (nodes : List Node) (count node r : ℕ) → count ≤ node
    → walk (suc deep) nodes (below count) (Out node r) ≡ fold (walk deep nodes) (below count)
    (args_of (slice_get nodes node)) ++ node ∷ []
unfolding walk
walk-new deep nodes count node r h =
    ap (λ b. cond b (below count) (fold (walk deep nodes) (below count) (args_of (slice_get nodes node)) ++ node ∷ []))
    (none_below count node h)

pub IsBefore-more : (j k : ℕ) (s : Src) → j ≤ k → IsBefore j s → IsBefore k s
IsBefore-more j k (Input i) h b = tt
IsBefore-more j k (Out node r) h b = omega (arith, b)

-- ---- a walk from some sources, so far

-- each source names a node below the bound; the walk from those before the rest has left the nodes below a number
pub record HasWalked (nodes : List Node) (bound count left : ℕ) (sources rest : List Src) : Type 0 where
  pub within : left ≤ length nodes
  pub so_far : (deep : ℕ) → bound ≤ deep
      → fold (walk deep nodes) (below count) sources ≡ fold (walk deep nodes) (below left) rest

pub HasWalked-start : (nodes : List Node) (bound count : ℕ) (xs : List Src) → count ≤ length nodes
    → HasWalked nodes bound count count xs (drop 0 xs)
HasWalked-start nodes bound count xs h = record { within = h; so_far = λ deep l. refl }

pub HasWalked-more : (nodes : List Node) (bound count left more : ℕ) (xs : List Src) (i : ℕ) (d : Src)
    → HasWalked nodes bound count left xs (drop i xs) → i < length xs → All (IsBefore bound) xs
    → more ≤ length nodes → ((deep : ℕ) → IsBefore deep (get_or xs i d)
    → walk deep nodes (below left) (get_or xs i d) ≡ below more)
    → HasWalked nodes bound count more xs (drop (i + 1) xs)
HasWalked-more nodes bound count left more xs i d h l before within step = record {
  within = within;
  so_far = λ deep b.
      h.so_far deep b ∙ at_drop_more (fold (walk deep nodes) (below left)) xs i d l
      ∙ ap (λ start. fold (walk deep nodes) start (drop (i + 1) xs))
      (step deep (IsBefore-more bound deep (get_or xs i d) b (All-get_or (IsBefore bound) xs i d l before)));
}

pub HasWalked-fails : (nodes : List Node) (bound count left : ℕ) (xs : List Src) (i : ℕ) (d : Src)
    → HasWalked nodes bound count left xs (drop i xs) → i < length xs → All (IsBefore bound) xs
    → ((deep : ℕ) → IsBefore deep (get_or xs i d) → IsCounted (walk deep nodes (below left) (get_or xs i d)) None)
    → (deep : ℕ) → bound ≤ deep → IsCounted (fold (walk deep nodes) (below count) xs) None
HasWalked-fails nodes bound count left xs i d h l before step deep b =
    let f = walk deep nodes in
    let start : List ℕ = walk deep nodes (below left) (get_or xs i d) in
    let out : IsCounted start None =
    step deep (IsBefore-more bound deep (get_or xs i d) b (All-get_or (IsBefore bound) xs i d l before)) in
    let rest : IsCounted (fold (walk deep nodes) start (drop (i + 1) xs)) None =
    stays_out start (fold (walk deep nodes) start (drop (i + 1) xs))
    (fold-extends (walk deep nodes) (walk-extends deep nodes) (drop (i + 1) xs) start) out in
    subst (λ w. IsCounted w None) (sym (h.so_far deep b ∙ at_drop_more (fold (walk deep nodes) (below left)) xs i d l))
    rest

pub HasWalked-end : (nodes : List Node) (bound count left : ℕ) (xs : List Src) (i : ℕ)
    → HasWalked nodes bound count left xs (drop i xs) → length xs ≤ i → (deep : ℕ) → bound ≤ deep
    → fold (walk deep nodes) (below count) xs ≡ below left
HasWalked-end nodes bound count left xs i h l deep b =
    h.so_far deep b ∙ at_drop_all (fold (walk deep nodes) (below left)) xs i l

-- ---- a source of a node

-- a node that is entered, with its arguments
pub record IsEntered (nodes : List Node) (count node : ℕ) (source : Src) (args : List Src) : Type 0 where
  pub result : ℕ
  pub is : source ≡ Out node result
  pub fresh : count ≤ node
  pub within : node < length nodes
  pub args_are : args_of (slice_get nodes node) ≡ args
  pub before : All (IsBefore node) args

pub IsEntered-from : (nodes : List Node) (count node n r : ℕ) (source : Src) (args : List Src) (m : Node)
    → AreForward nodes → IsBefore (length nodes) source → source ≡ Out n r → node ≡ n → count ≤ node
    → m ≡ get_or nodes node m → args ≡ (get_or nodes node m).args → IsEntered nodes count node source args
IsEntered-from nodes count node n r source args m forward there is same fresh found as' =
    let out : source ≡ Out node r = is ∙ ap (λ k. Out k r) (sym same) in
    let within : node < length nodes = subst (IsBefore (length nodes)) out there in
    let at : slice_get nodes node ≡ Some (get_or nodes node m) = slice_get-get_or nodes node m within in
    record {
      result = r;
      is = out;
      fresh = fresh;
      within = within;
      args_are = ap args_of at ∙ sym as';
      before = subst (All (IsBefore node)) (sym as') (forward node (get_or nodes node m) at);
    }

pub counted-input : (nodes : List Node) (count k : ℕ) (source : Src) → source ≡ Input k → (deep : ℕ)
    → IsBefore deep source → walk deep nodes (below count) source ≡ below count
counted-input nodes count k source is deep b =
    ap (walk deep nodes (below count)) is ∙ walk-input deep nodes (below count) k

pub counted-seen : (nodes : List Node) (count node n r : ℕ) (source : Src) → source ≡ Out n r → node ≡ n → node < count
    → (deep : ℕ) → IsBefore deep source → walk deep nodes (below count) source ≡ below count
counted-seen nodes count node n r source is same l deep b =
    let before : n < deep = subst (IsBefore deep) is b in
    ap (walk deep nodes (below count)) is ∙ walk-seen deep nodes count n r before (omega arith)

-- the walk from a source whose node is entered, by that from the node's arguments
walk-entered : (nodes : List Node) (count node : ℕ) (source : Src) (args : List Src)
    → IsEntered nodes count node source args → (deep : ℕ) → IsBefore deep source
    → (d : ℕ) × (node ≤ d) × (walk deep nodes (below count) source ≡ fold (walk d nodes) (below count) args
    ++ node ∷ [])
walk-entered nodes count node source args e zero b = let no : node < 0 =
    subst (IsBefore zero) e.is b in absurd (omega (arith, no))
walk-entered nodes count node source args e (suc d) b =
    let before : node < suc d = subst (IsBefore (suc d)) e.is b in (
      d,
      omega arith,
      ap (walk (suc d) nodes (below count)) e.is ∙ walk-new d nodes count node e.result e.fresh
          ∙ ap (λ xs. fold (walk d nodes) (below count) xs ++ node ∷ []) e.args_are,
    )

pub counted-fails : (nodes : List Node) (count node : ℕ) (source : Src) (args : List Src)
    → IsEntered nodes count node source args
    → ((d : ℕ) → node ≤ d → IsCounted (fold (walk d nodes) (below count) args) None)
    → (deep : ℕ) → IsBefore deep source → IsCounted (walk deep nodes (below count) source) None
counted-fails nodes count node source args e out deep b =
    let w = walk-entered nodes count node source args e deep b in
    subst (λ x. IsCounted x None) (sym w.2)
    (stays_out (fold (walk w.0 nodes) (below count) args) (fold (walk w.0 nodes) (below count) args ++ node ∷ [])
    (node ∷ [], refl) (out w.0 w.1))

pub counted-out_of_turn : (nodes : List Node) (count node left : ℕ) (source : Src) (args : List Src)
    → IsEntered nodes count node source args
    → ((d : ℕ) → node ≤ d → fold (walk d nodes) (below count) args ≡ below left)
    → (left ≡ node → ⊥) → (deep : ℕ) → IsBefore deep source → IsCounted (walk deep nodes (below count) source) None
counted-out_of_turn nodes count node left source args e done differ deep b n is =
    let w = walk-entered nodes count node source args e deep b in
    let one : below left ++ node ∷ [] ≡ below n = ap (λ xs. xs ++ node ∷ []) (sym (done w.0 w.1)) ∙ sym w.2 ∙ is in
    let sizes = ap length one in
    let size = length-below left in
    let size_n = length-below n in
    let next : n ≡ suc left = omega (arith, length-append (below left) (node ∷ [])) in
    let two : below left ++ node ∷ [] ≡ below left ++ left ∷ [] = one ∙ ap below next in
    differ (sym ((same_from_push (below left) (below left) node left two).1))

pub counted-in_turn : (nodes : List Node) (count node left : ℕ) (source : Src) (args : List Src)
    → IsEntered nodes count node source args
    → ((d : ℕ) → node ≤ d → fold (walk d nodes) (below count) args ≡ below left)
    → left ≡ node → (deep : ℕ) → IsBefore deep source → walk deep nodes (below count) source ≡ below (left + 1)
counted-in_turn nodes count node left source args e done same deep b =
    let w = walk-entered nodes count node source args e deep b in
    w.2 ∙ (λ i. done w.0 w.1 i ++ sym same i ∷ []) ∙ next-below left

-- ---- a pattern

canonical-of : (p : Pattern) (nodes : List Node) (xs : List Src) → nodes ≡ p.nodes → xs ≡ p.results → IsCanonical p
    → fold (walk (length nodes) nodes) (below 0) xs ≡ below (length nodes)
canonical-of p nodes xs e f h =
    (λ i. fold (walk (length (e i)) (e i)) (below 0) (f i)) ∙ h ∙ (λ i. below (length (sym e i)))

canonical-from : (p : Pattern) (nodes : List Node) (xs : List Src) → nodes ≡ p.nodes → xs ≡ p.results
    → fold (walk (length nodes) nodes) (below 0) xs ≡ below (length nodes) → IsCanonical p
canonical-from p nodes xs e f h =
    (λ i. fold (walk (length (sym e i)) (sym e i)) (below 0) (sym f i)) ∙ h ∙ (λ i. below (length (e i)))

pub canonical-fails : (p : Pattern) (nodes : List Node) (xs : List Src) → nodes ≡ p.nodes → xs ≡ p.results
    → ((deep : ℕ) → length nodes ≤ deep → IsCounted (fold (walk deep nodes) (below 0) xs) None) → IsCanonical p → ⊥
canonical-fails p nodes xs e f out h = out (length nodes) (omega arith) (length nodes) (canonical-of p nodes xs e f h)

pub canonical-decides : (p : Pattern) (nodes : List Node) (xs : List Src) (left : ℕ) → nodes ≡ p.nodes → xs ≡ p.results
    → ((deep : ℕ) → length nodes ≤ deep → fold (walk deep nodes) (below 0) xs ≡ below left)
    → (nat_eq left (length nodes) ≡ true) ↔ IsCanonical p
canonical-decides p nodes xs left e f done =
    let ends = done (length nodes) (omega arith) in (
      λ t. canonical-from p nodes xs e f (ends ∙ ap below (eqb-true left (length nodes) t)),
      λ h. eq-eqb left (length nodes) (same_count left (length nodes) (sym ends ∙ canonical-of p nodes xs e f h)),
    )

pub before-results : (p : Pattern) (nodes : List Node) (xs : List Src) → nodes ≡ p.nodes → xs ≡ p.results → IsForward p
    → All (IsBefore (length nodes)) xs
before-results p nodes xs e f h =
    subst (λ (ns : List Node). All (IsBefore (length ns)) xs) (sym e)
    (subst (All (IsBefore (length p.nodes))) (sym f) h.results)

-- how deep the walk goes from a source
abbrev pub depth_of : Src → ℕ
depth_of (Input k) = 0
depth_of (Out node result) = suc node

pub depth_of-falls : (node : ℕ) (source s : Src) (r : ℕ) → source ≡ Out node r → IsBefore node s
    → depth_of s < depth_of source
depth_of-falls node source (Input k) r is b = let e = ap depth_of is in omega arith
depth_of-falls node source (Out n q) r is b = let e = ap depth_of is in omega (arith, b)
