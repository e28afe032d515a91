-- What a sieve takes of candidates, list after list, and which candidates a step of the search goes through.
use Rattle.std.proofs.Common.{◌≡◌, ℕ, zero, suc, ◌+◌, ◌<◌, ◌≤◌, List, [], ◌∷◌, ◌++◌, length, map, take, get_or, refl}
use Rattle.std.proofs.Common.{sym, ap, ◌∙◌, subst, inl, inr, arith, All, Some, None, slice_get, Option, Contains, Bool}
use Rattle.std.proofs.Common.{true, false, if◌then◌else◌, sum_by}
use Rattle.std.specs.Prelude.{IsSome, IsTrue, ◌-◌, nat_lt, nat_le, option_and_then}
use Rattle.std.specs.List.{flat_map}
use Rattle.std.proofs.lemmas.Bool.{ltb-true, leb-true, and_parts, false≢true}
use Rattle.std.proofs.lemmas.Grind.{flat_map-append}
use Rattle.std.proofs.lemmas.List.{take_more, take_all, map_more, length-map}
use Rattle.std.proofs.lemmas.List.Folds.{flat_map-map}
use Rattle.std.proofs.lemmas.List.Sums.{sum_by-cons}
use Rattle.std.proofs.lemmas.List.Elements.{All-nil, All-cons, All-contains, All-contains_itself, All-weaker}
use Rattle.bv_terms.specs.declared.value.Sort.{Sort}
use Rattle.bv_terms.specs.Term.{Term}
use Rattle.bv_terms.specs.WellSorted.{sort_of}
use Rattle.isel_spec.specs.declared.spec.Spec.{Spec}
use Rattle.isel_spec.specs.File.{File, Goal, Operation, goal}
use Rattle.isel_spec.specs.Spec.{file}
use Rattle.list_lemmas.proofs.Lists.{Each, append-nothing}
use Rattle.list_lemmas.proofs.Lookups.{some_at}
use Rattle.list_lemmas.proofs.Members.{In, In-from_Contains, Contains-from_In}
use Rattle.multiset_rank.specs.Multisets.{never_falls}
use Rattle.pattern_core.specs.declared.pattern.Src.{Src}
use Rattle.pattern_core.specs.declared.pattern.Src.TheVariants.{Input, Out}
use Rattle.pattern_core.specs.declared.pattern.Node.{Node}
use Rattle.pattern_core.specs.declared.pattern.Pattern.{Pattern}
use Rattle.pattern_core.specs.Pattern.{operation_sort, source_sort, IsWellFormed}
use Rattle.pattern_core.specs.Walk.{IsBefore, IsForward}
use Rattle.pattern_core.proofs.TotalLemmas.{IsLimited}
use Rattle.plain_search.proofs.CandidateLemmas.{kept-are-patterns}
use Rattle.plain_search.specs.Patterns.{choices, numbers, sources_of, nodes_after, node_lists, patterns_of}
use Rattle.plain_search.specs.Patterns.{different, without, candidates, AreKept, ArePatterns}
use Rattle.plain_search.specs.Sieve.{Taken, IsHanded, IsSifted, Sifts, candidates_after, candidates_with}
use Rattle.plain_search.specs.Sieve.{candidates_over}
use Rattle.plain_search.proofs.TakenLemmas.{NeverFalls, In_of_different, In_of_without}

-- ---- what is kept and taken of one list and then of another

pub AreKept-append : {A : Type 0} (Keep : A → Type 0) (xs ys ks ls : List A) → AreKept Keep xs ks
    → AreKept Keep ys ls → AreKept Keep (xs ++ ys) (ks ++ ls)
AreKept-append {A} Keep [] ys ks ls h k = subst (λ (zs : List A). AreKept Keep ys (zs ++ ls)) (sym h) k
AreKept-append {A} Keep (x ∷ xs) ys ks ls (inl h) k =
    inl (h.0, (h.1.0 ++ ls, ap (λ (zs : List A). zs ++ ls) h.1.1, AreKept-append Keep xs ys h.1.0 ls h.1.2 k))
AreKept-append Keep (x ∷ xs) ys ks ls (inr h) k = inr (h.0, AreKept-append Keep xs ys ks ls h.1 k)

pub Taken-append : {S : Type 0} (takes : S → Pattern → S → Type 0) (a b c : S) (ps qs : List Pattern)
    → Taken takes a ps b → Taken takes b qs c → Taken takes a (ps ++ qs) c
Taken-append {S} takes a b c [] qs h k = subst (λ (s : S). Taken takes s qs c) (sym h) k
Taken-append takes a b c (p ∷ ps) qs h k = (h.0, h.1, Taken-append takes h.0 b c ps qs h.2 k)

-- the pattern of these nodes and results
abbrev pub with_results : List Node → List Src → Pattern
with_results nodes results = record { nodes = nodes; results = results }

-- ---- what is sifted

sifted-append : {S : Type 0} (takes : S → Pattern → S → Type 0) (f : File) (g : Goal) (a b c : S)
    (ps qs : List Pattern) → IsSifted takes f g a ps b → IsSifted takes f g b qs c → IsSifted takes f g a (ps ++ qs) c
sifted-append takes f g a b c ps qs h k = record {
  taken = h.taken ++ k.taken;
  kept = AreKept-append (IsHanded f g) ps qs h.taken k.taken h.kept k.kept;
  steps = Taken-append takes a b c h.taken k.taken h.steps k.steps;
}

-- the pattern is taken
pub sifted-handed : {S : Type 0} (takes : S → Pattern → S → Type 0) (f : File) (g : Goal) (a b : S) (p : Pattern)
    → IsHanded f g p → takes a p b → IsSifted takes f g a (p ∷ []) b
sifted-handed takes f g a b p h t =
    record { taken = p ∷ []; kept = inl (h, ([], refl, refl)); steps = (b, t, refl) }

-- of a list that is gone through, the candidates of one more
pub sifts-more : {S X : Type 0} (takes : S → Pattern → S → Type 0) (f : File) (place : ℕ) (a b c : S)
    (F : Goal → X → List Pattern) (xs : List X) (i : ℕ) (d x : X) → i < length xs → x ≡ get_or xs i d
    → Sifts takes f place a (λ g. flat_map (F g) (take i xs)) b → Sifts takes f place b (λ g. F g x) c
    → Sifts takes f place a (λ g. flat_map (F g) (take (i + 1) xs)) c
sifts-more {S} {X} takes f place a b c F xs i d x l at h k g there =
    let more : take (i + 1) xs ≡ take i xs ++ x ∷ [] =
    take_more xs i d l ∙ ap (λ (y : X). take i xs ++ y ∷ []) (sym at) in
    let all : flat_map (F g) (take (i + 1) xs) ≡ flat_map (F g) (take i xs) ++ F g x =
    ap (flat_map (F g)) more ∙ flat_map-append (F g) (take i xs) (x ∷ [])
    ∙ ap (λ (ps : List Pattern). flat_map (F g) (take i xs) ++ ps) (append-nothing (F g x)) in
    subst (λ (ps : List Pattern). IsSifted takes f g a ps c) (sym all)
    (sifted-append takes f g a b c (flat_map (F g) (take i xs)) (F g x) (h g there) (k g there))

pub sifts-one_more : {S X : Type 0} (takes : S → Pattern → S → Type 0) (f : File) (place : ℕ) (a b c : S)
    (h : X → Pattern) (xs : List X) (i : ℕ) (x : X) (p : Pattern) → i < length xs → x ≡ get_or xs i x → p ≡ h x
    → Sifts takes f place a (λ _. map h (take i xs)) b → Sifts takes f place b (λ _. p ∷ []) c
    → Sifts takes f place a (λ _. map h (take (i + 1) xs)) c
sifts-one_more {S} {X} takes f place a b c h xs i x p l at is before last g there =
    let more : map h (take (i + 1) xs) ≡ map h (take i xs) ++ p ∷ [] =
    map_more h xs i x l ∙ ap (λ (q : Pattern). map h (take i xs) ++ q ∷ []) (sym (is ∙ ap h at)) in
    subst (λ (ps : List Pattern). IsSifted takes f g a ps c) (sym more)
    (sifted-append takes f g a b c (map h (take i xs)) (p ∷ []) (before g there) (last g there))

-- and of all of it
pub sifts-all : {S X : Type 0} (takes : S → Pattern → S → Type 0) (f : File) (place : ℕ) (a b : S)
    (F : Goal → X → List Pattern) (xs : List X) (i : ℕ) → length xs ≤ i
    → Sifts takes f place a (λ g. flat_map (F g) (take i xs)) b → Sifts takes f place a (λ g. flat_map (F g) xs) b
sifts-all {S} {X} takes f place a b F xs i l h g there =
    subst (λ (ys : List X). IsSifted takes f g a (flat_map (F g) ys) b) (take_all i xs l) (h g there)

-- the candidates by another name
pub sifts-same : {S : Type 0} (takes : S → Pattern → S → Type 0) (f : File) (place : ℕ) (a b : S)
    (F G : Goal → List Pattern) → ((g : Goal) → slice_get f.goals place ≡ Some g → F g ≡ G g)
    → Sifts takes f place a F b → Sifts takes f place a G b
sifts-same takes f place a b F G same h g there =
    subst (λ (ps : List Pattern). IsSifted takes f g a ps b) (same g there) (h g there)

-- ---- the candidates of each step

-- where no operation is left, those of the nodes
pub after-none : (f : File) (g : Goal) (n : ℕ) (nodes : List Node) (ops : List ℕ) → n ≡ 0
    → patterns_of f g nodes ≡ candidates_after f g n nodes ops
unfolding node_lists
after-none f g zero nodes ops e = sym (append-nothing (patterns_of f g nodes))
after-none f g (suc n) nodes ops e = absurd (omega (arith, e))

flat_map-flat_map : {A B C : Type 0} (h : B → List C) (k : A → List B) (xs : List A)
    → flat_map h (flat_map k xs) ≡ flat_map (λ x. flat_map h (k x)) xs
flat_map-flat_map h k [] = refl
flat_map-flat_map {A} {B} {C} h k (x ∷ xs) =
    flat_map-append h (k x) (flat_map k xs)
    ∙ ap (λ (zs : List C). flat_map h (k x) ++ zs) (flat_map-flat_map h k xs)

flat_map-same : {A B : Type 0} (h k : A → List B) → ((x : A) → h x ≡ k x) → (xs : List A)
    → flat_map h xs ≡ flat_map k xs
flat_map-same h k same [] = refl
flat_map-same h k same (x ∷ xs) =
    let rest = flat_map-same h k same xs in
    λ i. same x i ++ rest i

-- else those with each of the different operations next
pub after-some : (f : File) (g : Goal) (n : ℕ) (nodes : List Node) (ops : List ℕ)
    → flat_map (λ op. candidates_with f g n nodes op (without op ops)) (different ops)
    ≡ candidates_after f g (suc n) nodes ops
unfolding node_lists
after-some f g n nodes ops =
    sym (flat_map-flat_map (patterns_of f g)
    (λ op. flat_map (λ node. node_lists f g n (nodes ++ node ∷ []) (without op ops))
    (nodes_after f g nodes op (slice_get f.ops op))) (different ops)
    ∙ flat_map-same
    (λ op. flat_map (patterns_of f g) (flat_map (λ node. node_lists f g n (nodes ++ node ∷ []) (without op ops))
    (nodes_after f g nodes op (slice_get f.ops op))))
    (λ op. candidates_with f g n nodes op (without op ops))
    (λ op. flat_map-flat_map (patterns_of f g) (λ node. node_lists f g n (nodes ++ node ∷ []) (without op ops))
    (nodes_after f g nodes op (slice_get f.ops op))) (different ops))

-- the same for the number of operations that the code counts down
pub after-count : (f : File) (g : Goal) (n : ℕ) (nodes : List Node) (ops firsts : List ℕ) → 0 < n
    → firsts ≡ different ops
    → flat_map (λ op. candidates_with f g (n - 1) nodes op (without op ops)) firsts
    ≡ candidates_after f g n nodes ops
after-count f g n nodes ops firsts some e =
    let next : suc (n - 1) ≡ n = omega (arith, some) in
    ap (flat_map (λ op. candidates_with f g (n - 1) nodes op (without op ops))) e ∙ after-some f g (n - 1) nodes ops
    ∙ ap (λ m. candidates_after f g m nodes ops) next

-- the patterns of nodes, by their choices of results
pub patterns-are : (f : File) (g : Goal) (nodes ns ms : List Node) (xs : List (List Src)) → ns ≡ nodes → ms ≡ nodes
    → xs ≡ choices (map (λ (t : Term). sources_of f g ms (sort_of f.pointer t)) g.results)
    → map (with_results ns) xs ≡ patterns_of f g nodes
patterns-are f g nodes ns ms xs n m x =
    (λ i. map (with_results (n i)) (x i))
    ∙ ap (λ (ks : List Node). map (with_results nodes)
    (choices (map (λ (t : Term). sources_of f g ks (sort_of f.pointer t)) g.results))) m

-- of an operation that is there, those with each of the choices of attributes, and of arguments
pub with-choices : (f : File) (g : Goal) (n : ℕ) (nodes : List Node) (op : ℕ) (left : List ℕ) (o : Operation)
    (argss : List (List Src)) (attrss : List (List ℕ)) → slice_get f.ops op ≡ Some o
    → argss ≡ choices (map (λ s. sources_of f g nodes (Some s)) o.args) → attrss ≡ choices (map numbers o.attrs)
    → flat_map (candidates_over f g n nodes op left argss) attrss ≡ candidates_with f g n nodes op left
with-choices f g n nodes op left o argss attrss there args attrs =
    let after : Node → List Pattern = λ node. candidates_after f g n (nodes ++ node ∷ []) left in
    let of : List (List Src) → List ℕ → List Node =
    λ xs attrs. map (λ args. record { op = op; attrs = attrs; args = args }) xs in
    let by_choices : flat_map after (flat_map (of argss) attrss) ≡ candidates_with f g n nodes op left =
    (λ i. flat_map after (flat_map (of (args i)) (attrs i)))
    ∙ ap (λ (x : Option Operation). flat_map after (nodes_after f g nodes op x)) (sym there) in
    sym (flat_map-flat_map after (of argss) attrss
    ∙ flat_map-same (λ attrs. flat_map after (of argss attrs)) (candidates_over f g n nodes op left argss)
    (λ attrs. flat_map-map after (λ args. record { op = op; attrs = attrs; args = args }) argss) attrss)
    ∙ by_choices

-- ---- what holds of all operations of a multiset

pub positive : (n : ℕ) → (n ≡ 0 → ⊥) → 0 < n
positive zero e = absurd (e refl)
positive (suc n) e = omega arith

pub All-different : (P : ℕ → Type 0) (xs : List ℕ) → All P xs → All P (different xs)
All-different P xs h =
    All-weaker (Contains (different xs)) P
    (λ x c. All-contains P xs x h (Contains-from_In xs x (In_of_different xs x (In-from_Contains (different xs) x c))))
    (different xs) (All-contains_itself (different xs))

pub All-without : (P : ℕ → Type 0) (x : ℕ) (xs : List ℕ) → All P xs → All P (without x xs)
All-without P x xs h =
    All-weaker (Contains (without x xs)) P
    (λ z c. All-contains P xs z h (Contains-from_In xs z (In_of_without x xs z (In-from_Contains (without x xs) z c))))
    (without x xs) (All-contains_itself (without x xs))

-- where numbers are few together, each is
pub All-few : (F : ℕ → ℕ) (n : ℕ) (xs : List ℕ) → sum_by F xs < n → All (λ x. F x < n) xs
All-few F n [] h = All-nil (λ x. F x < n)
All-few F n (x ∷ xs) h =
    let parts : F x + sum_by F xs < n = subst (λ m. m < n) (sum_by-cons F x xs) h in
    All-cons (λ x. F x < n) x xs (omega (arith, parts)) (All-few F n xs (omega (arith, parts)))

pub NeverFalls-from_test : (xs : List ℕ) → IsTrue (never_falls xs) → NeverFalls xs
NeverFalls-from_test [] h = tt
NeverFalls-from_test (x ∷ []) h = (λ z i. absurd i, tt)
NeverFalls-from_test (x ∷ (y ∷ ys)) h =
    let both = and_parts (nat_le x y) (never_falls (y ∷ ys)) h in
    let rest : NeverFalls (y ∷ ys) = NeverFalls-from_test (y ∷ ys) both.1 in
    (least x y ys (leb-true x y both.0) rest, rest)
  where
    least : (x y : ℕ) (ys : List ℕ) → x ≤ y → NeverFalls (y ∷ ys) → (z : ℕ) → In (y ∷ ys) z → x ≤ z
    least x y ys l h z (inl e) = omega (arith, l, e)
    least x y ys l h z (inr i) = let m : y ≤ z = h.0 z i in omega (arith, l, m)

-- ---- a well-formed pattern is over earlier nodes

pub goal-exists : (s : Spec) (k : ℕ) → k < length s.goals → (g : Goal) × (slice_get (file s).goals k ≡ Some g)
goal-exists s k l = some_at (file s).goals k (subst (λ n. k < n) (sym (length-map s.goals (goal s.terms))) l)

before_sorted : (f : File) (g : Goal) (nodes : List Node) (k : ℕ) (x : Src) (t : Sort)
    → source_sort f g nodes k x ≡ Some t → IsBefore k x
before_sorted f g nodes k (Input i) t e = tt
before_sorted f g nodes k (Out node result) t e =
    ltb-true node k (taken (nat_lt node k)
    (operation_sort f (option_and_then (λ (n : Node). slice_get f.ops n.op) (slice_get nodes node)) result) e)
  where
    taken : (b : Bool) (o : Option Sort) → (if b then o else None) ≡ Some t → b ≡ true
    taken true o e = refl
    taken false o e = absurd (cc)

before_all : (f : File) (g : Goal) (nodes : List Node) (k : ℕ) (xs : List Src) (os : List (Option Sort))
    → map (source_sort f g nodes k) xs ≡ os → Each (λ (o : Option Sort). IsSome o) os → All (IsBefore k) xs
before_all f g nodes k [] os e all = All-nil (IsBefore k)
before_all f g nodes k (x ∷ xs) [] e all = absurd (cc)
before_all f g nodes k (x ∷ xs) (None ∷ os) e all = absurd (false≢true all.0)
before_all f g nodes k (x ∷ xs) (Some t ∷ os) e all =
    let first : source_sort f g nodes k x ≡ Some t = cc in
    let rest : map (source_sort f g nodes k) xs ≡ os = cc in
    All-cons (IsBefore k) x xs (before_sorted f g nodes k x t first) (before_all f g nodes k xs os rest all.1)

all_some : (ss : List Sort) → Each (λ (o : Option Sort). IsSome o) (map (λ s. Some s) ss)
all_some [] = tt
all_some (s ∷ ss) = (refl, all_some ss)

some_of : (p : ℕ) (ts : List Term) → Each (λ (t : Term). IsSome (sort_of p t)) ts
    → Each (λ (o : Option Sort). IsSome o) (map (sort_of p) ts)
some_of p [] all = tt
some_of p (t ∷ ts) all = (all.0, some_of p ts all.1)

pub forward-from_well_formed : (f : File) (g : Goal) (p : Pattern) → IsLimited f g → IsWellFormed f g p → IsForward p
forward-from_well_formed f g p limits wf = record {
  nodes = λ k n e.
      let fit = wf.nodes k n e in
      before_all f g p.nodes k n.args (map (λ s. Some s) fit.operation.args) fit.args (all_some fit.operation.args);
  results =
      before_all f g p.nodes (length p.nodes) p.results (map (sort_of f.pointer) g.results) wf.results
      (some_of f.pointer g.results limits.sorted);
}

-- ---- all patterns of a multiset

pub patterns-from_sifted : {S : Type 0} (takes : S → Pattern → S → Type 0) (f : File) (g : Goal) (a b : S) (n : ℕ)
    (nodes : List Node) (ops multi : List ℕ) → IsLimited f g → IsTrue (never_falls multi) → n ≡ length ops
    → nodes ≡ [] → ops ≡ multi → IsSifted takes f g a (candidates_after f g n nodes ops) b
    → (ps : List Pattern) × ArePatterns f g multi ps × Taken takes a ps b
patterns-from_sifted takes f g a b n nodes ops multi limits rises size none is h =
    let same : candidates_after f g n nodes ops ≡ candidates f g multi =
    λ i. candidates_after f g ((size ∙ ap (λ (xs : List ℕ). length xs) is) i) (none i) (is i) in (
      h.taken,
      kept-are-patterns f g multi h.taken limits (NeverFalls-from_test multi rises)
          (subst (λ (ps : List Pattern). AreKept (IsHanded f g) ps h.taken) same h.kept),
      h.steps,
    )
