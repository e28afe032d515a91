-- Which sources a pattern may name, and how often it names one, counted as far as 2.
use Rattle.std.proofs.Common.{◌≡◌, ℕ, ◌+◌, ◌<◌, ◌≤◌, true, false, cond, List, [], ◌∷◌, ◌++◌, length, take, get_or}
use Rattle.std.proofs.Common.{Option, Some, None, refl, sym, ap, ◌∙◌, subst, arith, slice_get, min, Bool, inl, inr, ◌↔◌}
use Rattle.std.specs.Prelude.{nat_lt, option_and_then, count_by}
use Rattle.std.specs.List.{flat_map}
use Rattle.std.proofs.lemmas.Bool.{ltb-true}
use Rattle.std.proofs.lemmas.Grind.{flat_map-append}
use Rattle.std.proofs.lemmas.List.{length-map, append-nil, take_all, take_more}
use Rattle.std.proofs.lemmas.List.Sums.{sum_by-append, count_by_more_yes, count_by_more_no}
use Rattle.std.proofs.lemmas.Option.{slice_get_within}
use Rattle.bv_terms.specs.declared.op.TermId.{TermId}
use Rattle.bv_terms.specs.declared.value.Sort.{Sort}
use Rattle.bv_terms.specs.declared.value.Sort.TheVariants as sort
use Rattle.bv_terms.specs.WellSorted.{sort_of}
use Rattle.bv_terms.specs.Table.{terms_of, term_in}
use Rattle.isel_spec.specs.declared.spec.Spec.{Spec}
use Rattle.isel_spec.specs.File.{File, Operation, Goal, operation, goal}
use Rattle.isel_spec.specs.Spec.{file}
use Rattle.isel_spec.proofs.SpecLemmas.{IsSoundOp_at, IsSoundGoal_at}
use Rattle.pattern_core.specs.declared.pattern.Src.{Src}
use Rattle.pattern_core.specs.declared.pattern.Src.TheVariants.{Input, Out}
use Rattle.pattern_core.specs.declared.pattern.Node.{Node}
use Rattle.pattern_core.specs.declared.pattern.Pattern.{Pattern}
use Rattle.pattern_core.specs.Pattern.{operation_sort, source_sort, same_source, times_named, IsLinearAt}
use Rattle.list_lemmas.proofs.Bools.{true-or-false}
use Rattle.list_lemmas.proofs.Lookups.{mapped_at}
use Rattle.list_lemmas.proofs.Options.{bind-first as is_some, cond-some as in_then}

-- ---- which sources there are

-- a source that a goal of at most four arguments and nodes of at most three results have
abbrev pub IsSmall : Src → Type 0
IsSmall (Input k) = k < 4
IsSmall (Out node result) = result < 3

small_result : (f : File) (o : Option Operation) (result : ℕ) (t : Sort)
    → ((p : Operation) → o ≡ Some p → length p.results ≤ 3)
    → operation_sort f o result ≡ Some t → result < 3
small_result f None result t few e = absurd (cc)
small_result f (Some o) result t few e =
    let there = is_some (sort_of f.pointer) (slice_get o.results result) t e in
    let within = slice_get_within o.results result there.0 there.1 in
    let three = few o refl in
    omega (arith, within, three)

pub small_source : (f : File) (g : Goal) → length g.args ≤ 4
    → ((k : ℕ) (o : Operation) → slice_get f.ops k ≡ Some o → length o.results ≤ 3)
    → (nodes : List Node) (k : ℕ) (s : Src) (t : Sort) → source_sort f g nodes k s ≡ Some t → IsSmall s
small_source f g four three nodes k (Input i) t e =
    let within = slice_get_within g.args i t e in
    omega (arith, within, four)
small_source f g four three nodes k (Out node result) t e =
    let op = option_and_then (λ (n : Node). slice_get f.ops n.op) (slice_get nodes node) in
    small_result f op result t (λ p. few (slice_get nodes node) p)
    (in_then (nat_lt node k) (operation_sort f op result) t e)
  where
    few : (n : Option Node) (p : Operation) → option_and_then (λ (n : Node). slice_get f.ops n.op) n ≡ Some p
        → length p.results ≤ 3
    few None p e = absurd (cc)
    few (Some n) p e = three n.op p e

pub few_results : (s : Spec) (k : ℕ) (o : Operation) → slice_get (file s).ops k ≡ Some o → length o.results ≤ 3
few_results s k o e =
    let at = mapped_at (operation s.terms) s.ops k o e in
    let sound = IsSoundOp_at s k at.0 at.1 in
    let three = sound.most in
    subst (λ (p : Operation). length p.results ≤ 3) at.2
    (subst (λ n. n ≤ 3) (sym (length-map at.0.1.results (λ (a : TermId). term_in (terms_of s.terms) a.0))) three)

few_args : (s : Spec) (k : ℕ) (g : Goal) → slice_get (file s).goals k ≡ Some g → length g.args ≤ 4
few_args s k g e =
    let at = mapped_at (goal s.terms) s.goals k g e in
    let sound = IsSoundGoal_at s k at.0 at.1 in
    let four = sound.few in
    subst (λ (x : Goal). length x.args ≤ 4) at.2 (subst (λ n. n ≤ 4) (sym (length-map at.0.1.args (λ a. a.1))) four)

-- a result of a node is one of a node before
pub earlier_node : (f : File) (g : Goal) (nodes : List Node) (k node result : ℕ) (t : Sort)
    → source_sort f g nodes k (Out node result) ≡ Some t → node < k
earlier_node f g nodes k node result t e =
    let here =
    operation_sort f (option_and_then (λ (n : Node). slice_get f.ops n.op) (slice_get nodes node)) result in
    elim (true-or-false (nat_lt node k)) [
      | inl before ↦ ltb-true node k before
      | inr later ↦ (let none : None ≡ Some t = ap (λ b. cond b here None) (sym later) ∙ e in absurd (cc))
    ]

-- where the sources that there are are named once, if they are memories, all are
pub linear_everywhere : (s : Spec) (k : ℕ) (g : Goal) (p : Pattern) → slice_get (file s).goals k ≡ Some g
    → ((i : ℕ) → i < 4 → IsLinearAt (file s) g p (Input i))
    → ((n : ℕ) → n < length p.nodes → (r : ℕ) → r < 3 → IsLinearAt (file s) g p (Out n r))
    → (x : Src) → IsLinearAt (file s) g p x
linear_everywhere s k g p there inputs results (Input i) h =
    inputs i
    (small_source (file s) g (few_args s k g there) (few_results s) p.nodes (length p.nodes) (Input i) sort.Mem h) h
linear_everywhere s k g p there inputs results (Out n r) h =
    results n (earlier_node (file s) g p.nodes (length p.nodes) n r sort.Mem h) r
    (small_source (file s) g (few_args s k g there) (few_results s) p.nodes (length p.nodes) (Out n r) sort.Mem h) h

-- a source that is a memory is tested, and any other is not
pub linear_if_once : (f : File) (g : Goal) (p : Pattern) (s : Src) (nodes : List Node) (found : Option Sort) (b : Bool)
    → nodes ≡ p.nodes → found ≡ source_sort f g nodes (length nodes) s → found ≡ Some sort.Mem
    → (b ≡ true) ↔ (times_named p s ≡ 1) → (b ≡ true) ↔ IsLinearAt f g p s
linear_if_once f g p s nodes found b same is memory iff =
    let there : source_sort f g p.nodes (length p.nodes) s ≡ Some sort.Mem =
    subst (λ ns. source_sort f g ns (length ns) s ≡ Some sort.Mem) same (sym is ∙ memory) in
    (λ yes h. iff.0 yes, λ linear. iff.1 (linear there))

pub linear_elsewhere : (f : File) (g : Goal) (p : Pattern) (s : Src) (nodes : List Node) (found : Option Sort)
    → nodes ≡ p.nodes → found ≡ source_sort f g nodes (length nodes) s → (found ≡ Some sort.Mem → ⊥)
    → IsLinearAt f g p s
linear_elsewhere f g p s nodes found same is other h =
    absurd (other (is ∙ subst (λ ns. source_sort f g ns (length ns) s ≡ Some sort.Mem) (sym same) h))

-- ---- how often a source is named

pub count_more : (p : Src → Bool) (xs : List Src) (i : ℕ) (d : Src) (before times new : ℕ) (b : Bool) → i < length xs
    → b ≡ p (get_or xs i d) → times ≡ min (before + count_by p (take i xs)) 2 → new ≡ min (times + cond b 1 0) 2
    → new ≡ min (before + count_by p (take (i + 1) xs)) 2
count_more p xs i d before times new true l e h k = omega (arith, count_by_more_yes p xs i d l (sym e), h, k)
count_more p xs i d before times new false l e h k = omega (arith, count_by_more_no p xs i d l (sym e), h, k)

abbrev pub args_in : List Node → List Src
args_in nodes = flat_map (λ (n : Node). n.args) nodes

pub count_node : (p : Src → Bool) (nodes : List Node) (i : ℕ) (d : Node) (args : List Src) (times new : ℕ)
    → i < length nodes → args ≡ (get_or nodes i d).args → times ≡ min (count_by p (args_in (take i nodes))) 2
    → new ≡ min (times + count_by p args) 2 → new ≡ min (count_by p (args_in (take (i + 1) nodes))) 2
count_node p nodes i d args times new l e h k =
    let n : Node = get_or nodes i d in
    let grown : args_in (take (i + 1) nodes) ≡ args_in (take i nodes) ++ args =
    ap args_in (take_more nodes i d l) ∙ flat_map-append (λ (n : Node). n.args) (take i nodes) (n ∷ [])
    ∙ ap (λ xs. args_in (take i nodes) ++ xs) (append-nil n.args ∙ sym e) in
    let sum : count_by p (args_in (take (i + 1) nodes)) ≡ count_by p (args_in (take i nodes)) + count_by p args =
    ap (count_by p) grown ∙ sum_by-append (λ x. cond (p x) 1 0) (args_in (take i nodes)) args in
    omega (arith, sum, h, k)

pub count_all : (p : Pattern) (s : Src) (nodes : List Node) (xs : List Src) (i times result : ℕ) → nodes ≡ p.nodes
    → xs ≡ p.results → length nodes ≤ i → times ≡ min (count_by (same_source s) (args_in (take i nodes))) 2
    → result ≡ min (times + count_by (same_source s) xs) 2 → result ≡ min (times_named p s) 2
count_all p s nodes xs i times result e x l h k =
    let test : Src → Bool = same_source s in
    let whole : args_in (take i nodes) ≡ args_in p.nodes = ap args_in (take_all i nodes l ∙ e) in
    let sum : times_named p s ≡ count_by test (args_in (take i nodes)) + count_by test xs =
    sum_by-append (λ y. cond (test y) 1 0) (args_in p.nodes) p.results
    ∙ (λ j. count_by test (sym whole j) + count_by test (sym x j)) in
    omega (arith, sum, h, k)
