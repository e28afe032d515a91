-- What may be named after some nodes: the sources of a sort are all that have it, and they rise by source number.
use Rattle.std.proofs.Common.{◌≡◌, ℕ, zero, suc, ◌+◌, ◌*◌, ◌<◌, ◌≤◌, Bool, true, List, [], ◌∷◌, length, map}
use Rattle.std.proofs.Common.{Option, Some, None, refl, sym, ap, ◌∙◌, inl, inr, arith, subst, slice_get}
use Rattle.std.specs.Prelude.{option_and_then, nat_lt}
use Rattle.std.specs.List.{range_with_len}
use Rattle.std.proofs.lemmas.Bool.{false≢true, eq-eqb}
use Rattle.std.proofs.lemmas.Option.{slice_get_within}
use Rattle.bv_terms.specs.declared.value.Sort.{Sort}
use Rattle.bv_terms.specs.declared.value.Sort.TheVariants as sort
use Rattle.bv_terms.specs.WellSorted.{sort_of}
use Rattle.bv_terms.proofs.SignatureLemmas.{same_sort-true}
use Rattle.isel_spec.specs.File.{File, Operation, Goal}
use Rattle.list_lemmas.proofs.Members.{In, In-append_cases, In-append_left, In-append_right, In-map, In_of_map}
use Rattle.list_lemmas.proofs.Members.{In-filter, In_of_filter, In_of_range, In-range}
use Rattle.list_lemmas.proofs.Options.{bind-first, cond-some}
use Rattle.list_lemmas.proofs.Orders.{IsOrdered, IsOrdered-append, IsOrdered-filter, IsOrdered-map, IsOrdered-range}
use Rattle.list_lemmas.proofs.Orders.{IsOrdered-within, nat_cmp-less}
use Rattle.pattern_core.specs.declared.pattern.Src.{Src}
use Rattle.pattern_core.specs.declared.pattern.Src.TheVariants.{Input, Out}
use Rattle.pattern_core.specs.declared.pattern.Node.{Node}
use Rattle.pattern_core.specs.Pattern.{operation_sort, source_sort}
use Rattle.pattern_core.specs.Order.{source_number, source_cmp}
use Rattle.plain_search.specs.Patterns.{result_count, outs_of, sources, is_sort, sources_of}
use Rattle.plain_search.proofs.OrderingLemmas.{Lower}
use Rattle.bv_terms.specs.Sorts.{same_sort}

-- each operation of a file has at most three results
abbrev pub HasFewResults : File → Type 0
HasFewResults f = (k : ℕ) (o : Operation) → slice_get f.ops k ≡ Some o → length o.results ≤ 3

-- ---- their order

few_counted : (o : Option Operation) → ((p : Operation) → o ≡ Some p → length p.results ≤ 3) → result_count o ≤ 3
few_counted None few = omega arith
few_counted (Some o) few = few o refl

-- by source number
abbrev IsNumbered : Src → Src → Type 0
IsNumbered s t = source_number s < source_number t

-- the number of a result of node k
number_of_out : (k count : ℕ) (x : Src) → count ≤ 3 → In (map (Out k) (range_with_len 0 count)) x
    → (4 + 3 * k ≤ source_number x) × (source_number x < 4 + 3 * (k + 1))
number_of_out k count x few i =
    let r = In_of_map (Out k) (range_with_len 0 count) x i in
    let within = In_of_range 0 count r.0 r.1 in
    let number : 4 + 3 * k + r.0 ≡ source_number x = ap source_number r.2 in
    (omega (arith, number), omega (arith, number, within.1, few))

number_of_outs : (f : File) → HasFewResults f → (k : ℕ) (ns : List Node) (x : Src) → In (outs_of f k ns) x
    → 4 + 3 * k ≤ source_number x
number_of_outs f few k [] x i = absurd i
number_of_outs f few k (n ∷ ns) x i =
    let count : ℕ = result_count (slice_get f.ops n.op) in
    elim (In-append_cases (map (Out k) (range_with_len 0 count)) (outs_of f (k + 1) ns) x i) [
      | inl a ↦ (number_of_out k count x (few_counted (slice_get f.ops n.op) (few n.op)) a).0
      | inr b ↦ (let later = number_of_outs f few (k + 1) ns x b in omega (arith, later))
    ]

IsOrdered-outs : (f : File) → HasFewResults f → (k : ℕ) (ns : List Node) → IsOrdered IsNumbered (outs_of f k ns)
IsOrdered-outs f few k [] = tt
IsOrdered-outs f few k (n ∷ ns) =
    let count : ℕ = result_count (slice_get f.ops n.op) in
    IsOrdered-append IsNumbered (map (Out k) (range_with_len 0 count)) (outs_of f (k + 1) ns)
    (IsOrdered-map (λ (x y : ℕ). x < y) IsNumbered (Out k) (λ a b l. omega (arith, l)) (range_with_len 0 count)
    (IsOrdered-range 0 count))
    (IsOrdered-outs f few (k + 1) ns)
    (λ x y i j. let here = number_of_out k count x (few_counted (slice_get f.ops n.op) (few n.op)) i in
    let later = number_of_outs f few (k + 1) ns y j in
    omega (arith, here.1, later))

IsOrdered-sources : (f : File) (g : Goal) (nodes : List Node) → length g.args ≤ 4 → HasFewResults f
    → IsOrdered IsNumbered (sources f g nodes)
IsOrdered-sources f g nodes four few =
    IsOrdered-append IsNumbered (map Input (range_with_len 0 (length g.args))) (outs_of f 0 nodes)
    (IsOrdered-map (λ (x y : ℕ). x < y) IsNumbered Input (λ a b l. l) (range_with_len 0 (length g.args))
    (IsOrdered-range 0 (length g.args)))
    (IsOrdered-outs f few 0 nodes)
    (λ x y i j. let r = In_of_map Input (range_with_len 0 (length g.args)) x i in
    let within = In_of_range 0 (length g.args) r.0 r.1 in
    let number : r.0 ≡ source_number x = ap source_number r.2 in
    let later = number_of_outs f few 0 nodes y j in
    omega (arith, number, within.1, four, later))

pub IsOrdered-sources_of : (f : File) (g : Goal) (nodes : List Node) (s : Option Sort) → length g.args ≤ 4
    → HasFewResults f → IsOrdered (Lower source_cmp) (sources_of f g nodes s)
IsOrdered-sources_of f g nodes s four few =
    IsOrdered-within IsNumbered (Lower source_cmp) (sources_of f g nodes s)
    (λ x y i j l. nat_cmp-less (source_number x) (source_number y) l)
    (IsOrdered-filter IsNumbered (λ (x : Src). is_sort s (source_sort f g nodes (length nodes) x)) (sources f g nodes)
    (IsOrdered-sources f g nodes four few))

-- ---- which they are

same_sort_itself : (s : Sort) → same_sort s s ≡ true
same_sort_itself sort.Bool = refl
same_sort_itself (sort.Bits w) = eq-eqb w w refl
same_sort_itself sort.Mem = refl

sort_is : (s t : Option Sort) → is_sort s t ≡ true → t ≡ s
sort_is None t h = absurd (false≢true h)
sort_is (Some s) None h = absurd (false≢true h)
sort_is (Some s) (Some t) h = ap Some (sym (same_sort-true s t h))

pub In_of_sources_of : (f : File) (g : Goal) (nodes : List Node) (s : Option Sort) (x : Src)
    → In (sources_of f g nodes s) x → source_sort f g nodes (length nodes) x ≡ s
In_of_sources_of f g nodes s x i =
    let test : Src → Bool = λ x. is_sort s (source_sort f g nodes (length nodes) x) in
    let r = In_of_filter test (sources f g nodes) x i in
    sort_is s (source_sort f g nodes (length nodes) x) r.1

-- a result that has a sort is one of the results
result_within : (f : File) (o : Option Operation) (r : ℕ) (s : Sort) → operation_sort f o r ≡ Some s
    → r < result_count o
result_within f None r s h = absurd (cc)
result_within f (Some o) r s h =
    let there = bind-first (sort_of f.pointer) (slice_get o.results r) s h in
    slice_get_within o.results r there.0 there.1

In-outs : (f : File) (k : ℕ) (ns : List Node) (node r : ℕ) (s : Sort)
    → operation_sort f (option_and_then (λ (n : Node). slice_get f.ops n.op) (slice_get ns node)) r ≡ Some s
    → In (outs_of f k ns) (Out (k + node) r)
In-outs f k [] node r s h = absurd (cc)
In-outs f k (n ∷ ns) zero r s h =
    let count : ℕ = result_count (slice_get f.ops n.op) in
    let within : r < count = result_within f (slice_get f.ops n.op) r s h in
    let same : k ≡ k + 0 = omega arith in
    In-append_left (map (Out k) (range_with_len 0 count)) (outs_of f (k + 1) ns) (Out (k + 0) r)
    (subst (λ m. In (map (Out k) (range_with_len 0 count)) (Out m r)) same
    (In-map (Out k) (range_with_len 0 count) r (In-range 0 count r (omega arith) (omega (arith, within)))))
In-outs f k (n ∷ ns) (suc node) r s h =
    let count : ℕ = result_count (slice_get f.ops n.op) in
    let later : (k + 1) + node ≡ k + suc node = omega arith in
    In-append_right (map (Out k) (range_with_len 0 count)) (outs_of f (k + 1) ns) (Out (k + suc node) r)
    (subst (λ m. In (outs_of f (k + 1) ns) (Out m r)) later (In-outs f (k + 1) ns node r s h))

In-sources : (f : File) (g : Goal) (nodes : List Node) (s : Sort) (x : Src)
    → source_sort f g nodes (length nodes) x ≡ Some s → In (sources f g nodes) x
In-sources f g nodes s (Input i) h =
    let within : i < length g.args = slice_get_within g.args i s h in
    In-append_left (map Input (range_with_len 0 (length g.args))) (outs_of f 0 nodes) (Input i)
    (In-map Input (range_with_len 0 (length g.args)) i
    (In-range 0 (length g.args) i (omega arith) (omega (arith, within))))
In-sources f g nodes s (Out node r) h =
    let op : Option Operation = option_and_then (λ (n : Node). slice_get f.ops n.op) (slice_get nodes node) in
    let sorted : operation_sort f op r ≡ Some s =
    cond-some (nat_lt node (length nodes)) (operation_sort f op r) s h in
    let same : 0 + node ≡ node = omega arith in
    In-append_right (map Input (range_with_len 0 (length g.args))) (outs_of f 0 nodes) (Out node r)
    (subst (λ m. In (outs_of f 0 nodes) (Out m r)) same (In-outs f 0 nodes node r s sorted))

pub In-sources_of : (f : File) (g : Goal) (nodes : List Node) (s : Sort) (x : Src)
    → source_sort f g nodes (length nodes) x ≡ Some s → In (sources_of f g nodes (Some s)) x
In-sources_of f g nodes s x h =
    let test : Src → Bool = λ x. is_sort (Some s) (source_sort f g nodes (length nodes) x) in
    In-filter test (sources f g nodes) x (In-sources f g nodes s x h)
    (ap (is_sort (Some s)) h ∙ same_sort_itself s)
