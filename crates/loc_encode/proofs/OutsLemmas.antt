-- The results of a pattern's nodes by place, and the sorts of sources along the lines.
use Rattle.std.proofs.Common.{◌≡◌, ℕ, zero, suc, ◌+◌, ◌<◌, ◌≤◌, Bool, true, false, List, [], ◌∷◌, ◌++◌}
use Rattle.std.proofs.Common.{Option, Some, None, refl, sym, ap, ◌∙◌, subst, arith, slice_get, unwrap_or, length}
use Rattle.std.proofs.Common.{map, cond, inl, inr, length-append}
use Rattle.std.specs.Prelude.{nat_lt, nat_le, option_and_then, if◌then◌else◌}
use Rattle.std.proofs.lemmas.Bool.{ltb-true}
use Rattle.std.proofs.lemmas.Option.{same_Some, none-some}
use Rattle.bv_terms.specs.declared.value.Sort.{Sort}
use Rattle.bv_terms.specs.declared.value.Value.{Value}
use Rattle.bv_terms.specs.declared.value.Value.TheVariants as val
use Rattle.bv_terms.specs.Term.{Term}
use Rattle.bv_terms.specs.WellSorted.{sort_of}
use Rattle.isel_spec.specs.File.{File, Goal, Operation}
use Rattle.list_lemmas.proofs.Bools.{lt-true}
use Rattle.list_lemmas.proofs.Lookups.{slice_get-append_left, slice_get-at_end}
use Rattle.list_lemmas.proofs.Members.{In, Contains-from_In}
use Rattle.list_lemmas.proofs.Options.{bind_some}
use Rattle.pattern_core.specs.Claim.{Claim, IsPatternOf}
use Rattle.pattern_core.specs.declared.pattern.Node.{Node}
use Rattle.pattern_core.specs.declared.pattern.Pattern.{Pattern}
use Rattle.pattern_core.specs.declared.pattern.Src.{Src}
use Rattle.pattern_core.specs.declared.pattern.Src.TheVariants.{Input, Out}
use Rattle.pattern_core.specs.Order.{put, multiset}
use Rattle.pattern_core.specs.Pattern.{source_sort, operation_sort, AreFitting}
use Rattle.pattern_core.specs.Rule.{source_value, op_results, outs_from}
use Rattle.pattern_core.specs.Walk.{IsBefore}
use Rattle.loc_encode.specs.Slots.{IsOperationOf}

-- ---- results by place

outs-front : (f : File) (inputs : List Value) (outs : List (List Value)) (nodes : List Node) (j : ℕ) → j < length outs
    → slice_get (outs_from f inputs outs nodes) j ≡ slice_get outs j
outs-front f inputs outs [] j l = refl
outs-front f inputs outs (n ∷ ns) j l =
    let results : List Value = op_results (slice_get f.ops n.op) n.attrs (map (source_value inputs outs) n.args) in
    outs-front f inputs (outs ++ results ∷ []) ns j (omega (arith, l, length-append outs (results ∷ [])))
    ∙ slice_get-append_left outs (results ∷ []) j l

-- the values of sources that name earlier nodes alone
same-value : (inputs : List Value) (outs more : List (List Value))
    → ((j : ℕ) → j < length outs → slice_get more j ≡ slice_get outs j) → (source : Src)
    → IsBefore (length outs) source → source_value inputs outs source ≡ source_value inputs more source
same-value inputs outs more same (Input k) h = refl
same-value inputs outs more same (Out node result) h =
    ap (λ (o : Option (List Value)). unwrap_or (slice_get (unwrap_or o []) result) (val.Bool false))
    (sym (same node h))

same-values : (inputs : List Value) (outs more : List (List Value))
    → ((j : ℕ) → j < length outs → slice_get more j ≡ slice_get outs j) → (xs : List Src)
    → ((x : Src) → In xs x → IsBefore (length outs) x)
    → map (source_value inputs outs) xs ≡ map (source_value inputs more) xs
same-values inputs outs more same [] h = refl
same-values inputs outs more same (x ∷ xs) h =
    λ i. same-value inputs outs more same x (h x (inl refl)) i
    ∷ same-values inputs outs more same xs (λ y j. h y (inr j)) i

outs-later : (f : File) (inputs : List Value) (outs : List (List Value)) (nodes : List Node) (k : ℕ) (n : Node)
    → slice_get nodes k ≡ Some n → ((x : Src) → In n.args x → IsBefore (length outs + k) x)
    → slice_get (outs_from f inputs outs nodes) (length outs + k)
    ≡ Some (op_results (slice_get f.ops n.op) n.attrs
    (map (source_value inputs (outs_from f inputs outs nodes)) n.args))
outs-later f inputs outs [] k n at h = absurd (none-some n at)
outs-later f inputs outs (m ∷ ns) zero n at h =
    let same : m ≡ n = same_Some m n at in
    let results : List Value = op_results (slice_get f.ops m.op) m.attrs (map (source_value inputs outs) m.args) in
    let all : List (List Value) = outs_from f inputs outs (m ∷ ns) in
    let here : length outs + 0 ≡ length outs = omega arith in
    let before : (x : Src) → In m.args x → IsBefore (length outs) x =
    λ x i. subst (λ b. IsBefore b x) here (h x (subst (λ (y : Node). In y.args x) same i)) in
    ap (slice_get all) here
    ∙ outs-front f inputs (outs ++ results ∷ []) ns (length outs)
    (omega (arith, length-append outs (results ∷ [])))
    ∙ slice_get-at_end outs results [] (length outs) refl
    ∙ ap (λ vs. Some (op_results (slice_get f.ops m.op) m.attrs vs))
    (same-values inputs outs all (λ j l. outs-front f inputs outs (m ∷ ns) j l) m.args before)
    ∙ ap (λ (y : Node). Some (op_results (slice_get f.ops y.op) y.attrs (map (source_value inputs all) y.args))) same
outs-later f inputs outs (m ∷ ns) (suc k) n at h =
    let results : List Value = op_results (slice_get f.ops m.op) m.attrs (map (source_value inputs outs) m.args) in
    let all : List (List Value) = outs_from f inputs outs (m ∷ ns) in
    let long : length (outs ++ results ∷ []) ≡ length outs + 1 = length-append outs (results ∷ []) in
    let place : length outs + suc k ≡ length (outs ++ results ∷ []) + k = omega (arith, long) in
    ap (slice_get all) place
    ∙ outs-later f inputs (outs ++ results ∷ []) ns k n at (λ x i. subst (λ b. IsBefore b x) place (h x i))

-- ---- sources of a well-formed pattern

-- a source that has a sort names an earlier node
pub before-from_sort : (f : File) (g : Goal) (nodes : List Node) (k : ℕ) (source : Src) (s : Sort)
    → source_sort f g nodes k source ≡ Some s → IsBefore k source
before-from_sort f g nodes k (Input i) s e = tt
before-from_sort f g nodes k (Out node result) s e = by (nat_lt node k) refl e
  where
    by : (b : Bool) → nat_lt node k ≡ b
        → (if b
        then operation_sort f (option_and_then (λ (n : Node). slice_get f.ops n.op) (slice_get nodes node)) result
        else None)
        ≡ Some s → node < k
    by true test e = ltb-true node k test
    by false test e = absurd (none-some s e)

-- it has that sort at each later line too
pub sort-later : (f : File) (g : Goal) (nodes : List Node) (k m : ℕ) (source : Src) (s : Sort) → k ≤ m
    → source_sort f g nodes k source ≡ Some s → source_sort f g nodes m source ≡ Some s
sort-later f g nodes k m (Input i) s l e = e
sort-later f g nodes k m (Out node result) s l e =
    let before : node < k = before-from_sort f g nodes k (Out node result) s e in
    let o : Option Sort =
    operation_sort f (option_and_then (λ (n : Node). slice_get f.ops n.op) (slice_get nodes node)) result in
    ap (λ b. if b then o else None) (lt-true node m (omega arith))
    ∙ sym (ap (λ b. if b then o else None) (lt-true node k before)) ∙ e

-- the sort of a node's result, whatever the line
pub sort-of_node : (f : File) (g : Goal) (nodes : List Node) (k node result : ℕ) (s : Sort)
    → source_sort f g nodes k (Out node result) ≡ Some s
    → operation_sort f (option_and_then (λ (n : Node). slice_get f.ops n.op) (slice_get nodes node)) result ≡ Some s
sort-of_node f g nodes k node result s e =
    let o : Option Sort =
    operation_sort f (option_and_then (λ (n : Node). slice_get f.ops n.op) (slice_get nodes node)) result in
    sym (ap (λ b. if b then o else None)
    (lt-true node k (before-from_sort f g nodes k (Out node result) s e))) ∙ e

pub sort-from_node : (f : File) (g : Goal) (nodes : List Node) (k node result : ℕ) (s : Sort) → node < k
    → operation_sort f (option_and_then (λ (n : Node). slice_get f.ops n.op) (slice_get nodes node)) result ≡ Some s
    → source_sort f g nodes k (Out node result) ≡ Some s
sort-from_node f g nodes k node result s l e =
    let o : Option Sort =
    operation_sort f (option_and_then (λ (n : Node). slice_get f.ops n.op) (slice_get nodes node)) result in
    ap (λ b. if b then o else None) (lt-true node k l) ∙ e

-- what has a sort is a result of an operation
pub record IsResultOf (f : File) (nodes : List Node) (node result : ℕ) (s : Sort) : Type 0 where
  pub n : Node
  pub at : slice_get nodes node ≡ Some n
  pub operation : Operation
  pub there : slice_get f.ops n.op ≡ Some operation
  pub term : Term
  pub of_result : slice_get operation.results result ≡ Some term
  pub sorted : sort_of f.pointer term ≡ Some s

operation-some : (f : File) (o : Option Operation) (result : ℕ) (s : Sort) → operation_sort f o result ≡ Some s
    → (p : Operation) × (o ≡ Some p) × ((t : Term) × (slice_get p.results result ≡ Some t)
    × (sort_of f.pointer t ≡ Some s))
operation-some f None result s e = absurd (none-some s e)
operation-some f (Some p) result s e = (p, refl, bind_some (slice_get p.results result) (sort_of f.pointer) s e)

pub result-of : (f : File) (g : Goal) (nodes : List Node) (k node result : ℕ) (s : Sort)
    → source_sort f g nodes k (Out node result) ≡ Some s → IsResultOf f nodes node result s
result-of f g nodes k node result s e =
    let o = operation-some f (option_and_then (λ (n : Node). slice_get f.ops n.op) (slice_get nodes node)) result s
    (sort-of_node f g nodes k node result s e) in
    let n = bind_some (slice_get nodes node) (λ (n : Node). slice_get f.ops n.op) o.0 o.1 in
    record {
      n = n.0;
      at = n.1;
      operation = o.0;
      there = n.2;
      term = o.2.0;
      of_result = o.2.1;
      sorted = o.2.2;
    }

-- ---- the nodes of a pattern of a claim

put-itself : (x : ℕ) (xs : List ℕ) → In (put x xs) x
put-itself x [] = inl refl
put-itself x (y ∷ ys) =
    elim (nat_le x y) as (λ b. In (cond b (x ∷ y ∷ ys) (y ∷ put x ys)) x) [
      | true ↦ inl refl
      | false ↦ inr (put-itself x ys)
    ]

put-others : (x : ℕ) (xs : List ℕ) (z : ℕ) → In xs z → In (put x xs) z
put-others x [] z h = absurd h
put-others x (y ∷ ys) z h =
    elim (nat_le x y) as (λ b. In (cond b (x ∷ y ∷ ys) (y ∷ put x ys)) z) [
      | true ↦ inr h
      | false ↦ elim h [ inl e ↦ inl e | inr l ↦ inr (put-others x ys z l) ]
    ]

in-multiset : (ns : List Node) (k : ℕ) (n : Node) → slice_get ns k ≡ Some n → In (multiset ns) n.op
in-multiset [] k n e = absurd (none-some n e)
in-multiset (m ∷ ns) zero n e =
    let same : m ≡ n = same_Some m n e in
    subst (λ (y : Node). In (put m.op (multiset ns)) y.op) same (put-itself m.op (multiset ns))
in-multiset (m ∷ ns) (suc k) n e = put-others m.op (multiset ns) n.op (in-multiset ns k n e)

-- each node is of an operation of the claim
pub node-operation : (c : Claim) (q : Pattern) → IsPatternOf c q → (k : ℕ) (n : Node) → slice_get q.nodes k ≡ Some n
    → (o : Operation) → slice_get c.file.ops n.op ≡ Some o → IsOperationOf c n.op o
node-operation c q is k n at o there =
    (Contains-from_In c.ops n.op (subst (λ (xs : List ℕ). In xs n.op) is.ops (in-multiset q.nodes k n at)), there)

-- sources of a node that fits
pub sources-sorted : (f : File) (g : Goal) (nodes : List Node) (k : ℕ) (xs : List Src) (ss : List Sort)
    → map (source_sort f g nodes k) xs ≡ map (λ (s : Sort). Some s) ss → (x : Src) → In xs x
    → (s : Sort) × (source_sort f g nodes k x ≡ Some s)
sources-sorted f g nodes k [] ss e x i = absurd i
sources-sorted f g nodes k (y ∷ xs) [] e x i = absurd (cc)
sources-sorted f g nodes k (y ∷ xs) (s ∷ ss) e x (inl same) =
    let first : source_sort f g nodes k y ≡ Some s = cc in
    (s, ap (source_sort f g nodes k) (sym same) ∙ first)
sources-sorted f g nodes k (y ∷ xs) (s ∷ ss) e x (inr i) =
    let rest : map (source_sort f g nodes k) xs ≡ map (λ (s : Sort). Some s) ss = cc in
    sources-sorted f g nodes k xs ss rest x i

-- the results of a node of a pattern
pub outs-at : (f : File) (g : Goal) (inputs : List Value) (nodes : List Node) → AreFitting f g nodes → (k : ℕ)
    (n : Node) → slice_get nodes k ≡ Some n
    → slice_get (outs_from f inputs [] nodes) k
    ≡ Some (op_results (slice_get f.ops n.op) n.attrs (map (source_value inputs (outs_from f inputs [] nodes)) n.args))
outs-at f g inputs nodes fits k n at =
    let fit = fits k n at in
    let here : 0 + k ≡ k = omega arith in
    ap (slice_get (outs_from f inputs [] nodes)) (sym here)
    ∙ outs-later f inputs [] nodes k n at
    (λ x i. let s = sources-sorted f g nodes k n.args fit.operation.args fit.args x i in
    subst (λ m. IsBefore m x) (sym here) (before-from_sort f g nodes k x s.0 s.1))
