-- The values of a pattern's sources have their sorts.
use Rattle.std.proofs.Common.{◌≡◌, ℕ, zero, suc, ◌+◌, ◌^◌, ◌<◌, ◌≤◌, true, false, cond, inl, inr, List, [], ◌∷◌, ◌++◌}
use Rattle.std.proofs.Common.{length, map, drop, get_or, min, Option, Some, None, refl, sym, ap, ◌∙◌, subst, arith}
use Rattle.std.proofs.Common.{slice_get, append_assoc}
use Rattle.std.specs.Prelude.{nat_lt, unwrap_or, option_map, option_and_then}
use Rattle.std.proofs.lemmas.Bool.{cases_order}
use Rattle.std.proofs.lemmas.Bool.Decides.{nat_tests}
use Rattle.std.proofs.lemmas.List.{append-nil, length-map, length_push, at_drop_all, drop_more}
use Rattle.std.proofs.lemmas.Option.{slice_get-map, slice_get_within, get_or_from_slice_get, same_Some}
use Rattle.bv_terms.specs.declared.op.TermId.{TermId}
use Rattle.bv_terms.specs.declared.value.Sort.{Sort}
use Rattle.bv_terms.specs.declared.value.Sort.TheVariants as sort
use Rattle.bv_terms.specs.declared.value.Value.{Value}
use Rattle.bv_terms.specs.declared.value.Value.TheVariants as val
use Rattle.bv_terms.specs.Term.{Term, value}
use Rattle.bv_terms.specs.Sorts.{HasSort, HaveSorts}
use Rattle.bv_terms.specs.WellSorted.{sort_of, InputsFit}
use Rattle.std.proofs.Common.{All, Contains}
use Rattle.std.proofs.lemmas.List.Elements.{All-head, All-tail}
use Rattle.bv_terms.specs.Eval.{values_in, IsValued}
use Rattle.bv_terms.specs.Table.{Table, terms_of, term_in, term_at}
use Rattle.bv_terms.proofs.TermLemmas.{HaveSorts-at, value-sorted}
use Rattle.isel_spec.specs.declared.definitions.OpDef.{OpDef}
use Rattle.isel_spec.specs.declared.spec.Spec.{Spec}
use Rattle.isel_spec.specs.File.{File, Operation, Goal, operation, goal, scope}
use Rattle.isel_spec.specs.Spec.{file}
use Rattle.pattern_core.specs.declared.pattern.Src.{Src}
use Rattle.pattern_core.specs.declared.pattern.Src.TheVariants.{Input, Out}
use Rattle.pattern_core.specs.declared.pattern.Node.{Node}
use Rattle.pattern_core.specs.Pattern.{operation_sort, source_sort}
use Rattle.pattern_core.specs.Rule.{source_value, attr_values, op_results, outs_from}
use Rattle.pattern_core.specs.Pattern.{Pairwise, IsFitting, AreFitting}
use Rattle.pattern_core.specs.Meaning.{IsNodeGiven}
use Rattle.isel_spec.proofs.SpecLemmas.{operation_is, CanEval, CanEval-op}
use Rattle.list_lemmas.proofs.Lookups.{mapped_at, slice_get-append_left as slice_get-append, slice_get-at_end}
use Rattle.list_lemmas.proofs.Lookups.{some_at}

-- ---- attributes

attr_values-suc : (ws ns : List ℕ) (i d e : ℕ) → i < length ws → i < length ns
    → attr_values (drop i ws) (drop i ns) ≡ val.Bits (get_or ws i d) (get_or ns i e) ∷ attr_values (drop (suc i) ws)
    (drop (suc i) ns)
attr_values-suc [] ns i d e l k = absurd (omega (arith, l))
attr_values-suc (w ∷ ws) [] i d e l k = absurd (omega (arith, k))
attr_values-suc (w ∷ ws) (n ∷ ns) zero d e l k = refl
attr_values-suc (w ∷ ws) (n ∷ ns) (suc i) d e l k = attr_values-suc ws ns i d e (omega (arith, l)) (omega (arith, k))

pub attributes-more : (ws ns : List ℕ) (i d e : ℕ) (start so new : List Value) → i < length ws → i < length ns
    → so ++ attr_values (drop i ws) (drop i ns) ≡ start → new ≡ so ++ val.Bits (get_or ws i d) (get_or ns i e) ∷ []
    → new ++ attr_values (drop (i + 1) ws) (drop (i + 1) ns) ≡ start
attributes-more ws ns i d e start so new l k h is =
    let n : suc i ≡ i + 1 = omega arith in
    let step : attr_values (drop i ws) (drop i ns) ≡ val.Bits (get_or ws i d) (get_or ns i e) ∷ attr_values
    (drop (i + 1) ws) (drop (i + 1) ns) =
    subst (λ m. attr_values (drop i ws) (drop i ns) ≡ val.Bits (get_or ws i d) (get_or ns i e) ∷ attr_values (drop m ws)
    (drop m ns)) n (attr_values-suc ws ns i d e l k) in
    ap (λ xs. xs ++ attr_values (drop (i + 1) ws) (drop (i + 1) ns)) is
    ∙ append_assoc so (val.Bits (get_or ws i d) (get_or ns i e) ∷ [])
    (attr_values (drop (i + 1) ws) (drop (i + 1) ns)) ∙ ap (λ xs. so ++ xs) (sym step) ∙ h

attr_values-end : (ws ns : List ℕ) (i : ℕ) → i ≡ min (length ws) (length ns) → attr_values (drop i ws) (drop i ns) ≡ []
attr_values-end [] [] zero e = refl
attr_values-end [] (n ∷ ns) zero e = refl
attr_values-end (w ∷ ws) [] zero e = refl
attr_values-end (w ∷ ws) (n ∷ ns) zero e = absurd (omega (arith, e))
attr_values-end [] ns (suc i) e = absurd (omega (arith, e))
attr_values-end (w ∷ ws) [] (suc i) e = absurd (omega (arith, e))
attr_values-end (w ∷ ws) (n ∷ ns) (suc i) e = attr_values-end ws ns i (omega (arith, e))

pub attributes-all : (ws ns : List ℕ) (i : ℕ) (start so : List Value) → i ≡ min (length ws) (length ns)
    → so ++ attr_values (drop i ws) (drop i ns) ≡ start → so ≡ start
attributes-all ws ns i start so e h = sym (append-nil so) ∙ ap (λ xs. so ++ xs) (sym (attr_values-end ws ns i e)) ∙ h

attributes-sorted : (ws ns : List ℕ) → Pairwise (λ w a. a < 2 ^ w) ws ns
    → HaveSorts (map (λ w. sort.Bits w) ws) (attr_values ws ns)
attributes-sorted [] [] h = tt
attributes-sorted (w ∷ ws) (n ∷ ns) h = ((refl, h.0), attributes-sorted ws ns h.1)
attributes-sorted [] (n ∷ ns) h = absurd h
attributes-sorted (w ∷ ws) [] h = absurd h

HaveSorts-append : (ss ts : List Sort) (vs us : List Value) → HaveSorts ss vs → HaveSorts ts us
    → HaveSorts (ss ++ ts) (vs ++ us)
HaveSorts-append [] ts [] us h k = k
HaveSorts-append [] ts (v ∷ vs) us h k = absurd h
HaveSorts-append (s ∷ ss) ts [] us h k = absurd h
HaveSorts-append (s ∷ ss) ts (v ∷ vs) us h k = (h.0, HaveSorts-append ss ts vs us h.1 k)

-- ---- sources

-- each source of a node after the first k has a value of its sort
abbrev pub SourcesFit : File → Goal → List Node → ℕ → List Value → List (List Value) → Type 0
SourcesFit f g nodes k inputs outs =
    (s : Src) (t : Sort) → source_sort f g nodes k s ≡ Some t → HasSort t (source_value inputs outs s)

sources-sorted : (f : File) (g : Goal) (nodes : List Node) (k : ℕ) (inputs : List Value) (outs : List (List Value))
    → SourcesFit f g nodes k inputs outs → (xs : List Src) (ss : List Sort)
    → map (source_sort f g nodes k) xs ≡ map (λ (s : Sort). Some s) ss
    → HaveSorts ss (map (source_value inputs outs) xs)
sources-sorted f g nodes k inputs outs h [] [] e = tt
sources-sorted f g nodes k inputs outs h [] (s ∷ ss) e = absurd (cc)
sources-sorted f g nodes k inputs outs h (x ∷ xs) [] e = absurd (cc)
sources-sorted f g nodes k inputs outs h (x ∷ xs) (s ∷ ss) e =
    let first : source_sort f g nodes k x ≡ Some s = cc in
    let rest : map (source_sort f g nodes k) xs ≡ map (λ (s : Sort). Some s) ss = cc in
    (h x s first, sources-sorted f g nodes k inputs outs h xs ss rest)

-- the arguments and attributes of a node that fits
pub node-sorted : (f : File) (g : Goal) (nodes : List Node) (k : ℕ) (inputs : List Value) (outs : List (List Value))
    (n : Node) (o : Operation) → SourcesFit f g nodes k inputs outs → IsFitting f g nodes k n
    → slice_get f.ops n.op ≡ Some o
    → HaveSorts (o.args ++ map (λ w. sort.Bits w) o.attrs)
    (map (source_value inputs outs) n.args ++ attr_values o.attrs n.attrs)
node-sorted f g nodes k inputs outs n o h fit there =
    let same : fit.operation ≡ o = same_Some fit.operation o (sym fit.in_file ∙ there) in
    let Sorted : Operation → Type 0 =
    λ x. HaveSorts (x.args ++ map (λ w. sort.Bits w) x.attrs)
    (map (source_value inputs outs) n.args ++ attr_values x.attrs n.attrs) in
    subst Sorted same
    (HaveSorts-append fit.operation.args (map (λ w. sort.Bits w) fit.operation.attrs)
    (map (source_value inputs outs) n.args) (attr_values fit.operation.attrs n.attrs)
    (sources-sorted f g nodes k inputs outs h n.args fit.operation.args fit.args)
    (attributes-sorted fit.operation.attrs n.attrs fit.attrs))

result_fits : (s : Spec) (name : List ℕ) (d : OpDef) (vs : List Value) (r : ℕ) (u : Term) → CanEval s.terms vs d.results
    → slice_get (operation s.terms (name, d)).results r ≡ Some u → InputsFit vs u
result_fits s name d vs r u can e =
    let at = mapped_at (λ (a : TermId). term_in (terms_of s.terms) a.0) d.results r u e in
    let l = slice_get_within d.results r at.0 at.1 in
    let here : get_or d.results r at.0 ≡ at.0 = get_or_from_slice_get d.results r at.0 at.0 at.1 in
    subst (InputsFit vs) at.2 (subst (λ (a : TermId). InputsFit vs (term_at s.terms a)) here (can.fit r at.0 l))

-- a result of an operation has its sort
pub result-sorted : (p : ℕ) (o : Operation) (vs : List Value) (r : ℕ) (t : Sort)
    → ((u : Term) → slice_get o.results r ≡ Some u → InputsFit vs u)
    → option_and_then (sort_of p) (slice_get o.results r) ≡ Some t
    → HasSort t (unwrap_or (slice_get (map (value vs) o.results) r) (val.Bool false))
result-sorted p o vs r t fits e =
    subst (λ (x : Option Value). HasSort t (unwrap_or x (val.Bool false))) (sym (slice_get-map (value vs) o.results r))
    (by (slice_get o.results r) fits e)
  where
    by : (x : Option Term) → ((u : Term) → x ≡ Some u → InputsFit vs u) → option_and_then (sort_of p) x ≡ Some t
        → HasSort t (unwrap_or (option_map (value vs) x) (val.Bool false))
    by None fits e = absurd (cc)
    by (Some u) fits e = value-sorted p vs u t e (fits u refl)

-- ---- nodes, one by one

-- the results of the nodes before a place, which is how many there are
pub record IsGiven (s : Spec) (g_at : ℕ) (nodes : List Node) (inputs : List Value) (outs : List (List Value))
    (place : ℕ) : Type 0 where
  pub so_far : outs_from (file s) inputs outs (drop place nodes) ≡ outs_from (file s) inputs [] nodes
  pub long : length outs ≡ place
  pub sorted : (g : Goal) → slice_get (file s).goals g_at ≡ Some g → (x : Src) (t : Sort)
      → source_sort (file s) g nodes place x ≡ Some t → HasSort t (source_value inputs outs x)

pub no_source : (f : File) (g : Goal) (nodes : List Node) (inputs : List Value) → HaveSorts g.args inputs
    → SourcesFit f g nodes 0 inputs []
no_source f g nodes inputs h (Input k) t e =
    let v = HaveSorts-at g.args inputs h k t e in
    subst (HasSort t) (ap (λ o. unwrap_or o (val.Bool false)) (sym v.1)) v.2
no_source f g nodes inputs h (Out node r) t e =
    let none : nat_lt node 0 ≡ false = grind (arith, nat_tests) in
    let no : None ≡ Some t =
    ap (λ b. cond b (operation_sort f (option_and_then (λ (n : Node). slice_get f.ops n.op) (slice_get nodes node)) r)
    None) (sym none) ∙ e in
    absurd (cc)

pub IsGiven-start : (s : Spec) (g_at : ℕ) (nodes : List Node) (inputs : List Value) (outs : List (List Value))
    → outs ≡ [] → ((g : Goal) → slice_get (file s).goals g_at ≡ Some g → HaveSorts g.args inputs)
    → IsGiven s g_at nodes inputs outs 0
IsGiven-start s g_at nodes inputs outs e h = record {
  so_far = ap (λ os. outs_from (file s) inputs os nodes) e;
  long = ap length e;
  sorted =
      λ g there. subst (SourcesFit (file s) g nodes 0 inputs) (sym e) (no_source (file s) g nodes inputs (h g there));
}

abbrev out_sort : File → List Node → ℕ → ℕ → Option Sort
out_sort f nodes node r =
    operation_sort f (option_and_then (λ (n : Node). slice_get f.ops n.op) (slice_get nodes node)) r

pub one_more : (f : File) (g : Goal) (nodes : List Node) (k : ℕ) (inputs : List Value) (outs : List (List Value))
    (new : List Value) (n : Node) → length outs ≡ k → slice_get nodes k ≡ Some n → SourcesFit f g nodes k inputs outs
    → ((r : ℕ) (t : Sort) → operation_sort f (slice_get f.ops n.op) r ≡ Some t
    → HasSort t (unwrap_or (slice_get new r) (val.Bool false)))
    → SourcesFit f g nodes (k + 1) inputs (outs ++ new ∷ [])
one_more f g nodes k inputs outs new n long here old fresh (Input i) t e = old (Input i) t e
one_more f g nodes k inputs outs new n long here old fresh (Out node r) t e =
    elim (cases_order node k) [
      | inl same ↦ (let yes : nat_lt node (k + 1) ≡ true = grind (arith, nat_tests) in
          let sorted : out_sort f nodes node r ≡ Some t =
          ap (λ b. cond b (out_sort f nodes node r) None) (sym yes) ∙ e in
          let at : slice_get nodes node ≡ Some n = ap (slice_get nodes) same ∙ here in
          let there : operation_sort f (slice_get f.ops n.op) r ≡ Some t =
          ap (λ (o : Option Node). operation_sort f (option_and_then (λ (n : Node). slice_get f.ops n.op) o) r)
          (sym at) ∙ sorted in
          let last : slice_get (outs ++ new ∷ []) node ≡ Some new = slice_get-at_end outs new [] node (omega arith) in
          subst (λ (o : Option (List Value)). HasSort t (unwrap_or (slice_get (unwrap_or o []) r) (val.Bool false)))
          (sym last) (fresh r t there))
      | inr other ↦ elim other [
        | inl less ↦ (let yes : nat_lt node (k + 1) ≡ true = grind (arith, nat_tests) in
            let yet : nat_lt node k ≡ true = grind (arith, nat_tests) in
            let sorted : out_sort f nodes node r ≡ Some t =
            ap (λ b. cond b (out_sort f nodes node r) None) (sym yes) ∙ e in
            let before = old (Out node r) t (ap (λ b. cond b (out_sort f nodes node r) None) yet ∙ sorted) in
            let stays : slice_get (outs ++ new ∷ []) node ≡ slice_get outs node =
            slice_get-append outs (new ∷ []) node (omega arith) in
            subst (λ (o : Option (List Value)). HasSort t (unwrap_or (slice_get (unwrap_or o []) r) (val.Bool false)))
            (sym stays) before)
        | inr more ↦ (let not_yet : nat_lt node (k + 1) ≡ false = grind (arith, nat_tests) in
            let no : None ≡ Some t = ap (λ b. cond b (out_sort f nodes node r) None) (sym not_yet) ∙ e in
            absurd (cc))
      ]
    ]

pub IsNodeGiven-from : (s : Spec) (g_at : ℕ) (g : Goal) (nodes : List Node) (inputs : List Value)
    (outs : List (List Value)) (place : ℕ) (n : Node) → slice_get (file s).goals g_at ≡ Some g
    → IsGiven s g_at nodes inputs outs place
    → AreFitting (file s) g nodes → slice_get nodes place ≡ Some n → IsNodeGiven s n inputs outs
IsNodeGiven-from s g_at g nodes inputs outs place n there h fits at =
    let fit = fits place n at in
    let l : n.op < length (map (operation s.terms) s.ops) =
    slice_get_within (map (operation s.terms) s.ops) n.op fit.operation fit.in_file in
    record {
      there = subst (λ m. n.op < m) (length-map s.ops (operation s.terms)) l;
      sorted =
          λ name d e. node-sorted (file s) g nodes place inputs outs n (operation s.terms (name, d))
          (h.sorted g there) fit (operation_is s n.op name d e);
    }

-- what a node's results are
results-are : (s : Spec) (n : Node) (name : List ℕ) (d : OpDef) (args : List Value)
    → slice_get s.ops n.op ≡ Some (name, d)
    → op_results (slice_get (file s).ops n.op) n.attrs args ≡ map (value (args ++ attr_values d.attrs n.attrs))
    (operation s.terms (name, d)).results
results-are s n name d args e = ap (λ o. op_results o n.attrs args) (operation_is s n.op name d e)

values-map : (ts : List Term) (vs : List Value) (ats : List TermId)
    → map (value vs) (map (λ (at : TermId). term_in ts at.0) ats) ≡ map
    (λ (at : TermId). value vs (term_in ts at.0)) ats
values-map ts vs [] = refl
values-map ts vs (at ∷ ats) = ap (λ xs. value vs (term_in ts at.0) ∷ xs) (values-map ts vs ats)

pub node_values : (s : Spec) (n : Node) (name : List ℕ) (d : OpDef) (k : ℕ) (args values : List Value)
    (results : List TermId) → k ≡ n.op → slice_get s.ops k ≡ Some (name, d) → results ≡ d.results
    → values ≡ args ++ attr_values d.attrs n.attrs
    → map (λ (at : TermId). value values (term_at s.terms at)) results ≡ op_results
    (slice_get (file s).ops n.op) n.attrs args
node_values s n name d k args values results same e as' v =
    (λ i. map (λ (at : TermId). value (v i) (term_at s.terms at)) (as' i))
    ∙ sym (values-map (terms_of s.terms) (args ++ attr_values d.attrs n.attrs) d.results)
    ∙ sym (results-are s n name d args (ap (slice_get s.ops) (sym same) ∙ e))

pub CanEval-node : (s : Spec) (n : Node) (name : List ℕ) (d : OpDef) (k : ℕ) (inputs : List Value)
    (outs : List (List Value)) (values : List Value) (results : List TermId) → IsNodeGiven s n inputs outs → k ≡ n.op
    → slice_get s.ops k ≡ Some (name, d) → results ≡ d.results
    → values ≡ map (source_value inputs outs) n.args ++ attr_values d.attrs n.attrs → CanEval s.terms values results
CanEval-node s n name d k inputs outs values results h same e as' v =
    let at : slice_get s.ops n.op ≡ Some (name, d) = ap (slice_get s.ops) (sym same) ∙ e in
    CanEval-op s k name d results values e as' (subst (HaveSorts (scope d)) (sym v) (h.sorted name d at))

pub some_goal : (s : Spec) (k : ℕ) → k < length s.goals → (g : Goal) × (slice_get (file s).goals k ≡ Some g)
some_goal s k l = some_at (file s).goals k (subst (λ m. k < m) (sym (length-map s.goals (goal s.terms))) l)

pub IsGiven-more : (s : Spec) (g_at : ℕ) (nodes : List Node) (inputs : List Value) (outs : List (List Value))
    (place : ℕ) (n : Node) (new : List Value) (more : List (List Value)) → IsGiven s g_at nodes inputs outs place
    → slice_get nodes place ≡ Some n → place < length nodes → n ≡ get_or nodes place n → IsNodeGiven s n inputs outs
    → new ≡ op_results (slice_get (file s).ops n.op) n.attrs (map (source_value inputs outs) n.args)
    → more ≡ outs ++ new ∷ [] → IsGiven s g_at nodes inputs more (place + 1)
IsGiven-more s g_at nodes inputs outs place n new more h at l item given is grown =
    let f = file s in
    let args : List Value = map (source_value inputs outs) n.args in
    let pair = some_at s.ops n.op given.there in
    let name : List ℕ = pair.0.0 in
    let d : OpDef = pair.0.1 in
    let e : slice_get s.ops n.op ≡ Some (name, d) = pair.1 in
    let o : Operation = operation s.terms (name, d) in
    let vs : List Value = args ++ attr_values d.attrs n.attrs in
    let can = CanEval-op s n.op name d d.results vs e refl (given.sorted name d e) in
    let there : slice_get (file s).ops n.op ≡ Some o = operation_is s n.op name d e in
    let new_is : new ≡ map (value vs) o.results = is ∙ results-are s n name d args e in
    let fresh : (r : ℕ) (t : Sort) → operation_sort (file s) (slice_get (file s).ops n.op) r ≡ Some t
    → HasSort t (unwrap_or (slice_get new r) (val.Bool false)) =
    λ r t sorted. subst (λ (xs : List Value). HasSort t (unwrap_or (slice_get xs r) (val.Bool false))) (sym new_is)
    (result-sorted s.pointer o vs r t (λ u q. result_fits s name d vs r u can q)
    (ap (λ x. operation_sort (file s) x r) (sym there) ∙ sorted)) in
    let front : drop place nodes ≡ n ∷ drop (place + 1) nodes =
    drop_more nodes place n l ∙ ap (λ x. x ∷ drop (place + 1) nodes) (sym item) in
    let step : outs_from (file s) inputs outs (drop place nodes) ≡ outs_from (file s) inputs
    (outs ++ op_results (slice_get (file s).ops n.op) n.attrs args ∷ []) (drop (place + 1) nodes) =
    ap (outs_from (file s) inputs outs) front in
    record {
      so_far =
          ap (λ os. outs_from (file s) inputs os (drop (place + 1) nodes)) (grown ∙ ap (λ x. outs ++ x ∷ []) is)
          ∙ sym step ∙ h.so_far;
      long = ap length grown ∙ length_push outs new ∙ ap (λ m. m + 1) h.long;
      sorted =
          λ g q. subst (λ os. (x : Src) (t : Sort) → source_sort (file s) g nodes (place + 1) x ≡ Some t
          → HasSort t (source_value inputs os x)) (sym grown)
          (one_more (file s) g nodes place inputs outs new n h.long at (h.sorted g q) fresh);
    }

pub IsGiven-end : (s : Spec) (g_at : ℕ) (nodes : List Node) (inputs : List Value) (outs : List (List Value)) (place : ℕ)
    → IsGiven s g_at nodes inputs outs place → length nodes ≤ place → outs ≡ outs_from (file s) inputs [] nodes
IsGiven-end s g_at nodes inputs outs place h l =
    sym (at_drop_all (outs_from (file s) inputs outs) nodes place l) ∙ h.so_far

-- ---- values in the places of nodes

-- where the values of some nodes' terms stand, those of results among them do
pub values-stand : (table : Table) (inputs room : List Value) (nodes results : List TermId)
    → All (IsValued table inputs room) nodes
    → All (Contains nodes) results
    → values_in room results ≡ map (λ (at : TermId). value inputs (term_at table at)) results
values-stand table inputs room nodes [] all within = refl
values-stand table inputs room nodes (at ∷ results) all within =
    let there = All-head (Contains nodes) at results within in
    let here = subst (IsValued table inputs room) there.2 (all there.0 at there.1) in
    let first = ap (λ (o : Option Value). unwrap_or o (val.Bool false)) here in
    let rest = values-stand table inputs room nodes results all (All-tail (Contains nodes) at results within) in
    λ i. first i ∷ rest i
